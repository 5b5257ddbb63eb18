-- What the first bytes of a record say.
use Rattle.std.proofs.Common.{◌≡◌, ℕ, ◌+◌, ◌-◌, ◌*◌, ◌<◌, ◌≤◌, true, false, eqb, ltb, leb, List, [], ◌∷◌, length, get_or, take, drop, Some, Option, refl, ap, ◌∙◌, arith}
use Rattle.std.proofs.lemmas.List.{take_rest, get_or-drop, length-drop}
use Rattle.std.proofs.lemmas.Bool.{le-leb, eq-eqb, ne_eqb, le-ltb, lt-ltb}
use Rattle.certificate.specs.Hinted.{short, word, counted, entry, addition_entry, stated, records, hinted}
use Rattle.certificate.specs.Stream.{Step, delete, unreadable}

counted_at : (most a b n : ℕ) (bs : List ℕ) → n ≡ short a b → n ≤ most → 4 * n ≤ length bs → Some (take (4 * n) bs, drop (4 * n) bs) ≡ counted most (a ∷ b ∷ bs)
counted_at most a b n bs e l m =
    let p : leb (short a b) most ≡ true = le-leb _ _ (omega arith) in
    let q : leb (4 * short a b) (length bs) ≡ true = le-leb _ _ (omega arith) in
    rw (p, q, e) refl

pub counted_cut : (most n : ℕ) (bs : List ℕ) → 2 ≤ length bs → n ≡ get_or bs 0 0 + get_or bs 1 0 * 256 → n ≤ most → 4 * n ≤ length (take (length bs - 2) (drop 2 bs)) → Some (take (4 * n - 0) (take (length bs - 2) (drop 2 bs)), take (length (take (length bs - 2) (drop 2 bs)) - 4 * n) (drop (4 * n) (take (length bs - 2) (drop 2 bs)))) ≡ counted most bs
counted_cut most n [] l e u v = absurd (omega arith)
counted_cut most n (a ∷ []) l e u v = absurd (omega arith)
counted_cut most n (a ∷ b ∷ bs) l e u v =
    let r : take (length (a ∷ b ∷ bs) - 2) bs ≡ bs = take_rest (a ∷ b ∷ bs) 2 in
    let z : 4 * n - 0 ≡ 4 * n = omega arith in
    let w : 4 * n ≤ length bs = rw r at v in
    rw (r, take_rest bs (4 * n), z) (counted_at most a b n bs e u w)

pub addition_found : (bs : List ℕ) (o : Option (Step × List ℕ)) → 0 < length bs → get_or bs 0 0 ≡ 97 → o ≡ addition_entry (take (length bs - 1) (drop 1 bs)) → o ≡ entry bs
addition_found [] o l e h = absurd (omega arith)
addition_found (b ∷ bs) o l e h =
    let q : eqb b 97 ≡ true = eq-eqb b 97 e in
    rw q (h ∙ ap addition_entry (take_rest (b ∷ bs) 1))

entry_deletion : (bs : List ℕ) → 5 ≤ length bs → get_or bs 0 0 ≡ 100 → Some (delete (word (get_or bs 1 0) (get_or bs 2 0) (get_or bs 3 0) (get_or bs 4 0)), drop 5 bs) ≡ entry bs
entry_deletion [] l e = absurd (omega arith)
entry_deletion (k ∷ []) l e = absurd (omega arith)
entry_deletion (k ∷ a ∷ []) l e = absurd (omega arith)
entry_deletion (k ∷ a ∷ b ∷ []) l e = absurd (omega arith)
entry_deletion (k ∷ a ∷ b ∷ c ∷ []) l e = absurd (omega arith)
entry_deletion (k ∷ a ∷ b ∷ c ∷ d ∷ bs) l e =
    let p : eqb k 97 ≡ false = ne_eqb k 97 (λ h. omega arith) in
    let q : eqb k 100 ≡ true = eq-eqb k 100 e in
    rw (p, q) refl

pub deletion_found : (bs : List ℕ) (n : ℕ) → 5 ≤ length bs → get_or bs 0 0 ≡ 100 → n ≡ word (get_or bs 1 0) (get_or bs 2 0) (get_or bs 3 0) (get_or bs 4 0) → Some (delete n, take (length bs - 5) (drop 5 bs)) ≡ entry bs
deletion_found bs n l e h = rw (h, take_rest bs 5) (entry_deletion bs l e)

stated_first : (bs : List ℕ) → 4 ≤ length bs → Some (word (get_or bs 0 0) (get_or bs 1 0) (get_or bs 2 0) (get_or bs 3 0)) ≡ stated bs
stated_first [] l = absurd (omega arith)
stated_first (a ∷ []) l = absurd (omega arith)
stated_first (a ∷ b ∷ []) l = absurd (omega arith)
stated_first (a ∷ b ∷ c ∷ []) l = absurd (omega arith)
stated_first (a ∷ b ∷ c ∷ d ∷ bs) l = refl

stated_at : (bs : List ℕ) (i : ℕ) → i + 4 ≤ length bs → Some (word (get_or bs i 0) (get_or bs (i + 1) 0) (get_or bs (i + 2) 0) (get_or bs (i + 3) 0)) ≡ stated (drop i bs)
stated_at bs i l =
    let z : i + 0 ≡ i = omega arith in
    let e = stated_first (drop i bs) (omega (arith, length-drop i bs)) in
    rw z at (simp get_or-drop at e)

pub trailer_read : (bs : List ℕ) (n : ℕ) → 8 ≤ length bs → n ≡ word (get_or bs (length bs - 8) 0) (get_or bs (length bs - 7) 0) (get_or bs (length bs - 6) 0) (get_or bs (length bs - 5) 0) → records (Some n) 0 (take (length bs - 8) bs) ≡ hinted bs
trailer_read bs n l e =
    let p : ltb (length bs) 8 ≡ false = le-ltb (length bs) 8 l in
    let i : length bs - 8 + 1 ≡ length bs - 7 = omega arith in
    let j : length bs - 8 + 2 ≡ length bs - 6 = omega arith in
    let k : length bs - 8 + 3 ≡ length bs - 5 = omega arith in
    let s = rw (i, j, k) at (stated_at bs (length bs - 8) (omega arith)) in
    rw (p, e, s) refl

pub trailer_cut : (bs : List ℕ) → length bs < 8 → unreadable 0 ≡ hinted bs
trailer_cut bs l = let p : ltb (length bs) 8 ≡ true = lt-ltb (length bs) 8 l in rw p refl
