-- The records that are left after the first.
use Rattle.std.proofs.Common.{◌≡◌, ℕ, zero, suc, ◌+◌, ◌*◌, ◌<◌, ◌≤◌, true, cond, ◌&&◌, eqb, ltb, leb, List, [], ◌∷◌, length, take, drop, Some, None, Option, sym, refl, ap, subst, add-one, arith}
use Rattle.std.proofs.lemmas.List.{length-drop}
use Rattle.std.proofs.lemmas.Bool.{cond_both, lt-ltb}
use Rattle.std.specs.Option.{option_map}
use Rattle.certificate.specs.Hinted.{short, counted, hinted_addition, addition_entry, deletion_entry, entry, records_in, records}
use Rattle.certificate.specs.Stream.{Step, on_top, or_unreadable, then, while_places}

-- no more bytes are left than there were
abbrev pub Within : {X : Type 0} → ℕ → Option (X × List ℕ) → Type 0
Within n None = Unit {0}
Within n (Some e) = length e.1 ≤ n

counted_within : (most : ℕ) (bs : List ℕ) → Within (length bs) (counted most bs)
counted_within most [] = tt
counted_within most (a ∷ []) = tt
counted_within most (a ∷ b ∷ bs) =
    cond_both (leb (short a b) most && leb (4 * short a b) (length bs)) (Some (take (4 * short a b) bs, drop (4 * short a b) bs)) None (Within (length (a ∷ b ∷ bs))) (λ _. omega (arith, length-drop (4 * short a b) bs)) (λ _. tt)

hints_within : (n : ℕ) (ls : List ℕ) (o : Option (List ℕ × List ℕ)) → Within n o → Within n (option_map (λ q. (hinted_addition ls q.0, q.1)) o)
hints_within n ls None h = tt
hints_within n ls (Some q) h = h

within_more : {X : Type 0} (m n : ℕ) (o : Option (X × List ℕ)) → m ≤ n → Within m o → Within n o
within_more m n None l h = tt
within_more m n (Some e) l h = omega arith

literals_within : (n : ℕ) (o : Option (List ℕ × List ℕ)) → Within n o → Within n (then o (λ p. option_map (λ q. (hinted_addition p.0 q.0, q.1)) (counted 65535 p.1)))
literals_within n None h = tt
literals_within n (Some p) h =
    hints_within n p.0 (counted 65535 p.1) (within_more (length p.1) n (counted 65535 p.1) h (counted_within 65535 p.1))

deletion_within : (bs : List ℕ) → Within (length bs) (deletion_entry bs)
deletion_within [] = tt
deletion_within (a ∷ []) = tt
deletion_within (a ∷ b ∷ []) = tt
deletion_within (a ∷ b ∷ c ∷ []) = tt
deletion_within (a ∷ b ∷ c ∷ d ∷ bs) = omega arith

pub entry_within : (b : ℕ) (bs : List ℕ) → Within (length bs) (entry (b ∷ bs))
entry_within b bs =
    cond_both (eqb b 97) (addition_entry bs) (cond (eqb b 100) (deletion_entry bs) None) (Within (length bs))
    (λ _. literals_within (length bs) (counted 512 bs) (counted_within 512 bs))
    (λ _. cond_both (eqb b 100) (deletion_entry bs) None (Within (length bs)) (λ _. deletion_within bs) (λ _. tt))

records_in_enough : (k j : ℕ) (o : Option ℕ) (n : ℕ) (bs : List ℕ) → length bs ≤ k → length bs ≤ j → records_in k o n bs ≡ records_in j o n bs
records_in_enough zero zero o n bs a b = refl
records_in_enough zero (suc j) o n [] a b = refl
records_in_enough zero (suc j) o n (x ∷ bs) a b = absurd (omega arith)
records_in_enough (suc k) zero o n [] a b = refl
records_in_enough (suc k) zero o n (x ∷ bs) a b = absurd (omega arith)
records_in_enough (suc k) (suc j) o n [] a b = refl
records_in_enough (suc k) (suc j) o n (x ∷ bs) a b = ap (while_places n) (pick (entry (x ∷ bs)) (entry_within x bs) (records_in_enough k j o (suc n)))
  where
    pick : (e : Option (Step × List ℕ)) → Within (length bs) e → ((r : List ℕ) → length r ≤ k → length r ≤ j → records_in k o (suc n) r ≡ records_in j o (suc n) r) → or_unreadable (suc n) e (λ e. on_top (record { place = suc n; step = e.0 }) (records_in k o (suc n) e.1)) ≡ or_unreadable (suc n) e (λ e. on_top (record { place = suc n; step = e.0 }) (records_in j o (suc n) e.1))
    pick None w ih = refl
    pick (Some e) w ih = ap (on_top (record { place = suc n; step = e.0 })) (ih e.1 (omega arith) (omega arith))

pub records_first : (o : Option ℕ) (n : ℕ) (bs : List ℕ) (t : Step) (r : List ℕ) → n < 4294967294 → Some (t, r) ≡ entry bs → records o n bs ≡ on_top (record { place = n + 1; step = t }) (records o (n + 1) r)
records_first o n [] t r l h = let z : ◌≡◌ {A = ℕ} 0 1 = cc in absurd (omega arith)
records_first o n (b ∷ bs) t r l h =
    let q : ltb n 4294967294 ≡ true = lt-ltb n 4294967294 l in
    let w : Within (length bs) (Some (t, r)) = subst (Within (length bs)) (sym h) (entry_within b bs) in
    let e = records_in_enough (length bs) (length r) o (suc n) r w (omega arith) in
    rw (q, ← h, add-one n) (ap (on_top (record { place = suc n; step = t })) e)
