-- Records that were written are read again.
use Rattle.std.proofs.Common.{◌≡◌, ℕ, zero, suc, ◌+◌, ◌-◌, ◌*◌, ◌/◌, ◌%◌, ◌≤◌, true, false, eqb, ltb, leb, List, [], ◌∷◌, ◌++◌, length, take, drop, ℤ, Some, None, Option, sym, refl, ap, ◌∙◌, add-one, arith, length-append, w32, SFits, to_z, of_z}
use Rattle.std.proofs.lemmas.List.{append_assoc, append-nil, take_at, drop_at}
use Rattle.std.proofs.lemmas.Int.{to_z-of_z}
use Rattle.std.proofs.lemmas.Bool.{eq-eqb, le-leb, le-ltb}
use Rattle.text.specs.Lists.{each, each_all, Each}
use Rattle.certificate.specs.Form.{mark}
use Rattle.certificate.specs.Hinted.{word, words, counted, hinted_addition, addition_entry, entry, records, stated, hinted}
use Rattle.certificate.specs.Stream.{Step, add, delete, Placed, Stream, on_top, places, numbered}
use Rattle.certificate.specs.Writing.{short_bytes, word_bytes, record_bytes, hinted_bytes, InRecord, Writable, complete, HintedBack, HintedFirst}
use Rattle.certificate.proofs.Unread.{records_first}

short_back : (n : ℕ) → n % 256 + n / 256 * 256 ≡ n
short_back n = omega arith

word_back : (n : ℕ) → word (n % 256) (n / 256 % 256) (n / 256 / 256 % 256) (n / 256 / 256 / 256) ≡ n
word_back n = omega arith

literals_back : (zs : List ℤ) → Each (SFits w32) zs → each (to_z w32) (words (each_all (λ z. word_bytes (of_z w32 z)) zs)) ≡ zs
literals_back [] e = refl
literals_back (z ∷ zs) e = rw (word_back (of_z w32 z), to_z-of_z w32 z e.0, literals_back zs e.1) refl

hints_back : (xs : List ℕ) → words (each_all word_bytes xs) ≡ xs
hints_back [] = refl
hints_back (x ∷ xs) = rw (word_back x, hints_back xs) refl

length_words_written : {X : Type 0} (f : X → ℕ) (xs : List X) → length (each_all (λ x. word_bytes (f x)) xs) ≡ 4 * length xs
length_words_written f [] = refl
length_words_written f (x ∷ xs) = let h = length_words_written f xs in omega arith

counted_written : (most n : ℕ) (xs ys : List ℕ) → length xs ≡ 4 * n → n ≤ most → counted most (short_bytes n ++ (xs ++ ys)) ≡ Some (xs, ys)
counted_written most n xs ys l m =
    let e = short_back n in
    let p : leb n most ≡ true = le-leb n most m in
    let q : leb (4 * n) (length (xs ++ ys)) ≡ true = le-leb _ _ (omega (arith, length-append xs ys)) in
    rw (e, p, q, take_at xs ys (4 * n) l, drop_at xs ys (4 * n) l) refl

addition_read : (xs ys cs ks r : List ℕ) → counted 512 xs ≡ Some (cs, ys) → counted 65535 ys ≡ Some (ks, r) → addition_entry xs ≡ Some (hinted_addition cs ks, r)
addition_read xs ys cs ks r a b = rw (a, b) refl

entry_written : (t : Step) (r : List ℕ) → InRecord t → Some (t, r) ≡ entry (record_bytes t ++ r)
entry_written (add c None) r h = absurd h
entry_written (add c (Some hs)) r h =
    let cs = each_all (λ z. word_bytes (of_z w32 z)) c in
    let ks = each_all word_bytes hs in
    let a : counted 512 (short_bytes (length c) ++ (cs ++ (short_bytes (length hs) ++ (ks ++ r)))) ≡ Some (cs, short_bytes (length hs) ++ (ks ++ r)) = counted_written 512 (length c) cs (short_bytes (length hs) ++ (ks ++ r)) (length_words_written (of_z w32) c) h.0 in
    let b : counted 65535 (short_bytes (length hs) ++ (ks ++ r)) ≡ Some (ks, r) = counted_written 65535 (length hs) ks r (length_words_written (λ n. n) hs) (omega (arith, h.2)) in
    let u : each (to_z w32) (words cs) ≡ c = literals_back c h.1 in
    let v : words ks ≡ hs = hints_back hs in
    let q = append_assoc cs (short_bytes (length hs) ++ ks) r in
    let w : hinted_addition cs ks ≡ add c (Some hs) = rw (u, v) refl in
    let e : addition_entry (short_bytes (length c) ++ ((cs ++ (short_bytes (length hs) ++ ks)) ++ r)) ≡ Some (add c (Some hs), r) = rw q (addition_read (short_bytes (length c) ++ (cs ++ (short_bytes (length hs) ++ (ks ++ r)))) (short_bytes (length hs) ++ (ks ++ r)) cs ks r a b ∙ ap (λ x. Some (x, r)) w) in
    sym e
entry_written (delete n) r h = rw (word_back n) refl

-- steps before those of a stream
abbrev pub before : List Placed → Stream → Stream
before ps s = record { steps = ps ++ s.steps; ending = s.ending }

records_front : (o : Option ℕ) (n : ℕ) (ts : List Step) (r : List ℕ) → Each InRecord ts → n + length ts ≤ places → records o n (each_all record_bytes ts ++ r) ≡ before (numbered n ts) (records o (n + length ts) r)
records_front o n [] r h l = let z : n + 0 ≡ n = omega arith in rw z refl
records_front o n (t ∷ ts) r h l =
    let rest = each_all record_bytes ts ++ r in
    let a = append_assoc (record_bytes t) (each_all record_bytes ts) r in
    let f = records_first o n (record_bytes t ++ rest) t rest (omega arith) (entry_written t rest h.0) in
    let g = records_front o (n + 1) ts r h.1 (omega arith) in
    let q : n + 1 + length ts ≡ n + suc (length ts) = omega arith in
    ap (records o n) a ∙ f ∙ ap (on_top (record { place = n + 1; step = t })) (g ∙ ap (λ k. before (numbered (n + 1) ts) (records o k r)) q) ∙ (rw (add-one n) refl)

records_written : (ts : List Step) → Each InRecord ts → length ts ≤ places → records (Some (length ts)) 0 (each_all record_bytes ts) ≡ complete ts
records_written ts h l =
    let z : 0 + length ts ≡ length ts = omega arith in
    let f = records_front (Some (length ts)) 0 ts [] h (omega arith) in
    let q : eqb (length ts) (length ts) ≡ true = eq-eqb (length ts) (length ts) refl in
    ap (records (Some (length ts)) 0) (sym (append-nil (each_all record_bytes ts))) ∙ f ∙ (rw (z, q, append-nil (numbered 0 ts)) refl)

trailer_written : (n : ℕ) → stated (word_bytes n ++ mark) ≡ Some n
trailer_written n = rw (word_back n) refl

pub hinted_written : (ts : List Step) → Writable InRecord ts → hinted (hinted_bytes ts) ≡ complete ts
hinted_written ts h =
    let xs = each_all record_bytes ts in
    let ys = word_bytes (length ts) ++ mark in
    let l : length (xs ++ ys) ≡ length xs + 8 = length-append xs ys in
    let i : length xs ≡ length (xs ++ ys) - 8 = omega arith in
    let p : ltb (length (xs ++ ys)) 8 ≡ false = le-ltb _ _ (omega arith) in
    let t = take_at xs ys (length (xs ++ ys) - 8) i in
    let d = drop_at xs ys (length (xs ++ ys) - 8) i in
    rw (p, t, d, trailer_written (length ts)) (records_written ts h.0 h.1)

pub hinted_back : (bs : List ℕ) (s : Stream) → s ≡ hinted bs → HintedBack bs s
hinted_back bs s e ts h b = e ∙ ap hinted b ∙ hinted_written ts h

take_past : {X : Type 0} (xs ys : List X) (m n : ℕ) → m ≡ length xs + n → take m (xs ++ ys) ≡ xs ++ take n ys
take_past [] ys m n e = let q : m ≡ n = omega arith in rw q refl
take_past (x ∷ xs) ys zero n e = absurd (omega arith)
take_past (x ∷ xs) ys (suc m) n e = ap (λ t. x ∷ t) (take_past xs ys m n (omega arith))

pub hinted_first : (bs : List ℕ) (s : Stream) → s ≡ hinted bs → HintedFirst bs s
hinted_first bs s e ts r h l b =
    let xs = each_all record_bytes ts in
    let o = stated (drop (length bs - 8) bs) in
    let k = ap length b ∙ length-append xs r in
    let p : ltb (length bs) 8 ≡ false = le-ltb _ _ (omega arith) in
    let t : take (length bs - 8) bs ≡ xs ++ take (length r - 8) r = ap (take (length bs - 8)) b ∙ take_past xs r (length bs - 8) (length r - 8) (omega arith) in
    let m = h.1 in
    let f = records_front o 0 ts (take (length r - 8) r) h.0 (omega arith) in
    let g : hinted bs ≡ records o 0 (take (length bs - 8) bs) = rw p refl in
    ((records o (0 + length ts) (take (length r - 8) r)).steps, ap (λ x. x.steps) (e ∙ g ∙ ap (records o 0) t ∙ f))
