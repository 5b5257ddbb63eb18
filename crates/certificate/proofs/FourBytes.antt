-- A loop over numbers of four bytes each.
use Rattle.std.proofs.Common.{◌≡◌, ℕ, suc, ◌+◌, ◌-◌, ◌/◌, ◌<◌, ◌≤◌, List, [], ◌∷◌, ◌++◌, length, take, drop, Ok, Err, Result, refl, ap, ◌∙◌, arith, length-append}
use Rattle.std.proofs.lemmas.List.{take_rest, append_assoc}
use Rattle.text.specs.Lists.{each}
use Rattle.text.specs.Rows.{Pushes}
use Rattle.certificate.specs.Hinted.{word_in, words}

words_first : (bs : List ℕ) → 4 ≤ length bs → words bs ≡ word_in bs ∷ words (drop 4 bs)
words_first [] l = absurd (omega arith)
words_first (a ∷ []) l = absurd (omega arith)
words_first (a ∷ b ∷ []) l = absurd (omega arith)
words_first (a ∷ b ∷ c ∷ []) l = absurd (omega arith)
words_first (a ∷ b ∷ c ∷ d ∷ bs) l = refl

pub length-each : {X Y : Type 0} (f : X → Y) (xs : List X) → length (each f xs) ≡ length xs
length-each f [] = refl
length-each f (x ∷ xs) = ap suc (length-each f xs)

pub words_more : {T : Type 0} (f : ℕ → T) (bs : List ℕ) (xs ys all : List T) (w : T) → 4 ≤ length bs → w ≡ f (word_in bs) → ys ≡ xs ++ w ∷ [] → xs ++ each f (words bs) ≡ all → ys ++ each f (words (take (length bs - 4) (drop 4 bs))) ≡ all
words_more f bs xs ys all w l e p h =
    let t = take_rest bs 4 in
    let q : xs ++ each f (word_in bs ∷ words (drop 4 bs)) ≡ all = rw (words_first bs l) at h in
    rw (t, p, e) (append_assoc xs (f (word_in bs) ∷ []) (each f (words (drop 4 bs))) ∙ q)

-- each of them has a place
pub words_fit : {T : Type 0} (f : ℕ → T) (bs cs : List ℕ) (xs ys : List T) (n : ℕ) → 4 ≤ length bs → length ys + length (words cs) ≤ n → xs ++ each f (words bs) ≡ ys ++ each f (words cs) → length xs < n
words_fit f bs cs xs ys n l m h =
    let q : xs ++ each f (word_in bs ∷ words (drop 4 bs)) ≡ ys ++ each f (words cs) = rw (words_first bs l) at h in
    let k = ap length q in
    omega (arith, length-append xs (each f (word_in bs ∷ words (drop 4 bs))), length-append ys (each f (words cs)), length-each f (words cs), length-each f (words (drop 4 bs)), k)

pub pushed : {T U F : Type 0} (n : ℕ) (xs ys : List T) (x : T) (o : Result U F) → length xs < n → Pushes n xs x ys o → ys ≡ xs ++ x ∷ []
pushed n xs ys x (Ok u) l p = p.1
pushed n xs ys x (Err e) l p = absurd (omega (arith, p.0))

pub length-words : (bs : List ℕ) → length (words bs) ≡ length bs / 4
length-words [] = refl
length-words (a ∷ []) = refl
length-words (a ∷ b ∷ []) = refl
length-words (a ∷ b ∷ c ∷ []) = refl
length-words (a ∷ b ∷ c ∷ d ∷ bs) = let h = length-words bs in omega arith
