-- An assignment laid out by offsets, and what it reads at each of them.
use Rattle.std.proofs.Common.{◌≡◌, ℕ, zero, suc, ◌+◌, ◌-◌, ◌*◌, ◌/◌, ◌%◌, ◌<◌, ◌≤◌, Bool, true, false, cond, T, ltb, leb, List, [], ◌∷◌, length, get_or, take, refl, ap, ◌∙◌, subst, arith}
use Rattle.std.proofs.lemmas.Bool.{lt-ltb, le-ltb, cond-true, cond-false}
use Rattle.std.proofs.lemmas.Nat.{div-mul-add, mod-mul-add}
use Rattle.text.specs.Lists.{up_from, how_many, keep}
use Rattle.problem.specs.Cudf.{Chosen}
use Rattle.verdict.specs.Opening.{register}

-- f below n, and then g from 0 on
pub place : ℕ → (ℕ → Bool) → (ℕ → Bool) → ℕ → Bool
place n f g v = cond (ltb v n) (f v) (g (v - n))

place_low : (n : ℕ) (f g : ℕ → Bool) (v : ℕ) → v < n → place n f g v ≡ f v
unfolding place
place_low n f g v h = cond-true (ltb v n) (f v) (g (v - n)) (lt-ltb v n h)

place_high : (n : ℕ) (f g : ℕ → Bool) (v k : ℕ) → v ≡ n + k → place n f g v ≡ g k
unfolding place
place_high n f g v k e =
    let up : n ≤ v = omega arith in
    let off : v - n ≡ k = omega arith in
    cond-false (ltb v n) (f v) (g (v - n)) (le-ltb v n up) ∙ ap g off

-- six stretches, of F, n, N, 1 and S variables and the rest
module _ (F n N S : ℕ) (f g h : ℕ → Bool) (z : Bool) (s t : ℕ → Bool) where
  pub laid : ℕ → Bool
  laid = place F f (place n g (place N h (place 1 (λ _. z) (place S s t))))

  pub laid_1 : (v : ℕ) → v < F → laid v ≡ f v
  unfolding laid
  laid_1 v l = place_low F f (place n g (place N h (place 1 (λ _. z) (place S s t)))) v l

  from_2 : (v k : ℕ) → v ≡ F + k → laid v ≡ place n g (place N h (place 1 (λ _. z) (place S s t))) k
  unfolding laid
  from_2 v k e = place_high F f (place n g (place N h (place 1 (λ _. z) (place S s t)))) v k e

  pub laid_2 : (k : ℕ) → k < n → laid (F + k) ≡ g k
  laid_2 k l = from_2 (F + k) k refl ∙ place_low n g (place N h (place 1 (λ _. z) (place S s t))) k l

  from_3 : (v k : ℕ) → v ≡ F + n + k → laid v ≡ place N h (place 1 (λ _. z) (place S s t)) k
  from_3 v k e = from_2 v (n + k) (omega arith) ∙ place_high n g (place N h (place 1 (λ _. z) (place S s t))) (n + k) k refl

  pub laid_3 : (k : ℕ) → k < N → laid (F + n + k) ≡ h k
  laid_3 k l = from_3 (F + n + k) k refl ∙ place_low N h (place 1 (λ _. z) (place S s t)) k l

  from_4 : (v k : ℕ) → v ≡ F + n + N + k → laid v ≡ place 1 (λ _. z) (place S s t) k
  from_4 v k e = from_3 v (N + k) (omega arith) ∙ place_high N h (place 1 (λ _. z) (place S s t)) (N + k) k refl

  pub laid_4 : laid (F + n + N) ≡ z
  laid_4 = from_4 (F + n + N) 0 (omega arith) ∙ place_low 1 (λ _. z) (place S s t) 0 (omega arith)

  from_5 : (v k : ℕ) → v ≡ suc (F + n + N) + k → laid v ≡ place S s t k
  from_5 v k e = from_4 v (1 + k) (omega arith) ∙ place_high 1 (λ _. z) (place S s t) (1 + k) k refl

  pub laid_5 : (v k : ℕ) → v ≡ suc (F + n + N) + k → k < S → laid v ≡ s k
  laid_5 v k e l = from_5 v k e ∙ place_low S s t k l

  pub laid_6 : (v k : ℕ) → v ≡ suc (F + n + N) + S + k → laid v ≡ t k
  laid_6 v k e = from_5 v (S + k) (omega arith) ∙ place_high S s t (S + k) k refl

-- registers in one stretch, row by row: at least j of the first i members pass the test
pub tally : {X : Type 0} → (X → Bool) → List X → ℕ → ℕ → Bool
tally p xs K w = leb (suc (w % K)) (how_many p (take (suc (w / K)) xs))

pub tally_at : {X : Type 0} (p : X → Bool) (xs : List X) (K i j : ℕ) → j < K → tally p xs K (i * K + j) ≡ leb (suc j) (how_many p (take (suc i) xs))
unfolding tally
tally_at p xs K i j l = ap (λ y. leb (suc y) (how_many p (take (suc ((i * K + j) / K)) xs))) (mod-mul-add i K j l) ∙ ap (λ y. leb (suc j) (how_many p (take (suc y) xs))) (div-mul-add i K j l)

pub register_at : (base K i j : ℕ) → register base K (suc i) (suc j) ≡ base + (i * K + j)
register_at base K i j =
    let e : suc i - 1 ≡ i = omega arith in
    ap (λ y. base + y * K + (suc j - 1)) e ∙ omega arith

-- the test of the members, read from the variable v on
abbrev pub Reads : {X : Type 0} → Chosen → (X → Bool) → ℕ → List X → Type 0
Reads A p v [] = Unit {0}
Reads A p v (x ∷ xs) = (A v ≡ p x) × Reads A p (suc v) xs

pub reads_from : {X : Type 0} (A : Chosen) (p : X → Bool) (d : X) (v : ℕ) (xs : List X) → ((k : ℕ) → k < length xs → A (v + k) ≡ p (get_or xs k d)) → Reads A p v xs
reads_from A p d v [] h = tt
reads_from A p d v (x ∷ xs) h =
    let e : v + 0 ≡ v = omega arith in (
      subst (λ w. A w ≡ p x) e (h 0 (omega arith)),
      reads_from A p d (suc v) xs (λ k l. let e' : v + suc k ≡ suc v + k = omega arith in subst (λ w. A w ≡ p (get_or xs k d)) e' (h (suc k) (omega arith))),
    )

pub reads_count : {X : Type 0} (A : Chosen) (p : X → Bool) (v : ℕ) (xs : List X) (i : ℕ) → Reads A p v xs → how_many A (take i (up_from v (length xs))) ≡ how_many p (take i xs)
reads_count A p v [] zero h = refl
reads_count A p v [] (suc i) h = refl
reads_count A p v (x ∷ xs) zero h = refl
reads_count A p v (x ∷ xs) (suc i) h =
    ap (λ b. cond b (suc (how_many A (take i (up_from (suc v) (length xs))))) (how_many A (take i (up_from (suc v) (length xs))))) h.0
    ∙ ap (λ y. cond (p x) (suc y) y) (reads_count A p (suc v) xs i h.1)

pub length_up_from : (v n : ℕ) → length (up_from v n) ≡ n
length_up_from v zero = refl
length_up_from v (suc n) = ap suc (length_up_from (suc v) n)

pub take_all : {X : Type 0} (xs : List X) → take (length xs) xs ≡ xs
take_all [] = refl
take_all {X} (x ∷ xs) = ap {B = List X} (λ r. x ∷ r) (take_all xs)

pub how_many_le : {X : Type 0} (p : X → Bool) (xs : List X) → how_many p xs ≤ length xs
how_many_le p [] = omega arith
how_many_le p (x ∷ xs) = bound (p x) (how_many p xs) (length xs) (how_many_le p xs)
  where
    bound : (b : Bool) (h l : ℕ) → h ≤ l → cond b (suc h) h ≤ suc l
    bound true h l e = omega arith
    bound false h l e = omega arith

-- members that fail a test which the count asks for anyway may be left out
pub how_many-keep : {X : Type 0} (p a : X → Bool) → ((x : X) → T (p x) → T (a x)) → (xs : List X) → how_many p (keep a xs) ≡ how_many p xs
how_many-keep p a f [] = refl
how_many-keep p a f (x ∷ xs) = pick (a x) (f x) (how_many-keep p a f xs)
  where
    fails : (t : Bool) (n : ℕ) → (T t → ⊥) → n ≡ cond t (suc n) n
    fails true n g = absurd (g tt)
    fails false n g = refl

    pick : (s : Bool) → (T (p x) → T s) → how_many p (keep a xs) ≡ how_many p xs → how_many p (cond s (x ∷ keep a xs) (keep a xs)) ≡ cond (p x) (suc (how_many p xs)) (how_many p xs)
    pick true g e = ap (λ y. cond (p x) (suc y) y) e
    pick false g e = e ∙ fails (p x) (how_many p xs) g
