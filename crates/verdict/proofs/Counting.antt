-- The clauses of a counter, as they are written.
use Rattle.std.proofs.Common.{◌≡◌, ℕ, zero, suc, ◌+◌, ◌-◌, ◌*◌, List, [], ◌∷◌, ◌++◌, ℤ, Ok, Err, sym, refl, ap, ◌∙◌, suc-mul, arith, w32, SFits, to_z, of_z}
use Rattle.std.specs.Result.{IsErr}
use Rattle.std.proofs.lemmas.Int.{to_z-of_z}
use Rattle.text.specs.Lists.{each, each_all, up_from}
use Rattle.text.specs.Literals.{Clause, lit, neg}
use Rattle.problem.specs.Feeding.{Fed, Left}
use Rattle.problem.specs.declared.sink.Stopped.{Stopped}
use Rattle.problem.proofs.Feeds.{Taken, fed_on, fed_stop, fed_as, fed_one}
use Rattle.verdict.specs.Opening.{counter_input, counter}

-- the literals of a clause as they lie in memory
pub two_held : (x y a b : ℤ) → SFits w32 x → SFits w32 y → x ≡ a → y ≡ b → to_z w32 (of_z w32 x) ∷ to_z w32 (of_z w32 y) ∷ [] ≡ a ∷ b ∷ []
two_held x y a b f g d e = ap (λ z. z ∷ to_z w32 (of_z w32 y) ∷ []) (to_z-of_z w32 x f ∙ d) ∙ ap (λ z. a ∷ z ∷ []) (to_z-of_z w32 y g ∙ e)

pub kept_clause : (before row j : ℕ) (x y : ℤ) → x ≡ neg (before + j) → y ≡ lit (row + j) → x ∷ y ∷ [] ≡ neg (before + ((1 + j) - 1)) ∷ lit (row + ((1 + j) - 1)) ∷ []
kept_clause before row j x y e f = let z : j ≡ (1 + j) - 1 = omega arith in ap (λ a. a ∷ y ∷ []) (e ∙ ap (λ k. neg (before + k)) z) ∙ ap (λ b. neg (before + ((1 + j) - 1)) ∷ b ∷ []) (f ∙ ap (λ k. lit (row + k)) z)

pub raised_clause : (input before row j : ℕ) (w x y : ℤ) → w ≡ neg input → x ≡ neg (before + j) → y ≡ lit (row + j + 1) → w ∷ x ∷ y ∷ [] ≡ neg input ∷ neg (before + ((1 + j) - 1)) ∷ lit (row + (suc (1 + j) - 1)) ∷ []
raised_clause input before row j w x y d e f =
    let z : j ≡ (1 + j) - 1 = omega arith in
    let u : row + j + 1 ≡ row + (suc (1 + j) - 1) = omega arith in
    ap (λ a. a ∷ x ∷ y ∷ []) d ∙ ap (λ a. neg input ∷ a ∷ y ∷ []) (e ∙ ap (λ k. neg (before + k)) z) ∙ ap (λ b. neg input ∷ neg (before + ((1 + j) - 1)) ∷ b ∷ []) (f ∙ ap lit u)

-- a counter's inputs by their places
pub inputs_are : (base K first i n : ℕ) → counter base K (suc i) (up_from (first + i) n) ≡ each_all (λ k. counter_input base K (neg (first + k)) (suc k)) (up_from i n)
inputs_are base K first i zero = refl
inputs_are base K first i (suc n) =
    let z : suc (first + i) ≡ first + suc i = omega arith in
    ap (λ ys. counter_input base K (neg (first + i)) (suc i) ++ ys) (ap (λ f. counter base K (suc (suc i)) (up_from f n)) z ∙ inputs_are base K first (suc i) n)

-- a later input's clauses by where its registers begin
module _ (nx : ℤ) (row before : ℕ) where
  abbrev pub keeping : ℕ → List Clause
  keeping limit = each (λ j. neg (before + (j - 1)) ∷ lit (row + (j - 1)) ∷ []) (up_from 1 limit)

  abbrev pub raising : ℕ → List Clause
  raising limit = each (λ j. nx ∷ neg (before + (j - 1)) ∷ lit (row + (suc j - 1)) ∷ []) (up_from 1 limit)

later : (base k i : ℕ) (nx : ℤ) (row before : ℕ) → base + (suc (suc i) - 1) * suc k ≡ row → base + (suc i - 1) * suc k ≡ before →
    counter_input base (suc k) nx (suc (suc i)) ≡ (nx ∷ lit row ∷ []) ∷ (keeping nx row before (suc k) ++ raising nx row before k)
later base k i nx row before e f =
    let r = base + (suc (suc i) - 1) * suc k in
    let b = base + (suc i - 1) * suc k in
    let z : base + (suc (suc i) - 1) * suc k + 0 ≡ base + (suc (suc i) - 1) * suc k = omega arith in
    ap (λ v. (nx ∷ lit v ∷ []) ∷ (keeping nx r b (suc k) ++ raising nx r b k)) z
    ∙ ap (λ v. (nx ∷ lit v ∷ []) ∷ (keeping nx v b (suc k) ++ raising nx v b k)) e
    ∙ ap (λ v. (nx ∷ lit row ∷ []) ∷ (keeping nx row v (suc k) ++ raising nx row v k)) f

pub input_is : (base limit place : ℕ) (nx : ℤ) (row : ℕ) → (limit ≡ 0 → ⊥) → (place ≡ 0 → ⊥) → base + place * limit ≡ row →
    counter_input base limit nx (suc place) ≡ (nx ∷ lit row ∷ []) ∷ (keeping nx row (row - limit) limit ++ raising nx row (row - limit) (limit - 1))
input_is base zero place nx row h g e = absurd (h refl)
input_is base (suc k) zero nx row h g e = absurd (g refl)
input_is base (suc k) (suc i) nx row h g e =
    let w : suc i ≡ suc (suc i) - 1 = omega arith in
    let v : i ≡ suc i - 1 = omega arith in
    let z : base + i * suc k ≡ row - suc k = omega (arith, suc-mul i (suc k)) in
    let y : k ≡ suc k - 1 = omega arith in
    later base k i nx row (row - suc k) (ap (λ m. base + m * suc k) (sym w) ∙ e) (ap (λ m. base + m * suc k) (sym v) ∙ z) ∙ ap (λ n. (nx ∷ lit row ∷ []) ∷ (keeping nx row (row - suc k) (suc k) ++ raising nx row (row - suc k) n)) y

module _ {S : Type 0} (goes stops : S → Clause → S → Type 0) (base limit place : ℕ) (nx : ℤ) (h : limit ≡ 0 → ⊥) (g : place ≡ 0 → ⊥) (c : Clause) (e : c ≡ nx ∷ lit (base + place * limit) ∷ []) where
  abbrev row : ℕ
  row = base + place * limit

  fed_rest : (r : Taken) (s m t : S) → goes s c m → Fed goes stops (keeping nx row (row - limit) limit ++ raising nx row (row - limit) (limit - 1)) r m t → Fed goes stops (counter_input base limit nx (suc place)) r s t
  fed_rest r s m t k f =
      fed_as goes stops _ _ r s t (sym (input_is base limit place nx row h g refl))
      (fed_on goes stops ((nx ∷ lit row ∷ []) ∷ []) _ r s m t (fed_one goes stops _ c (Ok tt) s m (ap (λ y. y ∷ []) (sym e)) k) f)

  pub fed_input : (r : Taken) (s m n t : S) → goes s c m → Fed goes stops (keeping nx row (row - limit) limit) (Ok tt) m n → Fed goes stops (raising nx row (row - limit) (limit - 1)) r n t → Fed goes stops (counter_input base limit nx (suc place)) r s t
  fed_input r s m n t k f d = fed_rest r s m t k (fed_on goes stops _ _ r m n t f d)

  pub fed_keeping : (w : Stopped) (r : Taken) (s m t : S) → IsErr r → goes s c m → Fed goes stops (keeping nx row (row - limit) limit) (Err w) m t → Fed goes stops (counter_input base limit nx (suc place)) r s t
  fed_keeping w r s m t j k f = fed_rest r s m t k (fed_stop goes stops _ _ w r m t j f)

pub inputs_left : {S : Type 0} (goes stops : S → Clause → S → Type 0) (base K first n : ℕ) (s : S) →
    Left goes stops (counter base K 1 (up_from first n)) s (each_all (λ k. counter_input base K (neg (first + k)) (suc k)) (up_from (0 + 0) (n - 0))) s
inputs_left goes stops base K first n s r t f =
    let z : first + 0 ≡ first = omega arith in
    let y : n - 0 ≡ n = omega arith in
    fed_as goes stops _ _ r s t (ap (λ m. each_all (λ k. counter_input base K (neg (first + k)) (suc k)) (up_from 0 m)) y ∙ sym (inputs_are base K first 0 n) ∙ ap (λ v. counter base K 1 (up_from v n)) z) f
