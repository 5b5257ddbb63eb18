-- Counters of the literals that are not yet false.
-- Tally: the list at a link has at least so many entries of row k
-- hits, non_false: how many literals of a clause have a code, are not false
-- Gives: the trail's literal at q gives the variable v the value b
-- Gap: what has a value in g has it in f too, or from the trail at low or later
use Rattle.std.specs.Prelude.{◌≡◌, ℕ, suc, ◌<◌, ◌≤◌, Bool, not, ◌⊎◌, List, pos, Some, nat_eq, slice_index, slice_index_or}
use Rattle.text.specs.Lists.{how_many}
use Rattle.text.specs.Literals.{Clause, variable_of, positive}
use Rattle.clauses.specs.Propagation.{Values, value, is_false}
use Rattle.clauses.specs.Codes.{code_of}
use Rattle.clauses.specs.declared.trail.Trail.{Trail}

pub data Tally (next owners : List ℕ) (k : ℕ) : ℕ → ℕ → Type 0 where
  none : {link : ℕ} → Tally next owners k link 0
  one : {i n : ℕ} → slice_index owners i ≡ k → Tally next owners k (slice_index next i) n → Tally next owners k (suc i) (suc n)
  skip : {i n : ℕ} → Tally next owners k (slice_index next i) n → Tally next owners k (suc i) n

abbrev pub hits : ℕ → Clause → ℕ
hits code c = how_many (λ m. nat_eq (code_of m) code) c

abbrev pub non_false : Values → Clause → ℕ
non_false f c = how_many (λ m. not (is_false (value f m))) c

abbrev pub Gives : Trail → ℕ → ℕ → Bool → Type 0
Gives t q v b = (variable_of (slice_index_or t.literals.now q (pos 0)) ≡ v) × (positive (slice_index_or t.literals.now q (pos 0)) ≡ b)

abbrev pub Gap : Values → Values → Trail → ℕ → Type 0
Gap f g t low = (v : ℕ) (b : Bool) → g v ≡ Some b → (f v ≡ Some b) ⊎ ((q : ℕ) × (low ≤ q) × (q < t.tail) × Gives t q v b)
