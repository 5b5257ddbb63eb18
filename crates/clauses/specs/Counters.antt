-- What the counting engine keeps.
use Rattle.std.specs.Prelude.{◌≡◌, ℕ, ◌+◌, ◌<◌, ◌≤◌, Bool, List, length, pos, Some, Option, slice_index, slice_index_or}
use Rattle.text.specs.Literals.{variable_of, positive}
use Rattle.clauses.specs.Propagation.{Values}
use Rattle.clauses.specs.Cells.{values_of}
use Rattle.clauses.specs.Counting.{Tally, non_false, Gap}
use Rattle.clauses.specs.Events.{clause_at, Fit, Indexed, Pending, Starting}
use Rattle.clauses.specs.declared.store.Store.{Store}
use Rattle.clauses.specs.declared.trail.Trail.{Trail}
use Rattle.clauses.specs.declared.index.Index.{Index}

-- the trail's literals from low on are true
abbrev pub Made : List (Option Bool) → Trail → ℕ → Type 0
Made ys u low = (q : ℕ) → low ≤ q → q < u.tail → values_of ys (variable_of (slice_index_or u.literals.now q (pos 0))) ≡ Some (positive (slice_index_or u.literals.now q (pos 0)))

-- the counters of the first n rows are right for the values without the trail from low on, or below that
pub record Told (s : Store) (ys : List (Option Bool)) (left : List ℕ) (u : Trail) (n low : ℕ) : Type 0 where
  pub base : Values
  pub gap : Gap base (values_of ys) u low
  pub made : Made ys u low
  pub counts : (k : ℕ) → k < n → slice_index left k ≤ non_false base (clause_at s k)

-- the same on the way through a list: the entries to come are not yet counted
pub record Telling (s : Store) (x : Index) (ys : List (Option Bool)) (left : List ℕ) (u : Trail) (low link : ℕ) : Type 0 where
  pub base : Values
  pub gap : Gap base (values_of ys) u low
  pub made : Made ys u low
  pub counts : (k : ℕ) → k < s.count → (n : ℕ) × Tally x.next.now x.owners.now k link n × (slice_index left k ≤ non_false base (clause_at s k) + n)

-- the rows below k were looked at and counted
pub record Begun (s : Store) (xs ys : List (Option Bool)) (left : List ℕ) (t u : Trail) (k : ℕ) : Type 0 where
  pub starting : Starting s xs ys u k
  pub room : length u.literals.now ≡ length t.literals.now
  pub gap : Gap (values_of xs) (values_of ys) u 0
  pub made : Made ys u 0
  pub counts : (r : ℕ) → r < k → slice_index left r ≤ non_false (values_of xs) (clause_at s r)

-- what holds before the trail's literal at head is taken up
pub record Counted (s : Store) (x : Index) (left : List ℕ) (ys : List (Option Bool)) (u : Trail) (head : ℕ) : Type 0 where
  pub fit : Fit s x
  pub indexed : Indexed s x s.count
  pub pending : Pending s ys u head
  pub told : Told s ys left u s.count head
