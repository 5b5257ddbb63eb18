-- What every engine keeps.
-- Advanced: a conflict was found, or unit steps led from the values xs to ys
-- Quiet: if no literal of the trail is left, no clause held can make a step
-- Ready: the store has no gaps, each variable has a cell, and the trail has room for each that is unset
use Rattle.std.specs.Prelude.{ℕ, ◌+◌, ◌-◌, ◌≤◌, Bool, true, false, List, length, Option}
use Rattle.clauses.specs.Propagation.{Held, Refuted, Reached}
use Rattle.clauses.specs.Cells.{values_of, unset_count, AllSettled}
use Rattle.clauses.specs.Rows.{Named, Dense}
use Rattle.clauses.specs.Stored.{held, Sound}
use Rattle.clauses.specs.declared.store.Store.{Store}
use Rattle.clauses.specs.declared.trail.Trail.{Trail}

abbrev pub Advanced : List Held → List (Option Bool) → List (Option Bool) → Bool → Type 0
Advanced live xs ys true = Refuted live (values_of xs)
Advanced live xs ys false = Reached live (values_of xs) (values_of ys)

abbrev pub Quiet : Store → List (Option Bool) → Trail → ℕ → Type 0
Quiet s xs t head = t.tail ≤ head → AllSettled (held s) xs

pub record Ready (s : Store) (xs : List (Option Bool)) (t : Trail) : Type 0 where
  pub sound : Sound s
  pub dense : Dense s.rows.now s.count
  pub enough : s.variables ≤ length xs - 1
  pub room : t.tail + unset_count xs ≤ length t.literals.now
  pub named : Named t.literals.now t.tail s.variables
