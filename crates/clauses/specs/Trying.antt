-- The values of a trial in memory.
-- Denied: a clause's literals are false, all else is unset
-- Followed: what a clause says under the values xs, and the values ys after it
use Rattle.std.specs.Prelude.{◌≡◌, Bool, T, List, length, ℤ, Option}
use Rattle.text.specs.Literals.{Clause}
use Rattle.clauses.specs.Propagation.{denied, set_true, all_false, Unit', Settled}
use Rattle.clauses.specs.Cells.{values_of}
use Rattle.clauses.specs.declared.common.Values.{Values}
use Rattle.clauses.specs.declared.fault.Hinted.{Hinted}
use Rattle.clauses.specs.declared.fault.Hinted.TheVariants.{Conflict, Useless, Unit as OneLeft}

pub record Denied (v w : Values) (c : Clause) : Type 0 where
  pub cells : length w.cells.now ≡ length v.cells.now
  pub values : values_of w.cells.now ≡ denied c

abbrev pub Followed : List (Option Bool) → List (Option Bool) → Clause → Hinted → Type 0
Followed xs ys c OneLeft = (l : ℤ) × (Unit' (values_of xs) c l × (values_of ys ≡ set_true (values_of xs) l))
Followed xs ys c Conflict = T (all_false (values_of xs) c)
Followed xs ys c Useless = Settled (values_of xs) c × (ys ≡ xs)
