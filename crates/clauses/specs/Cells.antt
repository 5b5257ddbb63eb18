-- Values in memory.
-- values_of: the values that cells hold; Placed: each literal's variable has a cell among the first n
-- unset_count: how many cells are unset; AllSettled: no clause held can make a step
use Rattle.std.specs.Prelude.{ℕ, ◌<◌, Bool, List, length, pos, None, Option, slice_index_or}
use Rattle.std.specs.List.{AllByRecursion}
use Rattle.text.specs.Lists.{how_many}
use Rattle.text.specs.Literals.{Clause, variable_of}
use Rattle.clauses.specs.Propagation.{Held, Values, is_unset, Settled}

abbrev pub values_of : List (Option Bool) → Values
values_of xs v = slice_index_or xs v None

abbrev pub Placed : Clause → ℕ → Type 0
Placed c n = (k : ℕ) → k < length c → variable_of (slice_index_or c k (pos 0)) < n

abbrev pub unset_count : List (Option Bool) → ℕ
unset_count xs = how_many is_unset xs

abbrev pub AllSettled : List Held → List (Option Bool) → Type 0
AllSettled live xs = AllByRecursion (λ h. Settled (values_of xs) h.literals) live
