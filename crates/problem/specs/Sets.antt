-- The set of packages that an answer means.
-- is_in: whether a stanza is installed; is_unnamed: whether it is not named; standing: what is said of one that is
-- set_of: the stanzas that are, by their numbers, from 1; one without a place is not
use Rattle.std.specs.Prelude.{◌-◌, Bool, true, false, List, slice_index_or}
use Rattle.problem.specs.Cudf.{Chosen}
use Rattle.problem.specs.declared.standing.Standing.{Standing}
use Rattle.problem.specs.declared.standing.Standing.TheVariants.{Unnamed, Out, In}

abbrev pub is_in : Standing → Bool
is_in Unnamed = false
is_in Out = false
is_in In = true

abbrev pub set_of : List Standing → Chosen
set_of xs v = is_in (slice_index_or xs (v - 1) Unnamed)

abbrev pub is_unnamed : Standing → Bool
is_unnamed Unnamed = true
is_unnamed Out = false
is_unnamed In = false

abbrev pub standing : Bool → Standing
standing true = In
standing false = Out
