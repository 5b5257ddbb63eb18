-- The worked examples, by computation.
use Rattle.std.proofs.Common.{refl}
use Rattle.text.specs.Lists.{Each}
use Rattle.problem.specs.Examples.{Stands, cases}

pub cases_stand : Each Stands cases
cases_stand = (
  record { clauses = refl; first = refl; removed = refl; changed = refl },
  (
    record { clauses = refl; first = refl; removed = refl; changed = refl },
    (record { clauses = refl; first = refl; removed = refl; changed = refl }, (record { clauses = refl; first = refl; removed = refl; changed = refl }, tt)),
  ),
)
