use Rattle.std.proofs.Common.{refl}
use Rattle.problem.proofs.Worked.{cases_stand}
use Rattle.problem.proofs.plan_check.worked_examples.Goals as goal

pub returns : goal.returns
returns c = record { count = refl; stand = cases_stand }
