use Rattle.std.proofs.Common.{rules, tests}
use Rattle.std.proofs.lemmas.Iterator.{YieldsList-from_slice}
use Rattle.problem.proofs.Walks.{some_from_any}
use Rattle.text.specs.Literals.{is_true}
use Rattle.problem.specs.Sets.{set_of}
use Rattle.problem.proofs.plan_check.makes_true.Goals as goal

pub returns : goal.returns
returns c = some_from_any (is_true (set_of c.args.set.now)) _ _ _ c.any.ensures.ran (YieldsList-from_slice c.args.clause.now cc) (λ x b q k. search (rules, tests))
