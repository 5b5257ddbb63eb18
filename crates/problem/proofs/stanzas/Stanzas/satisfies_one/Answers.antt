use Rattle.std.proofs.Common.{rules, tests}
use Rattle.std.proofs.lemmas.Iterator.{YieldsList-from_slice}
use Rattle.problem.proofs.Walks.{some_from_any}
use Rattle.problem.proofs.stanzas.Stanzas.satisfies_one.Goals as goal

pub returns : goal.returns
returns c = some_from_any _ _ _ _ c.any.ensures.ran (YieldsList-from_slice c.args.group.now cc) (λ x b q k. search (rules, tests))
