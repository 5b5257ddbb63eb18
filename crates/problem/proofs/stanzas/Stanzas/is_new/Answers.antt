use Rattle.std.proofs.Common.{not, ap, rules, tests}
use Rattle.std.proofs.lemmas.Iterator.{YieldsList-from_slice, YieldsList-from_take}
use Rattle.problem.proofs.Walks.{some_from_any}
use Rattle.problem.proofs.stanzas.Stanzas.is_new.Goals as goal

pub returns : goal.returns
returns c = ap not (some_from_any _ _ _ _ c.any.ensures.ran (YieldsList-from_take c.args.place (YieldsList-from_slice c.args.self.now.rows.now (cc)) (cc)) (λ x b q k. search (rules, tests)))
