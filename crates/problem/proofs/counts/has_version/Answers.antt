use Rattle.std.proofs.Common.{◌∙◌, rules, tests}
use Rattle.std.proofs.lemmas.Iterator.{YieldsList-from_slice}
use Rattle.std.proofs.lemmas.Iterator.Consumers.{YieldsList-from_enumerate}
use Rattle.problem.proofs.Names.{is_version, versions_by_place}
use Rattle.problem.proofs.Walks.{some_from_any}
use Rattle.problem.proofs.counts.has_version.Goals as goal

pub returns : goal.returns
returns g c = λ m h.
    some_from_any (is_version c.args.stanzas.now.text.now c.args.set.now m c.args.name.now) _ _ _ c.any.ensures.ran (YieldsList-from_enumerate (YieldsList-from_slice c.args.stanzas.now.rows.now (cc)) (cc)) (λ x b q k. search (rules, tests, h))
    ∙ versions_by_place c.args.stanzas.now.text.now c.args.set.now m c.args.name.now 0 c.args.stanzas.now.rows.now
