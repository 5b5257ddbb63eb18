use Rattle.std.proofs.Common.{◌∙◌, rules, tests}
use Rattle.std.proofs.lemmas.Iterator.{YieldsList-from_slice}
use Rattle.std.proofs.lemmas.Iterator.Consumers.{YieldsList-from_enumerate, YieldsList-from_filter, count_from_yields_List}
use Rattle.problem.proofs.Names.{is_first, firsts_are}
use Rattle.problem.proofs.counts.count_names.Goals as goal

pub returns : goal.returns
returns g c = λ t h.
    let ps = c.args.stanzas.now.rows.now in
    count_from_yields_List c.filter.result _ c.count.ensures.ran
    (YieldsList-from_filter _ (is_first c.args.stanzas.now.text.now t ps) (YieldsList-from_enumerate (YieldsList-from_slice ps (cc)) (cc)) c.filter.ensures.closure (λ x b q k. (search (rules, tests), search (rules, tests, h))))
    ∙ firsts_are c.args.stanzas.now.text.now t ps
