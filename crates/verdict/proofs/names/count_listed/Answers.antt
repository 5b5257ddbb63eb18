use Rattle.std.proofs.Common.{◌∙◌, rules, tests}
use Rattle.std.proofs.lemmas.Iterator.{YieldsList-from_slice}
use Rattle.std.proofs.lemmas.Iterator.Consumers.{YieldsList-from_enumerate, YieldsList-from_filter, count_from_yields_List}
use Rattle.problem.proofs.Names.{is_first}
use Rattle.verdict.specs.Indicators.{listed}
use Rattle.verdict.proofs.Listed.{listed_count}
use Rattle.verdict.proofs.names.count_listed.Goals as goal

pub returns-clause-count : goal.returns-clause-count
returns-clause-count c =
    let text = c.args.stanzas.now.text.now in
    let ps = c.args.stanzas.now.rows.now in
    count_from_yields_List c.filter.result _ c.count.ensures.ran
    (YieldsList-from_filter _ (is_first text (listed c.args.indicator text ps) ps) (YieldsList-from_enumerate (YieldsList-from_slice ps (cc)) (cc)) c.filter.ensures.closure (λ x b q k. (search (rules, tests), search (rules, tests))))
    ∙ listed_count c.args.indicator text ps
