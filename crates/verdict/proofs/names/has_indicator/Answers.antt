use Rattle.std.proofs.Common.{◌&&◌, sym, ap, ◌∙◌, rules, tests}
use Rattle.std.specs.Str.{bytes_eq}
use Rattle.std.proofs.lemmas.Iterator.{YieldsList-from_slice}
use Rattle.text.specs.Word.{word_in}
use Rattle.problem.proofs.Walks.{some_from_any}
use Rattle.verdict.specs.Indicators.{listed}
use Rattle.verdict.proofs.names.has_indicator.Goals as goal

pub returns-in-Removed : goal.returns-in-Removed
returns-in-Removed c =
    let text = c.args.stanzas.now.text.now in
    let ps = c.args.stanzas.now.rows.now in
    some_from_any (λ p. bytes_eq c.args.name.now (word_in text p.name) && p.installed) _ _ _ c.any.ensures.ran (YieldsList-from_slice ps (cc)) (λ x b q k. search (rules, tests))
    ∙ ap (λ k. listed k text ps c.args.name.now) (sym c.in-Removed.is)
