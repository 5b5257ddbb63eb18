use Rattle.std.proofs.Common.{◌∙◌, rules, tests}
use Rattle.std.proofs.lemmas.Iterator.{YieldsList-from_slice}
use Rattle.std.proofs.lemmas.Iterator.Search.{position_from_yields_List}
use Rattle.problem.specs.Meaning.{constraints_in, packages_in}
use Rattle.problem.proofs.Finding.{is_it, place_found}
use Rattle.problem.proofs.answer_lines.find_stanza.Goals as goal

pub returns : goal.returns
returns c =
    let v = c.args.problem.now in
    position_from_yields_List (is_it v.text.now (constraints_in v) c.args.name.now c.args.version) _ _ _ c.position.ensures.ran (YieldsList-from_slice (packages_in v) cc) (λ x b q k. search (rules, tests))
    ∙ place_found v.text.now (constraints_in v) c.args.name.now c.args.version (packages_in v)
