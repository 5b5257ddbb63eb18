use Rattle.std.proofs.Common.{◌∙◌, rules, tests}
use Rattle.std.proofs.lemmas.Iterator.{YieldsList-from_slice}
use Rattle.std.proofs.lemmas.Iterator.Search.{any_from_yields_List}
use Rattle.problem.specs.Rows.{same_stanza}
use Rattle.problem.proofs.Again.{any_some}
use Rattle.problem.proofs.repeats.is_among.Goals as goal

pub returns : goal.returns
returns c =
    any_from_yields_List (λ y. same_stanza c.args.text.now y c.args.x.now) _ _ _ c.any.ensures.ran (YieldsList-from_slice c.args.rows.now cc) (λ x b q k. search (rules, tests))
    ∙ any_some _ c.args.rows.now
