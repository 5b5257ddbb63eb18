use Rattle.std.proofs.Common.{eqb, sym, ◌∙◌, rules, tests}
use Rattle.std.proofs.lemmas.Iterator.{YieldsList-from_slice}
use Rattle.std.proofs.lemmas.Iterator.Search.{any_from_yields_List}
use Rattle.text.specs.Literals.{variable_of}
use Rattle.clauses.proofs.Forms.{some_any}
use Rattle.clauses.proofs.form.mentions.Goals as goal

pub returns : goal.returns
returns c =
    any_from_yields_List (λ l. eqb (variable_of l) c.args.sought) _ _ _ c.any.ensures.ran (YieldsList-from_slice c.args.literals.now cc) (λ x b q k. search (rules, tests)) ∙ sym (some_any _ c.args.literals.now)
