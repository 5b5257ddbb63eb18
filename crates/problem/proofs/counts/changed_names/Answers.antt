use Rattle.std.proofs.Common.{◌∙◌, rules, tests}
use Rattle.problem.specs.Naming.{changes}
use Rattle.problem.proofs.Names.{changed_are}
use Rattle.problem.proofs.counts.changed_names.Goals as goal

pub returns : goal.returns
returns c = c.count_names.ensures (changes c.stanzas-stanzas.result.text.now c.args.set.now c.stanzas-stanzas.result.rows.now) (λ n r k. search (rules, tests)) ∙ changed_are c.args.problem.now c.args.set.now _ _ c.stanzas-stanzas.ensures.text c.stanzas-stanzas.ensures.rows
