use Rattle.std.proofs.Common.{◌∙◌, rules, tests}
use Rattle.problem.specs.Naming.{removes}
use Rattle.problem.proofs.Names.{removed_are}
use Rattle.problem.proofs.counts.removed_names.Goals as goal

pub returns : goal.returns
returns c = c.count_names.ensures (removes c.stanzas-stanzas.result.text.now c.args.set.now c.stanzas-stanzas.result.rows.now) (λ n r k. search (rules, tests)) ∙ removed_are c.args.problem.now c.args.set.now _ _ c.stanzas-stanzas.ensures.text c.stanzas-stanzas.ensures.rows
