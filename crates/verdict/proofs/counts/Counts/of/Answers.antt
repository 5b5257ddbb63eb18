use Rattle.std.proofs.Common.{arith}
use Rattle.problem.specs.Sets.{set_of}
use Rattle.verdict.proofs.Costs.{removed_few, changed_few}
use Rattle.verdict.proofs.counts.Counts.of.Goals as goal

pub returns-clause-removed : goal.returns-clause-removed
returns-clause-removed c = omega (arith, c.removed_names.ensures, removed_few c.args.problem.now (set_of c.args.set.now))

pub returns-clause-changed : goal.returns-clause-changed
returns-clause-changed c = omega (arith, c.changed_names.ensures, changed_few c.args.problem.now (set_of c.args.set.now))
