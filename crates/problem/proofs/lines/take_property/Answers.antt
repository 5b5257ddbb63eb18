use Rattle.std.proofs.Common.{length}
use Rattle.text.specs.Rows.{items}
use Rattle.problem.proofs.lines.take_property.Goals as goal

pub returns-in-Between-clause-good : goal.returns-in-Between-clause-good
returns-in-Between-clause-good c = c.open.ensures.good (length (items c.args.constraints.now))
