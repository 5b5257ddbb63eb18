use Rattle.std.proofs.Common.{◌∙◌}
use Rattle.clauses.proofs.Commons.{found_live}
use Rattle.clauses.proofs.common.Common.is_live.Goals as goal

pub returns : goal.returns
returns c = c.is_some.ensures ∙ found_live c.args.self.now.store c.args.number c.find.result c.find.ensures
