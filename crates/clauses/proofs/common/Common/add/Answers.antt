use Rattle.std.proofs.Common.{sym}
use Rattle.text.proofs.Members.{holds_from}
use Rattle.clauses.proofs.Forms.{formed_speaks}
use Rattle.clauses.proofs.common.Common.add.Goals as goal

pub push-requires-clause-speaks : goal.push-requires-clause-speaks
push-requires-clause-speaks c =
    rw c.if-not-make_room.ensures.kept.variables (formed_speaks c.args.self.now.store.variables c.args.clause.now (holds_from (sym c.if-not-well_formed.ensures)))
