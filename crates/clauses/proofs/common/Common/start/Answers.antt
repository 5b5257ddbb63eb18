use Rattle.std.proofs.Common.{sym}
use Rattle.text.proofs.Members.{holds_from}
use Rattle.clauses.proofs.Forms.{formed_speaks}
use Rattle.clauses.proofs.Memory.{speaks_placed}
use Rattle.clauses.proofs.common.Common.start.Goals as goal

pub deny_all-requires : goal.deny_all-requires
deny_all-requires c =
    speaks_placed c.args.clause.now c.args.self.now.store.variables _ c.args.self.now.placed (formed_speaks c.args.self.now.store.variables c.args.clause.now (holds_from (sym c.if-not-well_formed.ensures)))
