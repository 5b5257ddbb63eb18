use Rattle.clauses.proofs.Gaps.{copied_here}
use Rattle.clauses.proofs.store.Store.move_down.Goals as goal

pub returns-then-end-from : goal.returns-then-end-from
returns-then-end-from c = copied_here c.args.self.now _ _ c.if-end-from.true c.requires.within
