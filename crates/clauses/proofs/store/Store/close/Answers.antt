use Rattle.std.proofs.Common.{arith}
use Rattle.clauses.proofs.Gaps.{row_above, next_under, next_low, next_named, closing_dead, closing_live, closing_all}
use Rattle.clauses.proofs.store.Store.close.Goals as goal
use Rattle.clauses.proofs.store.Store.close.Goals.{then-row, else-row}

pub move_down-requires : goal.move_down-requires
move_down-requires c =
    let i = c.loop-k.invariant in
    let s = c.args.self.now in
    let a = row_above s c.loop-k.self c.loop-k.k c.loop-k-test.true i in
    record { from = a.0; within = omega (arith, a.1, s.within, i.wide) }

pub seal-requires-clause-literals : goal.seal-requires-clause-literals
seal-requires-clause-literals c =
    let i = c.loop-k.invariant in
    let s = c.args.self.now in
    let e = c.move_down.ensures in
    let a = row_above s c.loop-k.self c.loop-k.k c.loop-k-test.true i in
    omega (arith, e.filled, e.long, i.wide, a.0, a.1, s.within)

pub seal-requires-clause-above : goal.seal-requires-clause-above
seal-requires-clause-above c =
    let e = c.move_down.ensures in
    rw (e.rows, e.count) (next_under c.args.self.now c.loop-k.self c.loop-k.k c.loop-k-test.true c.loop-k.invariant)

pub seal-requires-clause-next : goal.seal-requires-clause-next
seal-requires-clause-next c =
    rw c.move_down.ensures.next (next_low c.args.self.now c.loop-k.self c.loop-k.k c.loop-k-test.true c.loop-k.invariant)

pub seal-requires-clause-named : goal.seal-requires-clause-named
seal-requires-clause-named c =
    next_named c.args.self.now c.loop-k.self c.loop-k.k c.loop-k-test.true c.loop-k.invariant c.move_down.new.self c.move_down.ensures

pub loop-k-preserved : goal.loop-k-preserved
loop-k-preserved c =
    let s = c.args.self.now in
    let t = c.loop-k.self in
    let k = c.loop-k.k in
    elim c.if-row.branch [ then-row w ↦ rw w.self-is (closing_live s t k c.loop-k-test.true c.loop-k.invariant w.move_down.new.self w.seal.new.self w.if-row.true w.move_down.ensures w.seal.ensures) | else-row w ↦ rw w.self-is (closing_dead s t k c.loop-k-test.true c.loop-k.invariant w.if-row.false) ]

pub returns : goal.returns
returns c = closing_all c.args.self.now _ _ (omega arith) c.loop-k.invariant
