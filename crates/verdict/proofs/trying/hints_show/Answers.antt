use Rattle.verdict.proofs.Hinting.{along_next, along_useless, along_conflict}
use Rattle.verdict.proofs.trying.hints_show.Goals as goal

pub loop-hint-preserved : goal.loop-hint-preserved
loop-hint-preserved g c =
    let m = g.B.ClauseBase.meaning in
    along_next (m c.args.base.now) (m c.loop-hint.base) (m c.hint.new.self) c.args.hints.now c.in-Some.hint.now c.in-Some.later.now (rw c.in-Some.ensures.cases.0 at c.loop-hint.invariant) (rw c.in-Unit.is at c.in_ok-hint.ensures)

pub returns-in-Conflict-clause-shown : goal.returns-in-Conflict-clause-shown
returns-in-Conflict-clause-shown g c =
    let m = g.B.ClauseBase.meaning in
    (along_conflict (m c.args.base.now) (m c.loop-hint.base) (m c.hint.new.self) c.args.hints.now c.in-Some.hint.now c.in-Some.later.now (rw c.in-Some.ensures.cases.0 at c.loop-hint.invariant) c.is_empty.result c.is_empty.ensures (rw c.in-Conflict.is at c.in_ok-hint.ensures)).0

pub returns-in-Useless-clause-shown : goal.returns-in-Useless-clause-shown
returns-in-Useless-clause-shown g c =
    let m = g.B.ClauseBase.meaning in
    (along_useless (m c.args.base.now) (m c.loop-hint.base) (m c.hint.new.self) c.args.hints.now c.in-Some.hint.now c.in-Some.later.now (rw c.in-Some.ensures.cases.0 at c.loop-hint.invariant) (rw c.in-Useless.is at c.in_ok-hint.ensures)).0
