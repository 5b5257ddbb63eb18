use Rattle.std.proofs.Common.{is_err, sym, ◌∙◌}
use Rattle.problem.proofs.Storing.{turn_kept, lost_err, lost_ok}
use Rattle.problem.proofs.lists.read_constraints.Goals as goal

pub loop-piece-preserved-then-is_err : goal.loop-piece-preserved-then-is_err
loop-piece-preserved-then-is_err c =
    turn_kept c.args.text.now c.args.out.now c.loop-piece.out c.push_within.new.self (is_err c.loop-piece.placed) _ _ c.loop-piece.parts c.next_part.new.self _ c.in_ok-row.row c.push_within.result _ (lost_err (is_err c.loop-piece.placed) c.push_within.result (sym c.is_err.ensures.value ∙ c.if-is_err.true)) c.loop-piece.invariant c.in-Some.ensures c.is_done.ensures c.in_ok-row.ensures c.push_within.ensures.pushes c.push_within.ensures.same

pub loop-piece-preserved : goal.loop-piece-preserved
loop-piece-preserved c =
    turn_kept c.args.text.now c.args.out.now c.loop-piece.out c.push_within.new.self (is_err c.loop-piece.placed) _ _ c.loop-piece.parts c.next_part.new.self _ c.in_ok-row.row c.push_within.result _ (lost_ok (is_err c.loop-piece.placed) c.push_within.result (sym c.is_err.ensures.value ∙ c.if-is_err.false)) c.loop-piece.invariant c.in-Some.ensures c.is_done.ensures c.in_ok-row.ensures c.push_within.ensures.pushes c.push_within.ensures.same
