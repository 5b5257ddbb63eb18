use Rattle.std.proofs.Common.{◌≡◌, ◌+◌, arith}
use Rattle.verdict.proofs.Counting.{inputs_left}
use Rattle.verdict.proofs.VariableRanges.{range_fed, range_left}
use Rattle.verdict.proofs.counter.feed_counter.Goals as goal

pub loop-place-init : goal.loop-place-init
loop-place-init g c = inputs_left _ _ c.args.base c.args.limit c.args.first c.args.inputs _

pub returns-in_err-feed_input : goal.returns-in_err-feed_input
returns-in_err-feed_input g c =
    let z : c.loop-place.place ≡ 0 + c.loop-place.place = omega arith in
    range_left _ _ _ _ _ _ _ 0 c.args.inputs c.loop-place.place c.loop-place.place z _ _ c.from_residual.ensures.0 c.loop-place-test.true c.loop-place.invariant c.in_err-feed_input.ensures

pub loop-place-preserved : goal.loop-place-preserved
loop-place-preserved g c =
    let z : c.loop-place.place ≡ 0 + c.loop-place.place = omega arith in
    range_fed _ _ _ _ _ _ _ 0 c.args.inputs c.loop-place.place c.loop-place.place z c.loop-place-test.true c.loop-place.invariant c.in_ok-feed_input.ensures
