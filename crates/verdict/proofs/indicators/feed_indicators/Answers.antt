use Rattle.std.proofs.Common.{arith}
use Rattle.verdict.proofs.Changing.{names_stop, names_more, names_same}
use Rattle.verdict.proofs.indicators.feed_indicators.Goals as goal
use Rattle.verdict.proofs.indicators.feed_indicators.Goals.{then-is_listed+in_ok-feed_indicator, else-is_listed}

pub returns-in_err-feed_indicator : goal.returns-in_err-feed_indicator
returns-in_err-feed_indicator g c =
    names_stop _ _ c.args.indicator c.args.stanzas.now.text.now c.args.stanzas.now.rows.now c.loop-place.number c.loop-place.place _ _ _ c.loop-place.invariant.0 _ c.loop-place-test.true _ _ _
    c.from_residual.ensures.0 c.bytes_of-name.ensures c.if-is_listed.ensures c.in_err-feed_indicator.ensures

pub loop-place-preserved : goal.loop-place-preserved
loop-place-preserved g c =
    elim c.if-is_listed.branch [
      | then-is_listed+in_ok-feed_indicator w ↦ (
        names_more _ _ c.args.indicator c.args.stanzas.now.text.now c.args.stanzas.now.rows.now c.loop-place.number c.loop-place.place _ _ _ c.loop-place.invariant.0 _ c.loop-place-test.true _ _ _
            w.bytes_of-name.ensures w.if-is_listed.ensures w.number-is w.in_ok-feed_indicator.ensures w.sink-is,
        omega (arith, w.number-is),
        omega (arith, w.number-is),
      )
      | else-is_listed w ↦ (
        names_same _ _ c.args.indicator c.args.stanzas.now.text.now c.args.stanzas.now.rows.now c.loop-place.number c.loop-place.place _ _ _ c.loop-place.invariant.0 _ c.loop-place-test.true _
            w.if-is_listed.ensures w.number-is w.sink-is,
        omega (arith, w.number-is),
        omega (arith, w.number-is),
      )
    ]
