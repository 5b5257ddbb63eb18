use Rattle.problem.proofs.Meets.{stanzas_more, stanzas_stop, stanzas_all}
use Rattle.problem.proofs.plan_clauses.feed_stanzas.Goals as goal

pub returns-in_err-feed_stanza : goal.returns-in_err-feed_stanza
returns-in_err-feed_stanza g c =
    stanzas_stop _ _ c.args.problem.now _ _ _ _ c.loop-place.place _ c.len-count.ensures c.loop-place-test.true c.loop-place.invariant _ _ c.from_residual.ensures.0 c.in_err-feed_stanza.ensures

pub loop-place-preserved : goal.loop-place-preserved
loop-place-preserved g c = stanzas_more _ _ c.args.problem.now _ _ _ _ c.loop-place.place _ c.len-count.ensures c.loop-place-test.true c.loop-place.invariant c.in_ok-feed_stanza.ensures

pub returns : goal.returns
returns g c = stanzas_all _ _ c.args.problem.now _ _ _ c.loop-place.sink c.loop-place.place _ c.len-count.ensures c.loop-place-test.false c.loop-place.invariant
