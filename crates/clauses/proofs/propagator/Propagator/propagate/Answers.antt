use Rattle.std.proofs.Common.{◌∙◌}
use Rattle.std.proofs.lemmas.Bool.{false≢true}
use Rattle.clauses.proofs.Theory.{reached_more, settled_refuted}
use Rattle.clauses.proofs.Guarding.{same_more}
use Rattle.clauses.proofs.propagator.Propagator.propagate.Goals as goal

pub loop-head-preserved : goal.loop-head-preserved
loop-head-preserved g c =
    let e = c.in_ok-wake.ensures in
    let i = c.loop-head.invariant in
    record { reached = reached_more _ _ _ _ i.reached e.goes; ready = e.ready; keeps = e.keeps; quiet = e.quiet; serves = e.serves ∙ i.serves; same = same_more _ _ _ i.same e.same; room = e.room ∙ i.room }

pub returns : goal.returns
returns g c =
    let i = c.loop-head.invariant in
    record { decides = ((λ e. absurd (false≢true e)), λ r. absurd (settled_refuted _ _ _ i.reached (i.quiet c.loop-head-test.false) r)); cells = c.loop-head.auto.cells ∙ c.start.auto.values; serves = i.serves; same = i.same; room = i.room }
