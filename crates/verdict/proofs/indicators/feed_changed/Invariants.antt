use Rattle.std.proofs.Common.{drop}
use Rattle.problem.specs.Feeding.{Left}
use Rattle.verdict.specs.Indicators.{changed_rows}
use Rattle.verdict.proofs.indicators.feed_changed.Given as goal

abbrev pub invariant-loop-i : goal.invariant-loop-i
invariant-loop-i g l =
    Left g.S.ClauseSink.goes g.S.ClauseSink.stops (changed_rows l.stanzas.text.now l.name l.changed.number 0 l.stanzas.rows.now) l.initial.sink
    (changed_rows l.stanzas.text.now l.name l.changed.number l.i (drop l.i l.stanzas.rows.now)) l.sink
