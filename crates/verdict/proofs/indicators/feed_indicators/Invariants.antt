use Rattle.std.proofs.Common.{◌+◌, ◌≤◌}
use Rattle.problem.specs.Feeding.{Left}
use Rattle.verdict.specs.Indicators.{of_names, listed_from}
use Rattle.verdict.proofs.indicators.feed_indicators.Given as goal

abbrev pub invariant-loop-place : goal.invariant-loop-place
invariant-loop-place g l =
    Left g.S.ClauseSink.goes g.S.ClauseSink.stops (of_names l.indicator l.stanzas.text.now l.stanzas.rows.now l.first (listed_from l.indicator l.stanzas.text.now l.stanzas.rows.now 0)) l.initial.sink
    (of_names l.indicator l.stanzas.text.now l.stanzas.rows.now l.number (listed_from l.indicator l.stanzas.text.now l.stanzas.rows.now l.place)) l.sink
    × (1 ≤ l.number) × (l.number ≤ l.first + l.place)
