use Rattle.std.proofs.Common.{◌+◌, drop}
use Rattle.problem.specs.Feeding.{Left}
use Rattle.problem.specs.Stanzas.{row_satisfies, passing, denials}
use Rattle.problem.proofs.plan_clauses.denials.feed_denials.Given as goal

abbrev pub invariant-loop-i : goal.invariant-loop-i
invariant-loop-i g l =
    Left g.S.ClauseSink.goes g.S.ClauseSink.stops (denials l.beside (passing (row_satisfies l.stanzas.text.now l.constraint) 0 l.stanzas.rows.now)) l.initial.sink
    (denials l.beside (passing (row_satisfies l.stanzas.text.now l.constraint) (0 + l.i) (drop l.i l.stanzas.rows.now))) l.sink
