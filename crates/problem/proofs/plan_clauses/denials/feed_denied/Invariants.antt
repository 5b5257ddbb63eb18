use Rattle.std.proofs.Common.{drop}
use Rattle.text.specs.Lists.{each_all}
use Rattle.problem.specs.Feeding.{Left}
use Rattle.problem.specs.Stanzas.{row_satisfies, passing, denials}
use Rattle.problem.proofs.plan_clauses.denials.feed_denied.Given as goal

abbrev pub invariant-loop-constraint : goal.invariant-loop-constraint
invariant-loop-constraint g l =
    Left g.S.ClauseSink.goes g.S.ClauseSink.stops (each_all (λ c. denials l.beside (passing (row_satisfies l.stanzas.text.now c) 0 l.stanzas.rows.now)) l.constraints) l.initial.sink
    (each_all (λ c. denials l.beside (passing (row_satisfies l.stanzas.text.now c) 0 l.stanzas.rows.now)) (drop l.constraint-index l.constraints)) l.sink
