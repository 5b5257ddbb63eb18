use Rattle.std.proofs.Common.{suc, length}
use Rattle.text.specs.Lists.{each_all}
use Rattle.problem.specs.Feeding.{Left}
use Rattle.problem.specs.Meaning.{conjuncts}
use Rattle.problem.specs.PlanClauses.{needs}
use Rattle.problem.specs.Stanzas.{row_satisfies_one, passing}
use Rattle.problem.proofs.plan_clauses.conjuncts.feed_depends.Given as goal

abbrev pub invariant-loop-group : goal.invariant-loop-group
invariant-loop-group g l =
    Left g.S.ClauseSink.goes g.S.ClauseSink.stops (each_all (λ cs. needs (suc l.place) (passing (row_satisfies_one l.stanzas.text.now cs) 0 l.stanzas.rows.now)) (conjuncts l.depends)) l.initial.sink
    (each_all (λ cs. needs (suc l.place) (passing (row_satisfies_one l.stanzas.text.now cs) 0 l.stanzas.rows.now)) (conjuncts l.rest)) l.sink

abbrev pub decreases-loop-group : goal.decreases-loop-group
decreases-loop-group g l = length l.rest
