use Rattle.std.proofs.Common.{drop}
use Rattle.text.specs.Lists.{each_all}
use Rattle.problem.specs.Cudf.{stanzas}
use Rattle.problem.specs.Feeding.{Left}
use Rattle.problem.specs.Meaning.{problem_of}
use Rattle.problem.specs.PlanClauses.{of_stanza}
use Rattle.problem.proofs.plan_clauses.feed_stanzas.Given as goal

abbrev pub invariant-loop-place : goal.invariant-loop-place
invariant-loop-place g l =
    Left g.S.ClauseSink.goes g.S.ClauseSink.stops (each_all (of_stanza (problem_of l.problem)) (stanzas (problem_of l.problem))) l.initial.sink
    (each_all (of_stanza (problem_of l.problem)) (drop l.place (stanzas (problem_of l.problem)))) l.sink
