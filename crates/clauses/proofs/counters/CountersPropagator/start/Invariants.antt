use Rattle.clauses.specs.Counters.{Begun}
use Rattle.clauses.proofs.counters.CountersPropagator.start.Given as goal

abbrev pub invariant-loop-k : goal.invariant-loop-k
invariant-loop-k l = Begun l.store l.initial.values l.values l.left l.initial.trail l.trail l.k
