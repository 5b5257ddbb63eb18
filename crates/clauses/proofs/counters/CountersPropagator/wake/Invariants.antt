use Rattle.std.proofs.Common.{◌+◌}
use Rattle.clauses.specs.Events.{Walk}
use Rattle.clauses.specs.Counters.{Telling}
use Rattle.clauses.proofs.counters.CountersPropagator.wake.Given as goal

abbrev pub invariant-loop-link : goal.invariant-loop-link
invariant-loop-link l =
    Walk l.store l.index l.initial.values l.values l.initial.trail l.trail (l.head + 1) l.link
    × Telling l.store l.index l.values l.left l.trail (l.head + 1) l.link

abbrev pub decreases-loop-link : goal.decreases-loop-link
decreases-loop-link l = l.link
