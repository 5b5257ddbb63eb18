use Rattle.std.proofs.Common.{◌≡◌, ◌-◌, length}
use Rattle.clauses.specs.Propagation.{Reached}
use Rattle.clauses.specs.Cells.{values_of}
use Rattle.clauses.specs.Stored.{held}
use Rattle.clauses.specs.Engine.{Quiet, Ready}
use Rattle.clauses.specs.Events.{Same}
use Rattle.clauses.proofs.propagator.Propagator.propagate.Given as goal

abbrev pub invariant-loop-head : goal.invariant-loop-head
invariant-loop-head g l =
    record {
      reached : Reached (held l.store) (values_of l.fn.values.cells.now) (values_of l.cells);
      ready : Ready l.store l.cells l.trail;
      keeps : g.Self.Propagator.Keeps l.store l.index l.self l.cells l.trail l.head;
      quiet : Quiet l.store l.cells l.trail l.head;
      serves : g.Self.Propagator.serves l.self ≡ g.Self.Propagator.serves l.fn.self;
      same : Same l.fn.index l.index;
      room : length l.trail.literals.now ≡ length l.fn.trail.literals.now;
    }

abbrev pub decreases-loop-head : goal.decreases-loop-head
decreases-loop-head g l = length l.trail.literals.now - l.head
