use Rattle.std.proofs.Common.{◌≡◌, ◌+◌, length}
use Rattle.clauses.specs.Propagation.{Reached}
use Rattle.clauses.specs.Cells.{values_of}
use Rattle.clauses.specs.Stored.{held}
use Rattle.clauses.specs.Engine.{Ready}
use Rattle.clauses.specs.Events.{Same}
use Rattle.clauses.specs.Watching.{Watchful}
use Rattle.clauses.proofs.watches.PlacesPropagator.wake.Given as goal

abbrev pub invariant-loop-link : goal.invariant-loop-link
invariant-loop-link l =
    Reached (held l.store) (values_of l.initial.values) (values_of l.values)
    × Ready l.store l.values l.trail
    × Watchful l.store l.index l.places l.values l.trail (l.head + 1) l.link
    × Same l.initial.index l.index
    × (length l.trail.literals.now ≡ length l.initial.trail.literals.now)

abbrev pub decreases-loop-link : goal.decreases-loop-link
decreases-loop-link l = l.link
