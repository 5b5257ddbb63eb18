use Rattle.clauses.proofs.Guarding.{Begun}
use Rattle.clauses.proofs.watches.PlacesPropagator.start.Given as goal

abbrev pub invariant-loop-k : goal.invariant-loop-k
invariant-loop-k l =
    Begun l.store l.fn.index l.index l.places l.initial.values l.values l.initial.trail l.trail l.k
