use Rattle.clauses.specs.Events.{Fit, Indexed, Same}
use Rattle.clauses.proofs.indexing.index_all.Given as goal

abbrev pub invariant-loop-k : goal.invariant-loop-k
invariant-loop-k l = Fit l.store l.index × Indexed l.store l.index l.k × Same l.initial.index l.index
