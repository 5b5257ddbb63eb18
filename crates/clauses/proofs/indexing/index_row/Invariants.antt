use Rattle.clauses.specs.Events.{Entering}
use Rattle.clauses.proofs.indexing.index_row.Given as goal

abbrev pub invariant-loop-literal : goal.invariant-loop-literal
invariant-loop-literal l = Entering l.store l.initial.index l.index l.k l.literal-index
