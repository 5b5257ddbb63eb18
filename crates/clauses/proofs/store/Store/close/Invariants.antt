use Rattle.clauses.specs.Closing.{Closing}
use Rattle.clauses.proofs.store.Store.close.Given as goal

abbrev pub invariant-loop-k : goal.invariant-loop-k
invariant-loop-k l =
    Closing l.initial.self.rows.now l.initial.self.literals.now l.total l.initial.self.next l.initial.self.variables l.self l.k
