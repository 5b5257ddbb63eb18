use Rattle.std.proofs.Common.{◌≡◌, length, take, reverse}
use Rattle.clauses.specs.Cells.{values_of}
use Rattle.clauses.specs.Propagation.{denied}
use Rattle.clauses.proofs.common.Values.deny_all.Given as goal

abbrev pub invariant-loop-literal : goal.invariant-loop-literal
invariant-loop-literal l =
    goal.iterator-loop-literal.can_next l.literal-iterator
    × goal.iterator-loop-literal.is_finite l.literal-iterator
    × (length l.self.cells.now ≡ length l.initial.self.cells.now)
    × (values_of l.self.cells.now ≡ denied (reverse (take (length l.yielded) (reverse l.clause))))
