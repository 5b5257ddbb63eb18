use Rattle.std.proofs.Common.{◌≡◌, false, length, is_err}
use Rattle.text.specs.Left.{left}
use Rattle.problem.specs.ConstraintLists.{kept, stored_all, limit_of}
use Rattle.problem.specs.Growth.{Grown}
use Rattle.problem.proofs.lists.read_conjuncts.Given as goal

abbrev pub invariant-loop-piece : goal.invariant-loop-piece
invariant-loop-piece l =
    (stored_all (limit_of l.initial.out) (kept l.text l.out (is_err l.placed)) (left l.parts) ≡ stored_all (limit_of l.initial.out) (kept l.text l.initial.out false) (left l.initial.parts))
    × (l.parts.text.now ≡ l.text)
    × Grown l.text l.initial.out l.out

abbrev pub decreases-loop-piece : goal.decreases-loop-piece
decreases-loop-piece l = length (left l.parts)
