use Rattle.std.proofs.Common.{◌≡◌, [], take, drop}
use Rattle.problem.specs.Repeats.{repeated_in}
use Rattle.problem.proofs.repeats.first_repeat.Given as goal

abbrev pub invariant-loop-i : goal.invariant-loop-i
invariant-loop-i l = repeated_in l.text (take l.i l.rows) (drop l.i l.rows) ≡ repeated_in l.text [] l.rows
