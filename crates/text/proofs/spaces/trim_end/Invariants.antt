use Rattle.std.proofs.Common.{◌≡◌, length}
use Rattle.text.specs.Spaces.{unended}
use Rattle.text.proofs.spaces.trim_end.Given as goal

abbrev pub invariant-loop-rest : goal.invariant-loop-rest
invariant-loop-rest l = unended l.rest ≡ unended l.text

abbrev pub decreases-loop-rest : goal.decreases-loop-rest
decreases-loop-rest l = length l.rest
