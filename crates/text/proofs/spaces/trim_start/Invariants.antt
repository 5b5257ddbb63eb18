use Rattle.std.proofs.Common.{◌≡◌, length}
use Rattle.text.specs.Spaces.{unled}
use Rattle.text.proofs.spaces.trim_start.Given as goal

abbrev pub invariant-loop-rest : goal.invariant-loop-rest
invariant-loop-rest l = unled l.rest ≡ unled l.text

abbrev pub decreases-loop-rest : goal.decreases-loop-rest
decreases-loop-rest l = length l.rest
