use Rattle.std.proofs.Common.{length}
use Rattle.verdict.proofs.Hinting.{Along}
use Rattle.verdict.proofs.trying.hints_show.Given as goal

abbrev pub invariant-loop-hint : goal.invariant-loop-hint
invariant-loop-hint g l = Along (g.B.ClauseBase.meaning l.initial.base) l.hints (g.B.ClauseBase.meaning l.base) l.rest

abbrev pub decreases-loop-hint : goal.decreases-loop-hint
decreases-loop-hint g l = length l.rest
