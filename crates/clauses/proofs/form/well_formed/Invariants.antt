use Rattle.std.proofs.Common.{◌≡◌, length}
use Rattle.clauses.specs.ClauseBase.{well_formed}
use Rattle.clauses.proofs.form.well_formed.Given as goal

abbrev pub invariant-loop-rest : goal.invariant-loop-rest
invariant-loop-rest l = well_formed l.variables l.rest ≡ well_formed l.variables l.clause

abbrev pub decreases-loop-rest : goal.decreases-loop-rest
decreases-loop-rest l = length l.rest
