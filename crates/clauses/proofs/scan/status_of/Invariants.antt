use Rattle.std.proofs.Common.{◌≡◌, drop, None}
use Rattle.clauses.specs.Status.{status_from}
use Rattle.clauses.specs.Cells.{values_of}
use Rattle.clauses.proofs.scan.status_of.Given as goal

-- what is left of the clause gives the answer
abbrev pub invariant-loop-literal : goal.invariant-loop-literal
invariant-loop-literal l =
    status_from (values_of l.values) l.found (drop l.literal-index l.clause) ≡ status_from (values_of l.values) None l.clause
