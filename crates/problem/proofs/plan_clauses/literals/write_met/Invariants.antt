use Rattle.std.proofs.Common.{◌≡◌, ◌+◌, ◌≤◌, ◌++◌, length, drop}
use Rattle.text.specs.Lists.{each}
use Rattle.text.specs.Literals.{lit}
use Rattle.text.specs.Rows.{items, room}
use Rattle.problem.specs.Stanzas.{row_satisfies_one, passing}
use Rattle.problem.proofs.plan_clauses.literals.write_met.Given as goal

abbrev pub invariant-loop-i : goal.invariant-loop-i
invariant-loop-i l =
    (items l.clause ++ each lit (passing (row_satisfies_one l.stanzas.text.now l.group) (l.before + l.i) (drop l.i l.stanzas.rows.now)) ≡
    items l.initial.clause ++ each lit (passing (row_satisfies_one l.stanzas.text.now l.group) l.before l.stanzas.rows.now))
    × (length (items l.clause) ≤ length (items l.initial.clause) + l.i) × (room l.clause ≡ room l.initial.clause)
