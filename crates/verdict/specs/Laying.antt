-- The clauses of an opening on a base.
-- Took, Turned: a clause that the base took, and one that it did not
-- Lays: some clauses added in order to a base that was cleared for so many variables
use Rattle.std.specs.Prelude.{◌≡◌, ℕ, not, ◌&&◌, T, List, Ok, Err, Result, nat_le}
use Rattle.text.specs.Lists.{Each}
use Rattle.text.specs.Literals.{Clause}
use Rattle.clauses.specs.Calls.{Adds}
use Rattle.clauses.specs.ClauseBase.{Meaning, idle, well_formed, cleared}
use Rattle.clauses.specs.declared.fault.BaseFault.{BaseFault}
use Rattle.problem.specs.declared.sink.Stopped.{Stopped}
use Rattle.verdict.specs.Session.{added_all, fit_all}

abbrev pub Took : Meaning → Clause → Meaning → Type 0
Took m c m' = (n : ℕ) × Adds m c (Ok n) m'

abbrev pub Turned : Meaning → Clause → Meaning → Type 0
Turned m c m' = (f : BaseFault) × Adds m c (Err f) m'

-- all of them fit and are there; or, where they are well-formed, they do not fit
abbrev pub Lays : Meaning → ℕ → List Clause → Result (Unit {0}) Stopped → Meaning → Type 0
Lays m V cs (Ok u) m' = T (nat_le V m.room.variables && fit_all (cleared m V) cs) × (m' ≡ added_all (cleared m V) cs)
Lays m V cs (Err e) m' = (Each (λ c. T (well_formed V c)) cs → T (not (nat_le V m.room.variables && fit_all (cleared m V) cs))) × (m'.trial ≡ idle) × (m'.room ≡ m.room)
