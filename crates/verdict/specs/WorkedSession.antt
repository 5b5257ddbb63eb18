-- A session worked through: the two cans with their shifts, and the set of stanzas 2 and 4.
-- blank: a base with the program's room; opened: it after the opening; memory: what its steps are read into
-- hinted_step: the empty clause, with hints
-- WorkedSession: what its opening comes to, that this step alone is a good certificate, and what its verdict says
use Rattle.std.specs.Prelude.{◌≡◌, T, [], ◌∷◌, length, Some}
use Rattle.certificate.specs.Reading.{Memory}
use Rattle.certificate.specs.Stream.{add, Placed}
use Rattle.clauses.specs.ClauseBase.{Meaning, fresh}
use Rattle.problem.specs.Examples.{cans, among}
use Rattle.verdict.specs.Law.{Means, Good}
use Rattle.verdict.specs.Session.{Answer, set, opens, opening_variables, opening_clauses, opening_fits}
use Rattle.verdict.specs.declared.outcome.Verdict.TheVariants.{Optimal}

abbrev pub new_shift : Answer
new_shift = set (among (2 ∷ 4 ∷ []))

abbrev pub blank : Meaning
blank = fresh (record { variables = 4096; clauses = 8192; literals = 16384 })

abbrev pub opened : Meaning
opened = opens blank cans new_shift

abbrev pub memory : Memory
memory = record { literals = 4096; hints = 16384 }

abbrev pub hinted_step : Placed
hinted_step = record { place = 1; step = add [] (Some (5 ∷ 4 ∷ 10 ∷ 12 ∷ 16 ∷ 20 ∷ 22 ∷ 23 ∷ [])) }

pub record WorkedSession : Type 0 where
  pub variables : opening_variables cans new_shift ≡ 15
  pub clauses : length (opening_clauses cans new_shift) ≡ 23
  pub fits : T (opening_fits blank cans new_shift)
  pub good : Good memory opened (hinted_step ∷ [])
  pub means : Means cans new_shift (Optimal (record { removed = 0; changed = 2 }))
