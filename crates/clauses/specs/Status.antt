-- What the values say of a clause: a scan from its first literal.
-- status_at: one literal: its value, the unset literal found so far, and what the rest then gives
-- status_from: the whole scan; Means: what each answer says of the clause
use Rattle.std.specs.Prelude.{Bool, true, false, T, [], ◌∷◌, ℤ, Some, None, Option}
use Rattle.text.specs.Literals.{Clause}
use Rattle.clauses.specs.Propagation.{Values, value, all_false, Unit', Settled}
use Rattle.clauses.specs.declared.scan.Status.{Status}
use Rattle.clauses.specs.declared.scan.Status.TheVariants.{Conflict, Forced, Other}

abbrev pub status_at : Option Bool → Option ℤ → ℤ → (Option ℤ → Status) → Status
status_at (Some true) found l rest = Other
status_at (Some false) found l rest = rest found
status_at None None l rest = rest (Some l)
status_at None (Some k) l rest = Other

abbrev pub status_from : Values → Option ℤ → Clause → Status
status_from f None [] = Conflict
status_from f (Some l) [] = Forced l
status_from f found (l ∷ ls) = status_at (value f l) found l (λ k. status_from f k ls)

abbrev pub Means : Values → Clause → Status → Type 0
Means f c Conflict = T (all_false f c)
Means f c (Forced l) = Unit' f c l
Means f c Other = Settled f c
