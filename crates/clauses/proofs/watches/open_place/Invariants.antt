use Rattle.std.proofs.Common.{◌≡◌, ℕ, ◌<◌, true}
use Rattle.clauses.specs.Watching.{false_at}
use Rattle.clauses.proofs.watches.open_place.Given as goal

abbrev pub invariant-loop-i : goal.invariant-loop-i
invariant-loop-i l = (j : ℕ) → j < l.i → (j ≡ l.avoid → ⊥) → false_at l.values l.clause j ≡ true
