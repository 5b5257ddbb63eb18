-- Clauses of a store by their numbers.
-- Found: the row of the live clause with a number, if there is one
-- TakenOut: the clause in row k is held no more
use Rattle.std.specs.Prelude.{◌≡◌, ℕ, ◌<◌, true, false, Some, None, Option}
use Rattle.clauses.specs.ClauseBase.{is_live, without}
use Rattle.clauses.specs.Rows.{row_at}
use Rattle.clauses.specs.Stored.{held, Kept}
use Rattle.clauses.specs.declared.store.Store.{Store}

abbrev pub Found : Store → ℕ → Option ℕ → Type 0
Found s n None = is_live (held s) n ≡ false
Found s n (Some k) = (k < s.count) × ((row_at s.rows.now k).number ≡ n) × ((row_at s.rows.now k).live ≡ true)

pub record TakenOut (s t : Store) (k : ℕ) : Type 0 where
  pub kept : Kept s t
  pub next : t.next ≡ s.next
  pub clauses : (row_at s.rows.now k).live ≡ true → held t ≡ without (held s) (row_at s.rows.now k).number
