-- A store whose gaps are closed.
-- room_for: whether so many clauses and literals leave room for one clause more
-- Spacious: whether the live clauses leave room for one more, which then lies behind those in use
-- Closed: the same clauses, with no gap; Closing: the rows below k were brought down
use Rattle.std.specs.Prelude.{◌≡◌, ℕ, suc, ◌+◌, ◌<◌, ◌≤◌, Bool, true, ◌&&◌, List, length, take, drop, ℤ, nat_le}
use Rattle.clauses.specs.ClauseBase.{literal_count}
use Rattle.clauses.specs.Rows.{row_at, held_in, Dense}
use Rattle.clauses.specs.Stored.{held, Kept}
use Rattle.clauses.specs.declared.row.Row.{Row}
use Rattle.clauses.specs.declared.store.Store.{Store}

abbrev pub room_for : ℕ → ℕ → ℕ → Store → Bool
room_for count filled len s = nat_le (suc count) (length s.rows.now) && nat_le (filled + len) (length s.literals.now)

pub record Spacious (s t : Store) (len : ℕ) (r : Bool) : Type 0 where
  pub kept : Kept s t
  pub next : t.next ≡ s.next
  pub clauses : held t ≡ held s
  pub answer : r ≡ room_for (length (held s)) (literal_count (held s)) len s
  pub behind : r ≡ true → (t.count < length t.rows.now) × (t.filled + len ≤ length t.literals.now)

pub record Closed (s t : Store) : Type 0 where
  pub kept : Kept s t
  pub next : t.next ≡ s.next
  pub clauses : held t ≡ held s
  pub dense : Dense t.rows.now t.count
  pub count : t.count ≡ length (held t)
  pub filled : t.filled ≡ literal_count (held t)

-- of the rows and literals as they were, with so many rows in use, the rows below k were brought down
pub record Closing (rows : List Row) (lits : List ℤ) (total next variables : ℕ) (t : Store) (k : ℕ) : Type 0 where
  pub behind : drop t.count t.rows.now ≡ drop t.count rows
  pub beyond : drop t.filled t.literals.now ≡ drop t.filled lits
  pub long : length t.rows.now ≡ length rows
  pub wide : length t.literals.now ≡ length lits
  pub variables' : t.variables ≡ variables
  pub next' : t.next ≡ next
  pub few : t.count ≤ k
  pub above : (j : ℕ) → k ≤ j → j < total → t.filled ≤ (row_at rows j).start
  pub lower : (i j : ℕ) → i < t.count → k ≤ j → j < total → (row_at t.rows.now i).number < (row_at rows j).number
  pub clauses : held t ≡ held_in lits (take k rows)
  pub dense : Dense t.rows.now t.count
  pub count : t.count ≡ length (held t)
  pub filled : t.filled ≡ literal_count (held t)
