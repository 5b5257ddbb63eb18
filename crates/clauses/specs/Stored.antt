-- What a store holds and keeps.
-- held: its live clauses; Sound: its rows and literals fit together
-- Kept: what no call on rows and literals changes
-- Cleared: a store with no clause
use Rattle.std.specs.Prelude.{◌≡◌, ℕ, ◌^◌, ◌<◌, ◌≤◌, List, [], length, take}
use Rattle.clauses.specs.Propagation.{Held}
use Rattle.clauses.specs.Rows.{held_in, Spans, Ordered, Rising, Under, Named}
use Rattle.clauses.specs.declared.store.Store.{Store}

abbrev pub held : Store → List Held
held s = held_in s.literals.now (take s.count s.rows.now)

pub record Sound (s : Store) : Type 0 where
  pub counted : s.count ≤ length s.rows.now
  pub small : s.filled < 2 ^ 32
  pub within : s.filled ≤ length s.literals.now
  pub spans : Spans s.rows.now s.count s.filled
  pub ordered : Ordered s.rows.now s.count
  pub rising : Rising s.rows.now s.count
  pub under : Under s.rows.now s.count s.next
  pub named : Named s.literals.now s.filled s.variables

pub record Kept (s t : Store) : Type 0 where
  pub rows : length t.rows.now ≡ length s.rows.now
  pub literals : length t.literals.now ≡ length s.literals.now
  pub variables : t.variables ≡ s.variables

pub record Cleared (s t : Store) (variables : ℕ) : Type 0 where
  pub rows : length t.rows.now ≡ length s.rows.now
  pub literals : length t.literals.now ≡ length s.literals.now
  pub variables' : t.variables ≡ variables
  pub next : t.next ≡ 1
  pub clauses : held t ≡ []
