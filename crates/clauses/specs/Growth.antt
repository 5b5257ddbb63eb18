-- What a store holds after an addition, step by step.
-- Speaks: each literal of the clause speaks of a variable
-- Copied: literals stand behind those in use; Sealed: and are a clause; Pushed: under the next number
use Rattle.std.specs.Prelude.{◌≡◌, ℕ, ◌+◌, ◌-◌, ◌<◌, true, [], ◌∷◌, ◌++◌, length, take, drop, pos, slice_index_or, slice_set}
use Rattle.text.specs.Literals.{Clause, variable_of}
use Rattle.clauses.specs.Stored.{held, Kept}
use Rattle.clauses.specs.declared.store.Store.{Store}

abbrev pub Speaks : Clause → ℕ → Type 0
Speaks c variables = (k : ℕ) → k < length c → variable_of (slice_index_or c k (pos 0)) - 1 < variables

-- the literals of c were copied behind those of s, which is t now
pub record Copied (s t : Store) (c : Clause) : Type 0 where
  pub rows : t.rows.now ≡ s.rows.now
  pub count : t.count ≡ s.count
  pub filled : t.filled ≡ s.filled
  pub variables : t.variables ≡ s.variables
  pub next : t.next ≡ s.next
  pub long : length t.literals.now ≡ length s.literals.now
  pub copied : take (s.filled + length c) t.literals.now ≡ take s.filled s.literals.now ++ c
  pub rest : drop (s.filled + length c) t.literals.now ≡ drop (s.filled + length c) s.literals.now

pub record Sealed (s t : Store) (number len : ℕ) : Type 0 where
  pub rows : t.rows.now ≡ slice_set s.rows.now s.count (record { number = number; start = s.filled; len = len; live = true })
  pub count : t.count ≡ s.count + 1
  pub filled : t.filled ≡ s.filled + len
  pub literals : t.literals.now ≡ s.literals.now
  pub variables : t.variables ≡ s.variables
  pub next : t.next ≡ s.next

pub record Pushed (s t : Store) (c : Clause) : Type 0 where
  pub kept : Kept s t
  pub next : t.next ≡ s.next + 1
  pub clauses : held t ≡ held s ++ record { number = s.next; literals = c } ∷ []
