-- Clauses in memory: a row names a stretch of the literals.
-- row_at: the row at a place; span: the literals of a row; held_in: the clauses of the live rows
-- Spans: each row lies inside the literals in use; Ordered: the rows lie in their order
-- Rising: the numbers rise; Under: they are below a number
-- Named: each literal in use speaks of a variable, which there then is
-- Dense: each row is live
use Rattle.std.specs.Prelude.{◌≡◌, ℕ, ◌+◌, ◌-◌, ◌<◌, ◌≤◌, true, false, List, take, drop, ℤ, pos, slice_index_or}
use Rattle.text.specs.Lists.{each, keep}
use Rattle.text.specs.Literals.{Clause, variable_of}
use Rattle.clauses.specs.Propagation.{Held}
use Rattle.clauses.specs.declared.row.Row.{Row}

abbrev pub no_row : Row
no_row = record { number = 0; start = 0; len = 0; live = false }

abbrev pub row_at : List Row → ℕ → Row
row_at rows k = slice_index_or rows k no_row

abbrev pub span : List ℤ → Row → Clause
span lits r = take r.len (drop r.start lits)

abbrev pub held_of : List ℤ → Row → Held
held_of lits r = record { number = r.number; literals = span lits r }

abbrev pub held_in : List ℤ → List Row → List Held
held_in lits rows = each (held_of lits) (keep (λ r. r.live) rows)

abbrev pub Spans : List Row → ℕ → ℕ → Type 0
Spans rows count filled = (k : ℕ) → k < count → (row_at rows k).start + (row_at rows k).len ≤ filled

abbrev pub Ordered : List Row → ℕ → Type 0
Ordered rows count = (j k : ℕ) → j < k → k < count → (row_at rows j).start + (row_at rows j).len ≤ (row_at rows k).start

abbrev pub Rising : List Row → ℕ → Type 0
Rising rows count = (j k : ℕ) → j < k → k < count → (row_at rows j).number < (row_at rows k).number

abbrev pub Under : List Row → ℕ → ℕ → Type 0
Under rows count n = (k : ℕ) → k < count → (row_at rows k).number < n

abbrev pub Named : List ℤ → ℕ → ℕ → Type 0
Named lits filled variables = (k : ℕ) → k < filled → variable_of (slice_index_or lits k (pos 0)) - 1 < variables

abbrev pub Dense : List Row → ℕ → Type 0
Dense rows count = (k : ℕ) → k < count → (row_at rows k).live ≡ true
