-- What an engine keeps that looks at a clause when a literal of it becomes false.
use Rattle.std.specs.Prelude.{◌≡◌, ℕ, ◌+◌, ◌-◌, ◌*◌, ◌<◌, ◌≤◌, Bool, ◌⊎◌, List, length, take, pos, Some, Option, slice_index, slice_index_or}
use Rattle.text.specs.Literals.{Clause, variable_of, positive}
use Rattle.clauses.specs.Propagation.{Settled, Reached}
use Rattle.clauses.specs.Stored.{held}
use Rattle.clauses.specs.Engine.{Ready}
use Rattle.clauses.specs.Cells.{values_of}
use Rattle.clauses.specs.Rows.{row_at, span}
use Rattle.clauses.specs.Codes.{code_of, Hit}
use Rattle.clauses.specs.Counting.{Gap, Tally, hits}
use Rattle.clauses.specs.Links.{On, AllBelow}
use Rattle.clauses.specs.Linked.{Linked}
use Rattle.clauses.specs.declared.store.Store.{Store}
use Rattle.clauses.specs.declared.trail.Trail.{Trail}
use Rattle.clauses.specs.declared.index.Index.{Index}

abbrev pub clause_at : Store → ℕ → Clause
clause_at s k = span s.literals.now (row_at s.rows.now k)

-- a literal of the trail, at low or later, makes a literal of c false
abbrev pub Waiting : Trail → ℕ → Clause → Type 0
Waiting t low c = (q : ℕ) × (low ≤ q) × (q < t.tail) × Hit (slice_index_or t.literals.now q (pos 0)) c

-- the clause in row k was looked at
pub record Examined (s : Store) (k : ℕ) (xs ys : List (Option Bool)) (t u : Trail) : Type 0 where
  pub here : Settled (values_of ys) (clause_at s k)
  pub others : (c : Clause) → Settled (values_of xs) c → Settled (values_of ys) c ⊎ Waiting u t.tail c
  pub kept : (q : ℕ) → q < t.tail → slice_index_or u.literals.now q (pos 0) ≡ slice_index_or t.literals.now q (pos 0)
  pub grows : t.tail ≤ u.tail
  pub gap : Gap (values_of xs) (values_of ys) u t.tail
  pub made : (q : ℕ) → t.tail ≤ q → q < u.tail → values_of ys (variable_of (slice_index_or u.literals.now q (pos 0))) ≡ Some (positive (slice_index_or u.literals.now q (pos 0)))

-- the row r is on the list of the literals with this code
abbrev pub Listed : Index → ℕ → ℕ → Type 0
Listed x code r = (e : ℕ) × On x.next.now (slice_index x.heads.now code) e × (slice_index x.owners.now e ≡ r)

-- each clause is settled, or waits for a literal of the trail
abbrev pub Pending : Store → List (Option Bool) → Trail → ℕ → Type 0
Pending s xs t head = (k : ℕ) → k < s.count → Settled (values_of xs) (clause_at s k) ⊎ Waiting t head (clause_at s k)

-- the same on the way through a list: or is on the rest of it
abbrev pub Walking : Store → Index → List (Option Bool) → Trail → ℕ → ℕ → Type 0
Walking s x xs t head link = (k : ℕ) → k < s.count → Settled (values_of xs) (clause_at s k) ⊎ (Waiting t head (clause_at s k) ⊎ ((e : ℕ) × On x.next.now link e × (slice_index x.owners.now e ≡ k)))

-- the memory suffices
pub record Fit (s : Store) (x : Index) : Type 0 where
  pub linked : Linked x
  pub next : s.filled ≤ length x.next.now
  pub owners : s.filled ≤ length x.owners.now
  pub heads : 2 * s.variables ≤ x.lists - 2

-- an index keeps its memory
pub record Same (x y : Index) : Type 0 where
  pub heads : length y.heads.now ≡ length x.heads.now
  pub next : length y.next.now ≡ length x.next.now
  pub owners : length y.owners.now ≡ length x.owners.now

-- the rows below k are on the lists of their literals
pub record Indexed (s : Store) (x : Index) (k : ℕ) : Type 0 where
  pub whole : (r : ℕ) → r < k → (j : ℕ) → j < length (clause_at s r) → Listed x (code_of (slice_index_or (clause_at s r) j (pos 0))) r
  pub owned : AllBelow x.owners.now x.used s.count
  pub room : (r : ℕ) → k ≤ r → r < s.count → x.used ≤ (row_at s.rows.now r).start
  pub tallied : (r : ℕ) → r < k → (code : ℕ) → code < x.lists → Tally x.next.now x.owners.now r (slice_index x.heads.now code) (hits code (clause_at s r))

-- the same, and the first i literals of row k
pub record Entering (s : Store) (x₀ x : Index) (k i : ℕ) : Type 0 where
  pub fit : Fit s x
  pub same : Same x₀ x
  pub whole : (r : ℕ) → r < k → (j : ℕ) → j < length (clause_at s r) → Listed x (code_of (slice_index_or (clause_at s r) j (pos 0))) r
  pub part : (j : ℕ) → j < i → Listed x (code_of (slice_index_or (clause_at s k) j (pos 0))) k
  pub owned : AllBelow x.owners.now x.used s.count
  pub room : x.used ≤ (row_at s.rows.now k).start + i
  pub tallied : (r : ℕ) → r < k → (code : ℕ) → code < x.lists → Tally x.next.now x.owners.now r (slice_index x.heads.now code) (hits code (clause_at s r))
  pub some : (code : ℕ) → code < x.lists → Tally x.next.now x.owners.now k (slice_index x.heads.now code) (hits code (take i (clause_at s k)))

-- the rows below k were looked at
pub record Starting (s : Store) (xs ys : List (Option Bool)) (u : Trail) (k : ℕ) : Type 0 where
  pub reached : Reached (held s) (values_of xs) (values_of ys)
  pub ready : Ready s ys u
  pub first : (r : ℕ) → r < k → Settled (values_of ys) (clause_at s r) ⊎ Waiting u 0 (clause_at s r)

-- on the way through a list
pub record Walk (s : Store) (x : Index) (xs ys : List (Option Bool)) (t u : Trail) (low link : ℕ) : Type 0 where
  pub reached : Reached (held s) (values_of xs) (values_of ys)
  pub ready : Ready s ys u
  pub room : length u.literals.now ≡ length t.literals.now
  pub ahead : low ≤ u.tail
  pub within : link ≤ x.used
  pub walking : Walking s x ys u low link
