-- What an engine keeps that watches two literals of each clause.
-- false_at: whether the literal at a place is false; Found, Picked, TwoOpen: places whose literals are not
-- Guards: the lists lead to rows, and there is one for each literal; Grown: entries were added
-- Waits: the trail, at low or later, makes the literal false; Rest: row k is on the list from a link on
-- Watch, Paired: what a row watches is listed, and is not false unless its turn is to come
-- Guarded: a row is satisfied, or watches two places; Watchful: each row is guarded
-- Watches: the row watches the place; Spotted: each entry has a place of its own, false or watched
-- Enlisted, Visited: a row is on a list, watches two literals
use Rattle.std.specs.Prelude.{◌≡◌, ℕ, ◌+◌, ◌-◌, ◌*◌, ◌<◌, ◌≤◌, Bool, true, false, T, ◌⊎◌, List, length, ℤ, pos, Some, None, Option, ◌≢◌, slice_index, slice_index_or}
use Rattle.text.specs.Literals.{Clause}
use Rattle.clauses.specs.Propagation.{value, is_false, satisfied, Below}
use Rattle.clauses.specs.Cells.{values_of}
use Rattle.clauses.specs.Rows.{row_at}
use Rattle.clauses.specs.Codes.{code_of, Against}
use Rattle.clauses.specs.Linked.{On, AllBelow, Linked}
use Rattle.clauses.specs.Events.{clause_at, Listed, Same}
use Rattle.clauses.specs.Counting.{Gap}
use Rattle.clauses.specs.declared.index.Index.{Index}
use Rattle.clauses.specs.declared.store.Store.{Store}
use Rattle.clauses.specs.declared.trail.Trail.{Trail}

abbrev pub false_at : List (Option Bool) → Clause → ℕ → Bool
false_at xs c p = is_false (value (values_of xs) (slice_index_or c p (pos 0)))

-- all places but one are false
abbrev pub AllBut : List (Option Bool) → Clause → ℕ → Type 0
AllBut xs c p = (j : ℕ) → j < length c → (j ≢ p) → false_at xs c j ≡ true

abbrev pub Found : List (Option Bool) → Clause → ℕ → Option ℕ → Type 0
Found xs c avoid None = AllBut xs c avoid
Found xs c avoid (Some p) = (p < length c) × (p ≢ avoid) × (false_at xs c p ≡ false)

pub record Pair (xs : List (Option Bool)) (c : Clause) (p q : ℕ) : Type 0 where
  pub apart : p ≡ q → ⊥
  pub first : p < length c
  pub second : q < length c
  pub first_open : false_at xs c p ≡ false
  pub second_open : false_at xs c q ≡ false

pub record Picked (xs : List (Option Bool)) (c : Clause) (old avoid : ℕ) (r : Option ℕ) : Type 0 where
  pub found : Found xs c avoid r
  pub kept : old < length c → (old ≢ avoid) → false_at xs c old ≡ false → r ≡ Some old

-- an old place is one of the two, unless its literal is false
abbrev pub Kept : List (Option Bool) → Clause → ℕ → ℕ → ℕ → Type 0
Kept xs c old p q = old < length c → false_at xs c old ≡ false → (p ≡ old) ⊎ (q ≡ old)

abbrev pub TwoOpen : List (Option Bool) → Clause → ℕ → ℕ → Option (ℕ × ℕ) → Type 0
TwoOpen xs c old other None = (p : ℕ) × AllBut xs c p
TwoOpen xs c old other (Some r) = Pair xs c r.0 r.1 × (old < length c → false_at xs c old ≡ false → r.0 ≡ old) × Kept xs c other r.0 r.1

pub record Guards (s : Store) (x : Index) : Type 0 where
  pub linked : Linked x
  pub heads : 2 * s.variables ≤ x.lists - 2
  pub next : s.filled ≤ length x.next.now
  pub owners : s.filled ≤ length x.owners.now
  pub owned : AllBelow x.owners.now x.used s.count

pub record Grown (x y : Index) : Type 0 where
  pub lists : y.lists ≡ x.lists
  pub more : x.used ≤ y.used
  pub same : Same x y
  pub listed : (code r : ℕ) → code < x.lists → Listed x code r → Listed y code r
  pub chain : (link e : ℕ) → link ≤ x.used → On x.next.now link e → On y.next.now link e × (slice_index y.owners.now e ≡ slice_index x.owners.now e)

abbrev pub Watches : List ℕ → ℕ → ℕ → Type 0
Watches w k p = (slice_index w (2 * k) ≡ p) ⊎ (slice_index w (2 * k + 1) ≡ p)

pub record Spotted (s : Store) (used : ℕ) (xs : List (Option Bool)) (w : List ℕ) : Type 0 where
  pub spot : ℕ → ℕ
  pub inside : (e : ℕ) → e < used → spot e < s.filled
  pub apart : (d e : ℕ) → d < e → e < used → spot d ≢ spot e
  pub stale : (k p e : ℕ) → k < s.count → p < length (clause_at s k) → e < used → spot e ≡ (row_at s.rows.now k).start + p → (false_at xs (clause_at s k) p ≡ true) ⊎ Watches w k p

-- the place was watched, or the row is on its literal's list now
abbrev pub Joined : Store → ℕ → ℕ → List ℕ → Index → Type 0
Joined s k place w y = (slice_index w (2 * k) ≡ place) ⊎ ((slice_index w (2 * k + 1) ≡ place) ⊎ Listed y (code_of (slice_index_or (clause_at s k) place (pos 0))) k)

pub record Enlisted (s : Store) (k place : ℕ) (w : List ℕ) (x y : Index) : Type 0 where
  pub guards : Guards s y
  pub grown : Grown x y
  pub uses : ((y.used ≡ x.used) × Watches w k place) ⊎ ((y.used ≡ x.used + 1) × (Watches w k place → ⊥))
  pub joined : Joined s k place w y

-- values were set, and the trail has them
pub record Moved (xs ys : List (Option Bool)) (t u : Trail) : Type 0 where
  pub below : Below (values_of xs) (values_of ys)
  pub gap : Gap (values_of xs) (values_of ys) u t.tail
  pub kept : (q : ℕ) → q < t.tail → slice_index_or u.literals.now q (pos 0) ≡ slice_index_or t.literals.now q (pos 0)
  pub grows : t.tail ≤ u.tail

pub record Renewed (s : Store) (k : ℕ) (w v : List ℕ) (y : Index) (xs : List (Option Bool)) : Type 0 where
  pub pair : Pair xs (clause_at s k) (slice_index v (2 * k)) (slice_index v (2 * k + 1))
  pub first : Joined s k (slice_index v (2 * k)) w y
  pub second : Joined s k (slice_index v (2 * k + 1)) w y

pub record Visited (s : Store) (k : ℕ) (x y : Index) (w v : List ℕ) (xs ys : List (Option Bool)) (t u : Trail) : Type 0 where
  pub guards : Guards s y
  pub grown : Grown x y
  pub others : (j : ℕ) → (j ≢ 2 * k) → (j ≢ 2 * k + 1) → slice_index v j ≡ slice_index w j
  pub moved : Moved xs ys t u
  pub spots : Spotted s y.used ys v
  pub here : T (satisfied (values_of ys) (clause_at s k)) ⊎ Renewed s k w v y ys

abbrev pub Waits : Trail → ℕ → ℤ → Type 0
Waits t low m = (q : ℕ) × (low ≤ q) × (q < t.tail) × Against (slice_index_or t.literals.now q (pos 0)) m

abbrev pub Rest : Index → ℕ → ℕ → Type 0
Rest x k link = (e : ℕ) × On x.next.now link e × (slice_index x.owners.now e ≡ k)

pub record Watch (s : Store) (x : Index) (xs : List (Option Bool)) (t : Trail) (low link k p : ℕ) : Type 0 where
  pub within : p < length (clause_at s k)
  pub listed : Listed x (code_of (slice_index_or (clause_at s k) p (pos 0))) k
  pub good : (false_at xs (clause_at s k) p ≡ false) ⊎ (Waits t low (slice_index_or (clause_at s k) p (pos 0)) ⊎ Rest x k link)

pub record Paired (s : Store) (x : Index) (w : List ℕ) (xs : List (Option Bool)) (t : Trail) (low link k : ℕ) : Type 0 where
  pub apart : slice_index w (2 * k) ≢ slice_index w (2 * k + 1)
  pub first : Watch s x xs t low link k (slice_index w (2 * k))
  pub second : Watch s x xs t low link k (slice_index w (2 * k + 1))

abbrev pub Guarded : Store → Index → List ℕ → List (Option Bool) → Trail → ℕ → ℕ → ℕ → Type 0
Guarded s x w xs t low link k = T (satisfied (values_of xs) (clause_at s k)) ⊎ Paired s x w xs t low link k

pub record Watchful (s : Store) (x : Index) (w : List ℕ) (xs : List (Option Bool)) (t : Trail) (low link : ℕ) : Type 0 where
  pub guards : Guards s x
  pub spots : Spotted s x.used xs w
  pub within : link ≤ x.used
  pub ahead : low ≤ t.tail
  pub rows : (k : ℕ) → k < s.count → Guarded s x w xs t low link k
