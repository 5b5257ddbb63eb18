-- A store with one more clause.
use Rattle.std.proofs.Common.{◌≡◌, ℕ, ◌+◌, ◌-◌, ◌<◌, ◌≤◌, true, ◌≢◌, ◌⊎◌, List, [], ◌∷◌, ◌++◌, length, get_or, take, drop, set, ℤ, pos, sym, ap, ◌∙◌, inl, inr, arith, below_more}
use Rattle.std.proofs.lemmas.List.{get_or-set_same, get_or-set_other, length-take-le, take_more_set, take-take, take-append-le, drop-take, drop_at, get_or-take, get_or_append_left, get_or-append_right}
use Rattle.std.proofs.ByRecursion.{All-from_get_or}
use Rattle.std.proofs.lemmas.Bool.{cases_lt}
use Rattle.std.specs.List.{AllByRecursion}
use Rattle.text.specs.Literals.{Clause, variable_of}
use Rattle.clauses.specs.Rows.{no_row, row_at, span, held_in, Spans, Named, Dense}
use Rattle.clauses.specs.Stored.{held}
use Rattle.clauses.specs.Growth.{Speaks, Copied, Sealed}
use Rattle.clauses.specs.declared.row.Row.{Row}
use Rattle.clauses.specs.declared.store.Store.{Store}
use Rattle.clauses.proofs.Keeping.{held_append, held_same}

-- one more row, at n
module _ (rows : List Row) (n : ℕ) (r : Row) (lt : n < length rows) where
  pub row_old : (k : ℕ) → k < n → row_at (set rows n r) k ≡ row_at rows k
  row_old k h = let ne : k ≢ n = omega arith in get_or-set_other rows n k r no_row ne

  pub row_new : row_at (set rows n r) n ≡ r
  row_new = get_or-set_same rows n r no_row lt

  pub dense_push : Dense rows n → r.live ≡ true → Dense (set rows n r) (n + 1)
  dense_push h here =
      below_more (λ k. (row_at (set rows n r) k).live ≡ true) n (λ k kn. rw (row_old k kn) (h k kn)) (rw row_new here)

-- the literals now: those from before, and the clause
module _ (old new : List ℤ) (c : Clause) (f : ℕ) (fl : f ≤ length old) (copied : take (f + length c) new ≡ take f old ++ c) where
  len_old : length (take f old) ≡ f
  len_old = length-take-le f old fl

  named_copied : (variables : ℕ) → Named old f variables → Speaks c variables → Named new (f + length c) variables
  named_copied variables h s k kn = rw (← get_or-take (f + length c) new k (pos 0) kn, copied) (go (cases_lt k f))
    where
      go : (k < f) ⊎ (f ≤ k) → variable_of (get_or (take f old ++ c) k (pos 0)) - 1 < variables
      go (inl q) = let q' : k < length (take f old) = omega (arith, len_old) in rw (get_or_append_left (take f old) c (pos 0) k q', get_or-take f old k (pos 0) q) (h k q)
      go (inr q) = rw (get_or-append_right (take f old) c f k (pos 0) len_old q) (s (k - f) (omega arith))

  span_kept : (r : Row) → r.start + r.len ≤ f → span new r ≡ span old r
  span_kept r le =
      let n : ℕ = r.start + r.len in
      let a : take n new ≡ take n old = sym (take-take n (f + length c) new (omega arith)) ∙ ap (take n) copied ∙ take-append-le n (take f old) c (omega (arith, len_old)) ∙ take-take n f old le in
      sym (drop-take r.start r.len new) ∙ ap (drop r.start) a ∙ drop-take r.start r.len old

  span_new : take (length c) (drop f new) ≡ c
  span_new = sym (drop-take f (length c) new) ∙ ap (drop f) copied ∙ drop_at (take f old) c f len_old

  held_copied : (rows : List Row) (n number : ℕ) → n < length rows → Spans rows n f → held_in new (take (n + 1) (set rows n (record { number = number; start = f; len = length c; live = true }))) ≡ held_in old (take n rows) ++ record { number = number; literals = c } ∷ []
  held_copied rows n number lt s =
      let r : Row = record { number = number; start = f; len = length c; live = true } in
      let a : AllByRecursion (λ r. span new r ≡ span old r) (take n rows) = All-from_get_or (λ r. span new r ≡ span old r) (take n rows) no_row (λ i h. let q : i < n = omega (arith, length-take-le n rows (omega arith)) in rw (get_or-take n rows i no_row q) (span_kept (row_at rows i) (s i q))) in
      ap (held_in new) (take_more_set rows n r lt) ∙ held_append new (take n rows) (r ∷ []) ∙ rw (held_same old new (take n rows) a, span_new)

-- s with the clause c under a number is u
pub record Appended (s u : Store) (number : ℕ) (c : Clause) : Type 0 where
  pub rows : u.rows.now ≡ set s.rows.now s.count (record { number = number; start = s.filled; len = length c; live = true })
  pub count : u.count ≡ s.count + 1
  pub filled : u.filled ≡ s.filled + length c
  pub variables : u.variables ≡ s.variables
  pub long : length u.literals.now ≡ length s.literals.now
  pub copied : take (s.filled + length c) u.literals.now ≡ take s.filled s.literals.now ++ c

pub appended_of : (s t v u : Store) (number len : ℕ) (c : Clause) → len ≡ length c → Copied s t c → v.rows.now ≡ t.rows.now → v.count ≡ t.count → v.filled ≡ t.filled → v.literals.now ≡ t.literals.now → v.variables ≡ t.variables → Sealed v u number len → Appended s u number c
appended_of s t v u number len c e cp r k f l w se =
    record {
      rows = se.rows ∙ rw (r, cp.rows, k, cp.count, f, cp.filled, e);
      count = se.count ∙ rw (k, cp.count);
      filled = se.filled ∙ rw (f, cp.filled, e);
      variables = se.variables ∙ w ∙ cp.variables;
      long = ap length (se.literals ∙ l) ∙ cp.long;
      copied = rw (se.literals, l) cp.copied;
    }

-- what is held then
pub appended_held : (s u : Store) (number : ℕ) (c : Clause) → s.count < length s.rows.now → Appended s u number c → held u ≡ held s ++ record { number = number; literals = c } ∷ []
appended_held s u number c lt a =
    rw (a.rows, a.count) (held_copied s.literals.now u.literals.now c s.filled s.within a.copied s.rows.now s.count number lt s.spans)

-- the literals of a clause that was copied speak of variables
pub copied_named : (s t : Store) (c : Clause) (n : ℕ) → n ≡ length c → Copied s t c → Speaks c s.variables → Named t.literals.now (t.filled + n) t.variables
copied_named s t c n e cp speaks =
    rw (e, cp.filled, cp.variables) (named_copied s.literals.now t.literals.now c s.filled s.within cp.copied s.variables s.named speaks)
