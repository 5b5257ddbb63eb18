-- How much of a store its live clauses need.
use Rattle.std.proofs.Common.{◌≡◌, ℕ, zero, suc, ◌+◌, ◌<◌, ◌≤◌, Bool, true, false, ◌&&◌, leb, List, [], ◌∷◌, ◌++◌, length, take, ℤ, sym, refl, ap, ◌∙◌, add-one, arith}
use Rattle.std.proofs.lemmas.List.{take_more, length-take}
use Rattle.std.proofs.lemmas.Bool.{leb-true, le-leb}
use Rattle.clauses.specs.ClauseBase.{literal_count}
use Rattle.clauses.specs.Rows.{no_row, row_at, span, held_in, Spans, Ordered}
use Rattle.clauses.specs.Stored.{held}
use Rattle.clauses.specs.Closing.{room_for, Spacious}
use Rattle.clauses.specs.declared.row.Row.{Row}
use Rattle.clauses.specs.declared.store.Store.{Store}
use Rattle.clauses.proofs.Keeping.{onto, held_first, held_append, count_append}

held_few : (lits : List ℤ) (rows : List Row) (count : ℕ) → length (held_in lits (take count rows)) ≤ count
held_few lits rows zero = omega arith
held_few lits [] (suc n) = omega arith
held_few lits (r ∷ rs) (suc n) = rw (held_first lits r (take n rs)) (go r.live (held_few lits rs n))
  where
    go : (b : Bool) → length (held_in lits (take n rs)) ≤ n → length (onto lits r (held_in lits (take n rs)) b) ≤ suc n
    go true h = omega arith
    go false h = omega arith

one_few : (lits : List ℤ) (r : Row) → literal_count (held_in lits (r ∷ [])) ≤ r.len
one_few lits r = rw (held_first lits r []) (go r.live)
  where
    go : (b : Bool) → literal_count (onto lits r [] b) ≤ r.len
    go true = let e : length (span lits r) ≤ r.len = simp length-take (omega arith) in omega arith
    go false = omega arith

literals_few : (lits : List ℤ) (rows : List Row) (count b : ℕ) → count ≤ length rows → Spans rows count b → Ordered rows count → literal_count (held_in lits (take count rows)) ≤ b
literals_few lits rows zero b le s o = omega arith
literals_few lits rows (suc n) b le s o =
    let r = row_at rows n in
    let t : take (suc n) rows ≡ take n rows ++ r ∷ [] = ap (λ (k : ℕ). take k rows) (sym (add-one n)) ∙ take_more rows n no_row (omega arith) in
    let e : literal_count (held_in lits (take (suc n) rows)) ≡ literal_count (held_in lits (take n rows)) + literal_count (held_in lits (r ∷ [])) = ap (λ (rs : List Row). literal_count (held_in lits rs)) t ∙ ap literal_count (held_append lits (take n rows) (r ∷ [])) ∙ count_append (held_in lits (take n rows)) (held_in lits (r ∷ [])) in
    let i : literal_count (held_in lits (take n rows)) ≤ r.start = literals_few lits rows n r.start (omega arith) (λ k kn. o k n kn (omega arith)) (λ j k jk kn. o j k jk (omega arith)) in
    omega (arith, one_few lits r, s n (omega arith))

and_true : (a b : Bool) → true ≡ (a && b) → (a ≡ true) × (b ≡ true)
and_true true b h = (refl, sym h)
and_true false b h = let z : ◌≡◌ {A = ℕ} 0 1 = cc in absurd (omega arith)

-- what has room behind all that is in use has room
pub spacious : (s : Store) (len : ℕ) → true ≡ room_for s.count s.filled len s → Spacious s s len true
spacious s len h =
    let t = and_true (leb (suc s.count) (length s.rows.now)) (leb (s.filled + len) (length s.literals.now)) h in
    let a : s.count < length s.rows.now = leb-true (suc s.count) (length s.rows.now) t.0 in
    let b : s.filled + len ≤ length s.literals.now = leb-true (s.filled + len) (length s.literals.now) t.1 in
    let few : length (held s) ≤ s.count = held_few s.literals.now s.rows.now s.count in
    let less : literal_count (held s) ≤ s.filled = literals_few s.literals.now s.rows.now s.count s.filled s.counted s.spans s.ordered in
    record {
      kept = record { rows = refl; literals = refl; variables = refl };
      next = refl;
      clauses = refl;
      answer = rw (le-leb (suc (length (held s))) (length s.rows.now) (omega arith), le-leb (literal_count (held s) + len) (length s.literals.now) (omega arith));
      behind = λ _. (a, b);
    }
