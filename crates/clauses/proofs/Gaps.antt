-- A store whose gaps are being closed.
use Rattle.std.proofs.Common.{◌≡◌, ℕ, ◌+◌, ◌-◌, ◌<◌, ◌≤◌, true, false, ◌⊎◌, List, [], ◌∷◌, ◌++◌, length, get_or, take, drop, set, ℤ, sym, refl, ap, ◌∙◌, inl, inr, append-nil, arith}
use Rattle.std.proofs.lemmas.List.{length-set, length-take-le, length-drop, length_push, take_more, take-take, take-append-drop, drop-take, drop-set-lt, drop-drop, get_or-drop}
use Rattle.std.proofs.lemmas.Bool.{cases_lt}
use Rattle.text.specs.Literals.{Clause}
use Rattle.clauses.specs.ClauseBase.{literal_count}
use Rattle.clauses.specs.Rows.{no_row, row_at, span, held_in, Under, Named}
use Rattle.clauses.specs.Stored.{held}
use Rattle.clauses.specs.Growth.{Copied, Sealed}
use Rattle.clauses.specs.Closing.{Closed, Closing}
use Rattle.clauses.specs.declared.row.Row.{Row}
use Rattle.clauses.specs.declared.store.Store.{Store}
use Rattle.clauses.proofs.Keeping.{held_append, held_first, count_append}
use Rattle.clauses.proofs.Memory.{sound_of, row_speaks}
use Rattle.clauses.proofs.Growing.{Appended, appended_of, appended_held, copied_named, dense_push, row_old, row_new}

-- lists that agree from n on
pub drop_on : {X : Type 0} (xs ys : List X) (n m : ℕ) → n ≤ m → drop n xs ≡ drop n ys → drop m xs ≡ drop m ys
drop_on xs ys n m le h =
    let e : m ≡ n + (m - n) = omega arith in
    ap (λ (z : ℕ). drop z xs) e ∙ sym (drop-drop (m - n) n xs) ∙ ap (drop (m - n)) h ∙ drop-drop (m - n) n ys ∙ ap (λ (z : ℕ). drop z ys) (sym e)

pub get_d_on : {X : Type 0} (xs ys : List X) (n k : ℕ) (d : X) → n ≤ k → drop n xs ≡ drop n ys → get_or xs k d ≡ get_or ys k d
get_d_on xs ys n k d le h =
    let e : n + (k - n) ≡ k = omega arith in
    ap (λ (z : ℕ). get_or xs z d) (sym e) ∙ sym (get_or-drop n xs (k - n) d) ∙ ap (λ (zs : List _). get_or zs (k - n) d) h ∙ get_or-drop n ys (k - n) d ∙ ap (λ (z : ℕ). get_or ys z d) e

pub stretch_long : (lits : List ℤ) (start len : ℕ) → start + len ≤ length lits → length (take len (drop start lits)) ≡ len
stretch_long lits start len h = length-take-le len (drop start lits) (omega (arith, length-drop start lits))

take_parts : {X : Type 0} (xs : List X) (f n : ℕ) → take (f + n) xs ≡ take f xs ++ take n (drop f xs)
take_parts xs f n =
    sym (take-append-drop f (take (f + n) xs)) ∙ rw (take-take f (f + n) xs (omega arith), drop-take f n xs)

-- literals that already stand where they should
pub copied_here : (s : Store) (start len : ℕ) → s.filled ≡ start → start + len ≤ length s.literals.now → Copied s s (take len (drop start s.literals.now))
copied_here s start len e h =
    let lits = s.literals.now in
    let n : length (take len (drop start lits)) ≡ len = stretch_long lits start len h in
    record { rows = refl; count = refl; filled = refl; variables = refl; next = refl; long = refl; copied = rw (e, n) (take_parts lits start len); rest = refl }

-- the row at k is next
module _ (s t : Store) (k : ℕ) (lt : k < s.count) (cl : Closing s.rows.now s.literals.now s.count s.next s.variables t k) where
  pub row_kept : row_at t.rows.now k ≡ row_at s.rows.now k
  row_kept = get_d_on t.rows.now s.rows.now t.count k no_row cl.few cl.behind

  pub row_above : (t.filled ≤ (row_at t.rows.now k).start) × ((row_at t.rows.now k).start + (row_at t.rows.now k).len ≤ s.filled)
  row_above = rw row_kept (cl.above k (omega arith) lt, s.spans k lt)

  same_span : span t.literals.now (row_at t.rows.now k) ≡ span s.literals.now (row_at s.rows.now k)
  same_span = rw row_kept (ap (take (row_at s.rows.now k).len) (drop_on t.literals.now s.literals.now t.filled (row_at s.rows.now k).start (cl.above k (omega arith) lt) cl.beyond))

  -- what its clause needs to be sealed behind those brought down
  pub next_under : Under t.rows.now t.count (row_at t.rows.now k).number
  next_under = rw row_kept (λ i h. cl.lower i k h (omega arith) lt)

  pub next_low : (row_at t.rows.now k).number < t.next
  next_low = rw row_kept (omega (arith, s.under k lt, cl.next'))

  pub next_named : (v : Store) → Copied t v (take (row_at t.rows.now k).len (drop (row_at t.rows.now k).start t.literals.now)) → Named v.literals.now (v.filled + (row_at t.rows.now k).len) v.variables
  next_named v cp =
      let r = row_at t.rows.now k in
      let n : length (span t.literals.now r) ≡ r.len = stretch_long t.literals.now r.start r.len (omega (arith, row_above.1, s.within, cl.wide)) in
      copied_named t v (span t.literals.now r) r.len (sym n) cp (rw (same_span, cl.variables') (row_speaks s k (sound_of s) lt))

  held_next : held_in s.literals.now (take (k + 1) s.rows.now) ≡ held_in s.literals.now (take k s.rows.now) ++ held_in s.literals.now (row_at s.rows.now k ∷ [])
  held_next = ap (held_in s.literals.now) (take_more s.rows.now k no_row (omega (arith, s.counted))) ∙ held_append s.literals.now (take k s.rows.now) (row_at s.rows.now k ∷ [])

  pub closing_dead : (row_at t.rows.now k).live ≡ false → Closing s.rows.now s.literals.now s.count s.next s.variables t (k + 1)
  closing_dead dead =
      let d : (row_at s.rows.now k).live ≡ false = ap (λ (r : Row). r.live) (sym row_kept) ∙ dead in
      let none : held_in s.literals.now (row_at s.rows.now k ∷ []) ≡ [] = held_first s.literals.now (row_at s.rows.now k) [] ∙ rw d in
      record {
        behind = cl.behind;
        beyond = cl.beyond;
        long = cl.long;
        wide = cl.wide;
        variables' = cl.variables';
        next' = cl.next';
        few = omega (arith, cl.few);
        above = λ j h q. cl.above j (omega arith) q;
        lower = λ i j h q w. cl.lower i j h (omega arith) w;
        clauses = cl.clauses ∙ sym (held_next ∙ rw none (append-nil _));
        dense = cl.dense;
        count = cl.count;
        filled = cl.filled;
      }

  pub closing_live : (v u : Store) → (row_at t.rows.now k).live ≡ true → Copied t v (take (row_at t.rows.now k).len (drop (row_at t.rows.now k).start t.literals.now)) → Sealed v u (row_at t.rows.now k).number (row_at t.rows.now k).len → Closing s.rows.now s.literals.now s.count s.next s.variables u (k + 1)
  closing_live v u live cp se =
      let r = row_at t.rows.now k in
      let c : Clause = span t.literals.now r in
      let n : length c ≡ r.len = stretch_long t.literals.now r.start r.len (omega (arith, row_above.1, s.within, cl.wide)) in
      let a : Appended t u r.number c = appended_of t v v u r.number r.len c (sym n) cp refl refl refl refl refl se in
      let space : t.count < length t.rows.now = omega (arith, cl.few, s.counted, cl.long) in
      let fits : t.filled + length c ≤ length t.literals.now = omega (arith, row_above.0, row_above.1, s.within, cl.wide) in
      let l : (row_at s.rows.now k).live ≡ true = ap (λ (q : Row). q.live) (sym row_kept) ∙ live in
      let num : r.number ≡ (row_at s.rows.now k).number = ap (λ (q : Row). q.number) row_kept in
      let nx : u.next ≡ s.next = se.next ∙ cp.next ∙ cl.next' in
      let h : held u ≡ held t ++ record { number = r.number; literals = c } ∷ [] = appended_held t u r.number c space a in
      let lh : length (held u) ≡ length (held t) + 1 = ap length h ∙ length_push (held t) (record { number = r.number; literals = c }) in
      let fh : literal_count (held u) ≡ literal_count (held t) + (length c + 0) = ap literal_count h ∙ count_append (held t) (record { number = r.number; literals = c } ∷ []) in
      let one : held_in s.literals.now (row_at s.rows.now k ∷ []) ≡ record { number = r.number; literals = c } ∷ [] = held_first s.literals.now (row_at s.rows.now k) [] ∙ rw (l, num, same_span) in
      record {
        behind = rw (a.rows, a.count) (drop-set-lt (t.count + 1) t.rows.now t.count _ (omega arith) ∙ drop_on t.rows.now s.rows.now t.count (t.count + 1) (omega arith) cl.behind);
        beyond = rw (a.filled, se.literals) (cp.rest ∙ drop_on t.literals.now s.literals.now t.filled (t.filled + length c) (omega arith) cl.beyond);
        long = ap length a.rows ∙ length-set _ _ _ ∙ cl.long;
        wide = a.long ∙ cl.wide;
        variables' = a.variables ∙ cl.variables';
        next' = nx;
        few = omega (arith, a.count, cl.few);
        above = λ j q w. omega (arith, a.filled, cl.above k (omega arith) lt, s.ordered k j (omega arith) w, ap (λ (z : Row). z.len) row_kept);
        lower = λ i j q w z. rw a.rows (number-below u c i j a.count space q w z (cases_lt i t.count) num);
        clauses = h ∙ rw (cl.clauses, held_next, one);
        dense = rw (a.rows, a.count) (dense_push t.rows.now t.count _ space cl.dense refl);
        count = omega (arith, a.count, cl.count, lh);
        filled = omega (arith, a.filled, cl.filled, fh);
      }
    where
      number-below : (u : Store) (c : Clause) (i j : ℕ) → u.count ≡ t.count + 1 → t.count < length t.rows.now → i < u.count → k + 1 ≤ j → j < s.count → (i < t.count) ⊎ (t.count ≤ i) → (row_at t.rows.now k).number ≡ (row_at s.rows.now k).number → (row_at (set t.rows.now t.count (record { number = (row_at t.rows.now k).number; start = t.filled; len = length c; live = true })) i).number < (row_at s.rows.now j).number
      number-below u c i j e space q w z (inl h) num = rw (row_old t.rows.now t.count _ space i h) (cl.lower i j h (omega arith) z)
      number-below u c i j e space q w z (inr h) num = let is : i ≡ t.count = omega arith in rw (is, row_new t.rows.now t.count _ space) (omega (arith, num, s.rising k j (omega arith) z))

pub closing_all : (s t : Store) (k : ℕ) → k ≡ s.count → Closing s.rows.now s.literals.now s.count s.next s.variables t k → Closed s t
closing_all s t k e cl =
    record {
      kept = record { rows = cl.long; literals = cl.wide; variables = cl.variables' };
      next = cl.next';
      clauses = rw e at cl.clauses;
      dense = cl.dense;
      count = cl.count;
      filled = cl.filled;
    }
