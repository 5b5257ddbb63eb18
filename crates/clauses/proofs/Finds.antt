-- Clauses of a store by their numbers.
use Rattle.std.proofs.Common.{◌≡◌, ℕ, ◌<◌, ◌≤◌, Bool, true, false, Option, ◌⊎◌, List, length, get_or, take, set, ltb, sym, refl, ap, ◌∙◌, inl, inr, arith}
use Rattle.std.proofs.lemmas.List.{get_or-set_same, get_or-set_other, length-set, length-take, length-take-le, get_or-take}
use Rattle.std.proofs.lemmas.List.Sorted.{IsNonDecreasingBy-from_default}
use Rattle.std.specs.List.{AllWithin}
use Rattle.std.specs.List.Sorted.{IsNonDecreasingBy}
use Rattle.std.proofs.lemmas.Bool.{cases_lt, cases_eq, false≢true, ltb-true, ltb-false}
use Rattle.std.specs.Bool.{then_some}
use Rattle.clauses.specs.ClauseBase.{is_live}
use Rattle.clauses.specs.Rows.{no_row, row_at, Spans, Ordered, Rising, Under}
use Rattle.clauses.specs.Stored.{held}
use Rattle.clauses.specs.Finding.{Found}
use Rattle.clauses.specs.declared.row.Row.{Row}
use Rattle.clauses.specs.declared.store.Store.{Store}
use Rattle.clauses.proofs.Keeping.{dead, not_live}

-- the numbers of the rows in use rise
pub numbers_rise : (rows : List Row) (count : ℕ) → count ≤ length rows → Rising rows count → IsNonDecreasingBy (λ r. r.number) (take count rows)
numbers_rise rows count le up = IsNonDecreasingBy-from_default (λ r. r.number) (take count rows) no_row go
  where
    go : (i j : ℕ) → i ≤ j → j < length (take count rows) → (get_or (take count rows) i no_row).number ≤ (get_or (take count rows) j no_row).number
    go i j ij lt =
        let jc : j < count = omega (arith, length-take count rows) in
        let ic : i < count = omega arith in
        rw (get_or-take count rows i no_row ic, get_or-take count rows j no_row jc) (at (cases_eq i j) jc)
      where
        at : (i ≡ j) ⊎ (i ≡ j → ⊥) → j < count → (row_at rows i).number ≤ (row_at rows j).number
        at (inl q) jc = rw q (omega arith)
        at (inr q) jc = omega (arith, up i j (omega arith) jc)

-- what the point between lower numbers and the others says of the rows
module _ (rows : List Row) (count n r : ℕ) (le : count ≤ length rows) where
  pub below_point : r ≤ count → AllWithin (λ q. ltb q.number n ≡ true) (take count rows) 0 r → (j : ℕ) → j < r → (row_at rows j).number < n
  below_point rc h j jr =
      let jc : j < count = omega arith in
      ltb-true _ _ (let e : get_or (take count rows) j no_row ≡ row_at rows j = get_or-take count rows j no_row jc in rw e at (h j no_row (omega arith) jr))

  pub above_point : AllWithin (λ q. ltb q.number n ≡ false) (take count rows) r (length (take count rows)) → (j : ℕ) → r ≤ j → j < count → n ≤ (row_at rows j).number
  above_point h j rj jc =
      ltb-false _ _ (let e : get_or (take count rows) j no_row ≡ row_at rows j = get_or-take count rows j no_row jc in rw e at (h j no_row rj (omega (arith, length-take-le count rows le))))

-- the rows below r have lower numbers, the others none lower; and the row r has another number, or is dead
pub none_found : (s : Store) (n r : ℕ) → ((j : ℕ) → j < r → (row_at s.rows.now j).number < n) → ((j : ℕ) → r ≤ j → j < s.count → n ≤ (row_at s.rows.now j).number) → (r < s.count → (row_at s.rows.now r).number ≡ n → (row_at s.rows.now r).live ≡ false) → is_live (held s) n ≡ false
none_found s n r below above here = not_live s.literals.now s.rows.now s.count n s.counted (λ j lt live e. go j lt live e (cases_lt j r) (cases_eq j r))
  where
    go : (j : ℕ) → j < s.count → (row_at s.rows.now j).live ≡ true → (row_at s.rows.now j).number ≡ n → (j < r) ⊎ (r ≤ j) → (j ≡ r) ⊎ (j ≡ r → ⊥) → ⊥
    go j lt live e (inl h) q = omega (arith, below j h)
    go j lt live e (inr h) (inl q) =
        let d : (row_at s.rows.now j).live ≡ false = rw q (here (omega arith) (rw q at e)) in
        false≢true (sym d ∙ live)
    go j lt live e (inr h) (inr q) = omega (arith, s.rising r j (omega arith) lt, above r (omega arith) (omega arith))

-- the row at the point between lower numbers and the others, if it is the one sought
pub found_here : (s : Store) (n r : ℕ) (b : Bool) (o : Option ℕ) → ((j : ℕ) → j < r → (row_at s.rows.now j).number < n) → ((j : ℕ) → r ≤ j → j < s.count → n ≤ (row_at s.rows.now j).number) → r < s.count → (b ≡ true → ((row_at s.rows.now r).number ≡ n) × ((row_at s.rows.now r).live ≡ true)) → (b ≡ false → (row_at s.rows.now r).number ≡ n → (row_at s.rows.now r).live ≡ false) → o ≡ then_some b r → Found s n o
found_here s n r true o below above lt found other e = rw e (lt, (found refl).0, (found refl).1)
found_here s n r false o below above lt found other e = rw e (none_found s n r below above (λ _. other refl))

-- a row that is dead now is else as it was
module _ (rows : List Row) (k : ℕ) (lt : k < length rows) where
  same : {X : Type 0} (f : Row → X) → f (dead (row_at rows k)) ≡ f (row_at rows k) → (j : ℕ) → f (row_at (set rows k (dead (row_at rows k))) j) ≡ f (row_at rows j)
  same f e j = go (cases_eq j k)
    where
      go : (j ≡ k) ⊎ (j ≡ k → ⊥) → f (row_at (set rows k (dead (row_at rows k))) j) ≡ f (row_at rows j)
      go (inl q) = rw (q, get_or-set_same rows k (dead (row_at rows k)) no_row lt) e
      go (inr q) = ap f (get_or-set_other rows k j (dead (row_at rows k)) no_row q)

  pub long-dead : length (set rows k (dead (row_at rows k))) ≡ length rows
  long-dead = length-set _ _ _

  pub spans-dead : (count filled : ℕ) → Spans rows count filled → Spans (set rows k (dead (row_at rows k))) count filled
  spans-dead count filled h j jc = omega (arith, same (λ q. q.start) refl j, same (λ q. q.len) refl j, h j jc)

  pub ordered-dead : (count : ℕ) → Ordered rows count → Ordered (set rows k (dead (row_at rows k))) count
  ordered-dead count h i j ij jc =
      omega (arith, same (λ q. q.start) refl i, same (λ q. q.len) refl i, same (λ q. q.start) refl j, h i j ij jc)

  pub rising-dead : (count : ℕ) → Rising rows count → Rising (set rows k (dead (row_at rows k))) count
  rising-dead count h i j ij jc = omega (arith, same (λ q. q.number) refl i, same (λ q. q.number) refl j, h i j ij jc)

  pub under-dead : (count n : ℕ) → Under rows count n → Under (set rows k (dead (row_at rows k))) count n
  under-dead count n h j jc = omega (arith, same (λ q. q.number) refl j, h j jc)
