-- The live clauses of rows.
use Rattle.std.proofs.Common.{◌≡◌, ℕ, zero, suc, ◌+◌, ◌<◌, ◌≤◌, Bool, true, false, cond, ◌||◌, eqb, List, [], ◌∷◌, ◌++◌, length, take, set, ℤ, sym, refl, ap, ◌∙◌, le_of_suc-le-suc, arith}
use Rattle.std.proofs.lemmas.Bool.{eq-eqb, ne_eqb}
use Rattle.std.specs.List.{AllByRecursion}
use Rattle.text.specs.Lists.{each, keep}
use Rattle.text.specs.Literals.{Clause}
use Rattle.clauses.specs.Propagation.{Held, HeldAt}
use Rattle.clauses.specs.ClauseBase.{is_live, without, literal_count}
use Rattle.clauses.specs.Rows.{row_at, span, held_of, held_in, Rising}
use Rattle.clauses.specs.declared.row.Row.{Row}

-- the clauses of a row and those of the rows after it
abbrev pub onto : List ℤ → Row → List Held → Bool → List Held
onto lits r hs true = held_of lits r ∷ hs
onto lits r hs false = hs

pub held_first : (lits : List ℤ) (r : Row) (rs : List Row) → held_in lits (r ∷ rs) ≡ onto lits r (held_in lits rs) r.live
held_first lits r rs = go r.live
  where
    go : (b : Bool) → each (held_of lits) (cond b (r ∷ keep (λ q. q.live) rs) (keep (λ q. q.live) rs)) ≡ onto lits r (held_in lits rs) b
    go true = refl
    go false = refl

pub held_append : (lits : List ℤ) (rs qs : List Row) → held_in lits (rs ++ qs) ≡ held_in lits rs ++ held_in lits qs
held_append lits [] qs = refl
held_append lits (r ∷ rs) qs = rw (held_first lits r rs) (held_first lits r (rs ++ qs) ∙ go r.live (held_append lits rs qs))
  where
    go : (b : Bool) → held_in lits (rs ++ qs) ≡ held_in lits rs ++ held_in lits qs → onto lits r (held_in lits (rs ++ qs)) b ≡ onto lits r (held_in lits rs) b ++ held_in lits qs
    go true h = ap (λ (hs : List Held). held_of lits r ∷ hs) h
    go false h = h

pub held_same : (old new : List ℤ) (rs : List Row) → AllByRecursion (λ r. span new r ≡ span old r) rs → held_in new rs ≡ held_in old rs
held_same old new [] a = refl
held_same old new (r ∷ rs) a = held_first new r rs ∙ go r.live (held_same old new rs a.1) ∙ sym (held_first old r rs)
  where
    go : (b : Bool) → held_in new rs ≡ held_in old rs → onto new r (held_in new rs) b ≡ onto old r (held_in old rs) b
    go true h = rw (h, a.0)
    go false h = h

-- a live row's clause is held under its number
pub held_at : (lits : List ℤ) (rows : List Row) (count k : ℕ) → k < count → count ≤ length rows → Rising rows count → (row_at rows k).live ≡ true → HeldAt (held_in lits (take count rows)) (row_at rows k).number (span lits (row_at rows k))
held_at lits [] count k lt le up live = absurd (omega arith)
held_at lits (r ∷ rs) zero k lt le up live = absurd (omega arith)
held_at lits (r ∷ rs) (suc n) zero lt le up live = rw (held_first lits r (take n rs), live, eq-eqb r.number r.number refl) refl
held_at lits (r ∷ rs) (suc n) (suc k) lt le up live =
    rw (held_first lits r (take n rs)) (go r.live (held_at lits rs n k (le_of_suc-le-suc lt) (le_of_suc-le-suc le) (λ i j a b. up (suc i) (suc j) (omega arith) (omega arith)) live))
  where
    go : (b : Bool) → HeldAt (held_in lits (take n rs)) (row_at rs k).number (span lits (row_at rs k)) → HeldAt (onto lits r (held_in lits (take n rs)) b) (row_at rs k).number (span lits (row_at rs k))
    go true h =
        let ne : eqb r.number (row_at rs k).number ≡ false = ne_eqb _ _ (λ e. omega (arith, up 0 (suc k) (omega arith) lt)) in
        rw ne h
    go false h = h

pub live_at : (live : List Held) (n : ℕ) (c : Clause) → HeldAt live n c → is_live live n ≡ true
live_at [] n c h = absurd h
live_at (x ∷ xs) n c h = go (eqb x.number n) h (live_at xs n c)
  where
    go : (b : Bool) → cond b (x.literals ≡ c) (HeldAt xs n c) → (HeldAt xs n c → is_live xs n ≡ true) → (b || is_live xs n) ≡ true
    go true i more = refl
    go false i more = more i

pub not_live : (lits : List ℤ) (rows : List Row) (count n : ℕ) → count ≤ length rows → ((j : ℕ) → j < count → (row_at rows j).live ≡ true → (row_at rows j).number ≡ n → ⊥) → is_live (held_in lits (take count rows)) n ≡ false
not_live lits rows zero n le h = refl
not_live lits [] (suc count) n le h = absurd (omega arith)
not_live lits (r ∷ rs) (suc count) n le h = rw (held_first lits r (take count rs)) (go r.live refl (not_live lits rs count n (le_of_suc-le-suc le) (λ j lt. h (suc j) (omega arith))))
  where
    go : (b : Bool) → r.live ≡ b → is_live (held_in lits (take count rs)) n ≡ false → is_live (onto lits r (held_in lits (take count rs)) b) n ≡ false
    go true e i = rw (ne_eqb r.number n (h 0 (omega arith) e)) i
    go false e i = i

-- what no row has, deletes nothing
without_none : (lits : List ℤ) (rows : List Row) (count n : ℕ) → count ≤ length rows → ((j : ℕ) → j < count → (row_at rows j).number ≡ n → ⊥) → without (held_in lits (take count rows)) n ≡ held_in lits (take count rows)
without_none lits rows zero n le h = refl
without_none lits [] (suc count) n le h = absurd (omega arith)
without_none lits (r ∷ rs) (suc count) n le h = rw (held_first lits r (take count rs)) (go r.live (without_none lits rs count n (le_of_suc-le-suc le) (λ j lt. h (suc j) (omega arith))))
  where
    go : (b : Bool) → without (held_in lits (take count rs)) n ≡ held_in lits (take count rs) → without (onto lits r (held_in lits (take count rs)) b) n ≡ onto lits r (held_in lits (take count rs)) b
    go true i = rw (ne_eqb r.number n (h 0 (omega arith)), i)
    go false i = i

abbrev pub dead : Row → Row
dead r = record { number = r.number; start = r.start; len = r.len; live = false }

pub without_row : (lits : List ℤ) (rows : List Row) (count k : ℕ) → k < count → count ≤ length rows → Rising rows count → (row_at rows k).live ≡ true → held_in lits (take count (set rows k (dead (row_at rows k)))) ≡ without (held_in lits (take count rows)) (row_at rows k).number
without_row lits [] count k lt le up live = absurd (omega arith)
without_row lits (r ∷ rs) zero k lt le up live = absurd (omega arith)
without_row lits (r ∷ rs) (suc n) zero lt le up live =
    rw (held_first lits r (take n rs), live, eq-eqb r.number r.number refl)
    (sym (without_none lits rs n r.number (le_of_suc-le-suc le) (λ j jl e. omega (arith, up 0 (suc j) (omega arith) (omega arith)))))
without_row lits (r ∷ rs) (suc n) (suc k) lt le up live =
    rw (held_first lits r (take n rs), held_first lits r (take n (set rs k (dead (row_at rs k)))))
    (go r.live (without_row lits rs n k (le_of_suc-le-suc lt) (le_of_suc-le-suc le) (λ i j a b. up (suc i) (suc j) (omega arith) (omega arith)) live))
  where
    go : (b : Bool) → held_in lits (take n (set rs k (dead (row_at rs k)))) ≡ without (held_in lits (take n rs)) (row_at rs k).number → onto lits r (held_in lits (take n (set rs k (dead (row_at rs k))))) b ≡ without (onto lits r (held_in lits (take n rs)) b) (row_at rs k).number
    go true h =
        let ne : eqb r.number (row_at rs k).number ≡ false = ne_eqb _ _ (λ e. omega (arith, up 0 (suc k) (omega arith) lt)) in
        rw (ne, h)
    go false h = h

pub count_append : (xs ys : List Held) → literal_count (xs ++ ys) ≡ literal_count xs + literal_count ys
count_append [] ys = omega arith
count_append (x ∷ xs) ys = omega (arith, count_append xs ys)
