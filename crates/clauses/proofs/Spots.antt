-- Each place of a clause gets one entry at most, so the entries are no more than the literals.
use Rattle.std.proofs.Common.{◌≡◌, ℕ, zero, suc, ◌+◌, ◌*◌, ◌<◌, ◌≤◌, Bool, true, false, cond, eqb, ◌⊎◌, List, length, get_or, set, pos, Some, None, Option, sym, refl, ap, ◌∙◌, subst, inl, inr, arith}
use Rattle.std.proofs.lemmas.List.{get_or-set_same, get_or-set_other}
use Rattle.std.proofs.lemmas.Bool.{cases_lt, cases_eq, eqb-true, eqb-false, false≢true}
use Rattle.clauses.specs.Propagation.{value, is_false, Below}
use Rattle.clauses.specs.Cells.{values_of}
use Rattle.clauses.specs.Rows.{row_at}
use Rattle.clauses.specs.Stored.{Sound}
use Rattle.clauses.specs.Events.{clause_at}
use Rattle.clauses.specs.Watching.{false_at, Watches, Spotted}
use Rattle.clauses.specs.declared.store.Store.{Store}
use Rattle.clauses.proofs.Theory.{value_below}
use Rattle.clauses.proofs.Entries.{clause_long}

-- numbers below m, no two the same, are at most m
pub pigeon : (m n : ℕ) (f : ℕ → ℕ) → ((i : ℕ) → i < n → f i < m) → ((i j : ℕ) → i < j → j < n → f i ≡ f j → ⊥) → n ≤ m
pigeon zero n f small apart = go (cases_lt 0 n)
  where
    go : (0 < n) ⊎ (n ≤ 0) → n ≤ 0
    go (inl lt) = absurd (omega (arith, small 0 lt))
    go (inr le) = le
pigeon (suc m) zero f small apart = omega arith
pigeon (suc m) (suc n) f small apart = omega (arith, pigeon m n g below different)
  where
    g : ℕ → ℕ
    g i = cond (eqb (f i) m) (f n) (f i)

    below : (i : ℕ) → i < n → g i < m
    below i lt = go (eqb (f i) m) refl
      where
        go : (b : Bool) → eqb (f i) m ≡ b → cond b (f n) (f i) < m
        go true e =
            let h : f i ≡ m = eqb-true (f i) m e in
            let ne : f n ≡ m → ⊥ = (λ q. apart i n lt (omega arith) (h ∙ sym q)) in
            omega (arith, small n (omega arith))
        go false e = let ne : f i ≡ m → ⊥ = eqb-false (f i) m e in omega (arith, small i (omega arith))

    different : (i j : ℕ) → i < j → j < n → g i ≡ g j → ⊥
    different i j ij jn = go (eqb (f i) m) refl (eqb (f j) m) refl
      where
        go : (b : Bool) → eqb (f i) m ≡ b → (d : Bool) → eqb (f j) m ≡ d → cond b (f n) (f i) ≡ cond d (f n) (f j) → ⊥
        go true e true h q = apart i j ij (omega arith) (eqb-true (f i) m e ∙ sym (eqb-true (f j) m h))
        go true e false h q = apart j n jn (omega arith) (sym q)
        go false e true h q = apart i n (omega arith) (omega arith) q
        go false e false h q = apart i j ij (omega arith) q

-- a place lies in one row
same_place : (s : Store) (k j p q : ℕ) → Sound s → k < s.count → j < s.count → p < length (clause_at s k) → q < length (clause_at s j) → (row_at s.rows.now k).start + p ≡ (row_at s.rows.now j).start + q → (k ≡ j) × (p ≡ q)
same_place s k j p q ok kc jc pl ql e = go (cases_lt k j) (cases_lt j k)
  where
    go : (k < j) ⊎ (j ≤ k) → (j < k) ⊎ (k ≤ j) → (k ≡ j) × (p ≡ q)
    go (inl lt) h = absurd (omega (arith, ok.ordered k j lt jc, clause_long s k))
    go (inr le) (inl lt) = absurd (omega (arith, ok.ordered j k lt kc, clause_long s j))
    go (inr le) (inr ge) =
        let i : k ≡ j = omega arith in
        let a : (row_at s.rows.now k).start ≡ (row_at s.rows.now j).start = ap (λ (z : ℕ). (row_at s.rows.now z).start) i in
        (i, omega arith)

pub spots_none : (s : Store) (used : ℕ) (xs : List (Option Bool)) (w : List ℕ) → used ≡ 0 → Spotted s used xs w
spots_none s used xs w e =
    record { spot = λ i. 0; inside = λ i h. absurd (omega arith); apart = λ i j h k. absurd (omega arith); stale = λ k p i kc pl h. absurd (omega arith) }

-- more values leave the places false that are so
pub spots_below : (s : Store) (used : ℕ) (xs ys : List (Option Bool)) (w : List ℕ) → Below (values_of xs) (values_of ys) → Spotted s used xs w → Spotted s used ys w
spots_below s used xs ys w up h =
    record { spot = h.spot; inside = h.inside; apart = h.apart; stale = λ k p e kc pl lt is. go k p (h.stale k p e kc pl lt is) }
  where
    false_is : (o : Option Bool) → is_false o ≡ true → o ≡ Some false
    false_is None i = let z : ◌≡◌ {A = ℕ} 0 1 = cc in absurd (omega arith)
    false_is (Some true) i = let z : ◌≡◌ {A = ℕ} 0 1 = cc in absurd (omega arith)
    false_is (Some false) i = refl

    go : (k p : ℕ) → (false_at xs (clause_at s k) p ≡ true) ⊎ Watches w k p → (false_at ys (clause_at s k) p ≡ true) ⊎ Watches w k p
    go k p (inl i) = inl (rw (value_below (values_of xs) (values_of ys) up (get_or (clause_at s k) p (pos 0)) false (false_is (value (values_of xs) (get_or (clause_at s k) p (pos 0))) i)) refl)
    go k p (inr i) = inr i

-- a place that is not false and not watched has no entry yet
module _ (s : Store) (k place used : ℕ) (xs : List (Option Bool)) (w : List ℕ) (ok : Sound s) (kc : k < s.count) (pl : place < length (clause_at s k)) (open' : false_at xs (clause_at s k) place ≡ false) (h : Spotted s used xs w) where
  abbrev at : ℕ
  at = (row_at s.rows.now k).start + place

  abbrev extended : ℕ → ℕ
  extended e = cond (eqb e used) at (h.spot e)

  extended_new : extended used ≡ at
  extended_new = go (eqb used used) refl
    where
      go : (b : Bool) → eqb used used ≡ b → cond b at (h.spot used) ≡ at
      go true e = refl
      go false e = absurd (eqb-false used used e refl)

  extended_old : (e : ℕ) → e < used → extended e ≡ h.spot e
  extended_old e lt = go (eqb e used) refl
    where
      go : (b : Bool) → eqb e used ≡ b → cond b at (h.spot e) ≡ h.spot e
      go true i = absurd (omega (arith, eqb-true e used i))
      go false i = refl

  unspotted : (Watches w k place → ⊥) → (e : ℕ) → e < used → h.spot e ≡ at → ⊥
  unspotted new e lt i = go (h.stale k place e kc pl lt i)
    where
      go : (false_at xs (clause_at s k) place ≡ true) ⊎ Watches w k place → ⊥
      go (inl f) = false≢true (sym open' ∙ f)
      go (inr f) = new f

  inside_more : (e : ℕ) → e < used + 1 → extended e < s.filled
  inside_more e lt = go (cases_lt e used)
    where
      go : (e < used) ⊎ (used ≤ e) → extended e < s.filled
      go (inl i) = rw (extended_old e i) (h.inside e i)
      go (inr i) = let q : e ≡ used = omega arith in rw (q, extended_new) (omega (arith, ok.spans k kc, clause_long s k))

  apart_more : (Watches w k place → ⊥) → (d e : ℕ) → d < e → e < used + 1 → extended d ≡ extended e → ⊥
  apart_more new d e de lt = go (cases_lt e used)
    where
      go : (e < used) ⊎ (used ≤ e) → extended d ≡ extended e → ⊥
      go (inl i) q = h.apart d e de i (sym (extended_old d (omega arith)) ∙ q ∙ extended_old e i)
      go (inr i) q =
          let z : e ≡ used = omega arith in
          unspotted new d (omega arith) (sym (extended_old d (omega arith)) ∙ q ∙ ap extended z ∙ extended_new)

  -- so there is room for its entry
  pub spots_room : (Watches w k place → ⊥) → used < s.filled
  spots_room new = omega (arith, pigeon s.filled (used + 1) extended inside_more (apart_more new))

  -- the slot watches the place now, and what it watched before is false or still watched
  pub spots_more : (now slot : ℕ) (v : List ℕ) → ((now ≡ used) × Watches w k place) ⊎ ((now ≡ used + 1) × (Watches w k place → ⊥)) → v ≡ set w slot place → slot < length w → (slot ≡ 2 * k) ⊎ (slot ≡ 2 * k + 1) → ((p : ℕ) → p < length (clause_at s k) → get_or w slot 0 ≡ p → (false_at xs (clause_at s k) p ≡ true) ⊎ Watches v k p) → Spotted s now xs v
  spots_more now slot v uses is sl which drops = go uses
    where
      there : Watches v k place
      there = go' which
        where
          go' : (slot ≡ 2 * k) ⊎ (slot ≡ 2 * k + 1) → Watches v k place
          go' (inl i) = inl (rw (is, ← i) (get_or-set_same w slot place 0 sl))
          go' (inr i) = inr (rw (is, ← i) (get_or-set_same w slot place 0 sl))

      other : (i : ℕ) → (i ≡ slot → ⊥) → get_or v i 0 ≡ get_or w i 0
      other i ne = rw is (get_or-set_other w slot i place 0 ne)

      kept : (j p : ℕ) → j < s.count → p < length (clause_at s j) → Watches w j p → (false_at xs (clause_at s j) p ≡ true) ⊎ Watches v j p
      kept j p jc jl (inl e) = at' (cases_eq (2 * j) slot)
        where
          at' : (2 * j ≡ slot) ⊎ (2 * j ≡ slot → ⊥) → (false_at xs (clause_at s j) p ≡ true) ⊎ Watches v j p
          at' (inr ne) = inr (inl (other (2 * j) ne ∙ e))
          at' (inl q) =
              let i : k ≡ j = row which in
              subst (λ (z : ℕ). (false_at xs (clause_at s z) p ≡ true) ⊎ Watches v z p) i (drops p (subst (λ (z : ℕ). p < length (clause_at s z)) (sym i) jl) (ap (λ (z : ℕ). get_or w z 0) (sym q) ∙ e))
            where
              row : (slot ≡ 2 * k) ⊎ (slot ≡ 2 * k + 1) → k ≡ j
              row (inl a) = omega arith
              row (inr a) = absurd (omega arith)
      kept j p jc jl (inr e) = at' (cases_eq (2 * j + 1) slot)
        where
          at' : (2 * j + 1 ≡ slot) ⊎ (2 * j + 1 ≡ slot → ⊥) → (false_at xs (clause_at s j) p ≡ true) ⊎ Watches v j p
          at' (inr ne) = inr (inr (other (2 * j + 1) ne ∙ e))
          at' (inl q) =
              let i : k ≡ j = row which in
              subst (λ (z : ℕ). (false_at xs (clause_at s z) p ≡ true) ⊎ Watches v z p) i (drops p (subst (λ (z : ℕ). p < length (clause_at s z)) (sym i) jl) (ap (λ (z : ℕ). get_or w z 0) (sym q) ∙ e))
            where
              row : (slot ≡ 2 * k) ⊎ (slot ≡ 2 * k + 1) → k ≡ j
              row (inl a) = absurd (omega arith)
              row (inr a) = omega arith

      on : (j p : ℕ) → j < s.count → p < length (clause_at s j) → (false_at xs (clause_at s j) p ≡ true) ⊎ Watches w j p → (false_at xs (clause_at s j) p ≡ true) ⊎ Watches v j p
      on j p jc jl (inl f) = inl f
      on j p jc jl (inr f) = kept j p jc jl f

      go : ((now ≡ used) × Watches w k place) ⊎ ((now ≡ used + 1) × (Watches w k place → ⊥)) → Spotted s now xs v
      go (inl u) =
          record { spot = h.spot; inside = λ e lt. h.inside e (omega (arith, u.0)); apart = λ d e de lt. h.apart d e de (omega (arith, u.0)); stale = λ j p e jc jl lt i. on j p jc jl (h.stale j p e jc jl (omega (arith, u.0)) i) }
      go (inr u) =
          record { spot = extended; inside = λ e lt. inside_more e (omega (arith, u.0)); apart = λ d e de lt. apart_more u.1 d e de (omega (arith, u.0)); stale = λ j p e jc jl lt i. last j p e jc jl (omega (arith, u.0)) i (cases_lt e used) }
        where
          last : (j p e : ℕ) → j < s.count → p < length (clause_at s j) → e < used + 1 → extended e ≡ (row_at s.rows.now j).start + p → (e < used) ⊎ (used ≤ e) → (false_at xs (clause_at s j) p ≡ true) ⊎ Watches v j p
          last j p e jc jl lt i (inl a) = on j p jc jl (h.stale j p e jc jl a (sym (extended_old e a) ∙ i))
          last j p e jc jl lt i (inr a) =
              let z : e ≡ used = omega arith in
              let same = same_place s k j place p ok kc jc pl jl (sym extended_new ∙ ap extended (sym z) ∙ i) in
              inr (subst (λ (q : ℕ). Watches v j q) same.1 (subst (λ (q : ℕ). Watches v q place) same.0 there))
