-- Counts of the entries on a list.
use Rattle.std.proofs.Common.{◌≡◌, ℕ, suc, ◌+◌, ◌<◌, ◌≤◌, Bool, true, false, cond, ◌≢◌, ◌⊎◌, List, [], ◌∷◌, ◌++◌, length, get_or, set, sym, refl, ◌∙◌, subst, inl, inr, add-one, arith}
use Rattle.std.proofs.lemmas.List.{get_or-set_same, get_or-set_other}
use Rattle.std.proofs.lemmas.Bool.{cases_eq}
use Rattle.text.specs.Lists.{how_many}
use Rattle.clauses.specs.Links.{On, here, there, Falling}
use Rattle.clauses.specs.Counting.{Tally, none, one, skip}

-- a write at n, past the list, leaves it
pub tally_set : (next owners : List ℕ) (k n v w link m : ℕ) → Falling next n → link ≤ n → Tally next owners k link m → Tally (set next n v) (set owners n w) k link m
tally_set next owners k n v w link m f le none = none
tally_set next owners k n v w link m f le (one {i = i} {n = j} own t) =
    let a : get_or next i 0 ≤ i = f i (omega arith) in
    let ne : i ≢ n = omega arith in
    one (get_or-set_other owners n i w 0 ne ∙ own) (subst (λ (z : ℕ). Tally (set next n v) (set owners n w) k z j) (sym (get_or-set_other next n i v 0 ne)) (tally_set next owners k n v w (get_or next i 0) j f (omega arith) t))
tally_set next owners k n v w link m f le (skip {i = i} {n = j} t) =
    let a : get_or next i 0 ≤ i = f i (omega arith) in
    let ne : i ≢ n = omega arith in
    skip (subst (λ (z : ℕ). Tally (set next n v) (set owners n w) k z j) (sym (get_or-set_other next n i v 0 ne)) (tally_set next owners k n v w (get_or next i 0) j f (omega arith) t))

module _ (next owners heads : List ℕ) (n code w : ℕ) (f : Falling next n) (nl : n < length next) (ol : n < length owners) (cl : code < length heads) where
  first : (k m : ℕ) → get_or heads code 0 ≤ n → Tally next owners k (get_or heads code 0) m → Tally (set next n (get_or heads code 0)) (set owners n w) k (get_or (set next n (get_or heads code 0)) n 0) m
  first k m le t = subst (λ (z : ℕ). Tally (set next n (get_or heads code 0)) (set owners n w) k z m) (sym (get_or-set_same next n (get_or heads code 0) 0 nl)) (tally_set next owners k n (get_or heads code 0) w (get_or heads code 0) m f le t)

  -- the lists after a new entry n in front of the list of code
  pub tally_kept : (k c m : ℕ) → get_or heads c 0 ≤ n → Tally next owners k (get_or heads c 0) m → Tally (set next n (get_or heads code 0)) (set owners n w) k (get_or (set heads code (n + 1)) c 0) m
  tally_kept k c m le t = go (cases_eq c code)
    where
      go : (c ≡ code) ⊎ (c ≡ code → ⊥) → Tally (set next n (get_or heads code 0)) (set owners n w) k (get_or (set heads code (n + 1)) c 0) m
      go (inl q) =
          let a : get_or (set heads code (n + 1)) c 0 ≡ suc n = rw q (get_or-set_same heads code (n + 1) 0 cl ∙ add-one n) in
          let t' : Tally next owners k (get_or heads code 0) m = subst (λ (z : ℕ). Tally next owners k (get_or heads z 0) m) q t in
          let le' : get_or heads code 0 ≤ n = subst (λ (z : ℕ). get_or heads z 0 ≤ n) q le in
          subst (λ (z : ℕ). Tally (set next n (get_or heads code 0)) (set owners n w) k z m) (sym a) (skip (first k m le' t'))
      go (inr q) = rw (get_or-set_other heads code c (n + 1) 0 q) (tally_set next owners k n (get_or heads code 0) w (get_or heads c 0) m f le t)

  pub tally_new : (m : ℕ) → get_or heads code 0 ≤ n → Tally next owners w (get_or heads code 0) m → Tally (set next n (get_or heads code 0)) (set owners n w) w (get_or (set heads code (n + 1)) code 0) (suc m)
  tally_new m le t =
      subst (λ (z : ℕ). Tally (set next n (get_or heads code 0)) (set owners n w) w z (suc m)) (sym (get_or-set_same heads code (n + 1) 0 cl ∙ add-one n))
      (one (get_or-set_same owners n w 0 ol) (first w m le t))

-- with at least one entry, one is on the list
pub tally_on : (next owners : List ℕ) (k link m : ℕ) → 0 < m → Tally next owners k link m → (e : ℕ) × On next link e × (get_or owners e 0 ≡ k)
tally_on next owners k link m lt none = absurd (omega arith)
tally_on next owners k link m lt (one {i = i} own t) = (i, here, own)
tally_on next owners k link m lt (skip {n = j} t) = let r = tally_on next owners k _ j lt t in (r.0, there r.1, r.2)

pub tally_none : (next owners : List ℕ) (k link m : ℕ) → link ≡ 0 → Tally next owners k link m → m ≡ 0
tally_none next owners k link m z none = refl
tally_none next owners k link m z (one own t) = absurd (omega arith)
tally_none next owners k link m z (skip t) = absurd (omega arith)

-- one entry on: at most one fewer, and that only for its owner
pub tally_step : (next owners : List ℕ) (k link i m : ℕ) → link ≡ suc i → Tally next owners k link m → Tally next owners k (get_or next i 0) m ⊎ ((get_or owners i 0 ≡ k) × ((j : ℕ) × (m ≡ suc j) × Tally next owners k (get_or next i 0) j))
tally_step next owners k link i m z none = inl none
tally_step next owners k link i m z (one {i = h} {n = j} own t) =
    let q : h ≡ i = omega arith in
    inr (subst (λ (x : ℕ). get_or owners x 0 ≡ k) q own, (j, refl, subst (λ (x : ℕ). Tally next owners k (get_or next x 0) j) q t))
tally_step next owners k link i m z (skip {i = h} t) = let q : h ≡ i = omega arith in inl (subst (λ (x : ℕ). Tally next owners k (get_or next x 0) m) q t)

pub how_many_push : {X : Type 0} (t : X → Bool) (xs : List X) (x : X) → how_many t (xs ++ x ∷ []) ≡ how_many t xs + cond (t x) 1 0
how_many_push t [] x = go (t x)
  where
    go : (b : Bool) → ◌≡◌ {A = ℕ} (cond b 1 0) (0 + cond b 1 0)
    go true = omega arith
    go false = omega arith
how_many_push t (y ∷ ys) x = go (t y) (how_many_push t ys x)
  where
    go : (b : Bool) → how_many t (ys ++ x ∷ []) ≡ how_many t ys + cond (t x) 1 0 → cond b (suc (how_many t (ys ++ x ∷ []))) (how_many t (ys ++ x ∷ [])) ≡ cond b (suc (how_many t ys)) (how_many t ys) + cond (t x) 1 0
    go true h = omega arith
    go false h = h
