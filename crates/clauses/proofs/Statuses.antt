-- What the scan's answer means.
use Rattle.std.proofs.Common.{◌≡◌, suc, ◌≤◌, Bool, true, false, T, ◌⊎◌, [], ◌∷◌, ℤ, Some, None, Option, sym, refl, ap, inl, inr, arith}
use Rattle.text.specs.Literals.{Clause}
use Rattle.clauses.specs.Propagation.{Values, value, all_false, satisfied, unset_in}
use Rattle.clauses.specs.Status.{status_at, status_from, Means}
use Rattle.clauses.specs.declared.scan.Status.{Status}
use Rattle.clauses.specs.declared.scan.Status.TheVariants.{Conflict, Forced, Other}

-- what the rest says once a literal k was found unset
abbrev After : Values → ℤ → Clause → Status → Type 0
After f k c Conflict = ⊥
After f k c (Forced l) = (l ≡ k) × T (all_false f c)
After f k c Other = T (satisfied f c) ⊎ (1 ≤ unset_in f c)

-- one more literal in front that is false
after_false_literal : (f : Values) (k l : ℤ) (c : Clause) (s : Status) → value f l ≡ Some false → After f k c s → After f k (l ∷ c) s
after_false_literal f k l c Conflict e h = h
after_false_literal f k l c (Forced m) e h = (h.0, rw e h.1)
after_false_literal f k l c Other e (inl h) = inl (rw e h)
after_false_literal f k l c Other e (inr h) = inr (rw e h)

means_false : (f : Values) (l : ℤ) (c : Clause) (s : Status) → value f l ≡ Some false → Means f c s → Means f (l ∷ c) s
means_false f l c Conflict e h = rw e h
means_false f l c (Forced m) e h = record { before = l ∷ h.before; after = h.after; parts = ap (λ (x : Clause). l ∷ x) h.parts; unset = h.unset; before_false = rw e h.before_false; after_false = h.after_false }
means_false f l c Other e (inl h) = inl (rw e h)
means_false f l c Other e (inr h) = inr (rw e h)

-- the first unset literal
means_unset : (f : Values) (l : ℤ) (c : Clause) (s : Status) → value f l ≡ None → After f l c s → Means f (l ∷ c) s
means_unset f l c Conflict e h = absurd h
means_unset f l c (Forced m) e h = record { before = []; after = c; parts = ap (λ (x : ℤ). x ∷ c) (sym h.0); unset = rw (h.0, e) tt; before_false = tt; after_false = h.1 }
means_unset f l c Other e (inl h) = inl (rw e h)
means_unset f l c Other e (inr h) = inr (let q : unset_in f (l ∷ c) ≡ suc (unset_in f c) = rw e in omega arith)

after : (f : Values) (k : ℤ) (c : Clause) → After f k c (status_from f (Some k) c)
after f k [] = (refl, tt)
after f k (l ∷ ls) = go (value f l) refl (after f k ls)
  where
    go : (o : Option Bool) → value f l ≡ o → After f k ls (status_from f (Some k) ls) → After f k (l ∷ ls) (status_at o (Some k) l (λ j. status_from f j ls))
    go None e h = inr (let q : unset_in f (l ∷ ls) ≡ suc (unset_in f ls) = rw e in omega arith)
    go (Some true) e h = inl (rw e tt)
    go (Some false) e h = after_false_literal f k l ls _ e h

pub means : (f : Values) (c : Clause) → Means f c (status_from f None c)
means f [] = tt
means f (l ∷ ls) = go (value f l) refl (means f ls)
  where
    go : (o : Option Bool) → value f l ≡ o → Means f ls (status_from f None ls) → Means f (l ∷ ls) (status_at o None l (λ j. status_from f j ls))
    go None e h = means_unset f l ls _ e (after f l ls)
    go (Some true) e h = inl (rw e tt)
    go (Some false) e h = means_false f l ls _ e h

-- the answer of the code
pub means_of : (f : Values) (c : Clause) (s : Status) → s ≡ status_from f None c → Means f c s
means_of f c s e = rw e (means f c)
