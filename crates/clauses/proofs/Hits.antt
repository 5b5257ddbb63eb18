-- What one more value does to the clauses that are settled.
use Rattle.std.proofs.Common.{◌≡◌, ℕ, suc, ◌+◌, ◌*◌, Bool, true, false, cond, not, ◌||◌, T, eqb, ◌⊎◌, [], ◌∷◌, ℤ, pos, negsuc, Some, None, Option, refl, ap, inl, inr, arith}
use Rattle.std.proofs.lemmas.Bool.{eqb-true}
use Rattle.text.specs.Literals.{Clause, variable_of, positive}
use Rattle.clauses.specs.Propagation.{Values, value, flip, is_unset, is_true, satisfied, unset_in, set_true}
use Rattle.clauses.specs.Propagation.{Settled, Below}
use Rattle.text.proofs.Members.{or_left, or_right, or_cases}
use Rattle.clauses.specs.Codes.{code_of, code_against, Against, Hit}
use Rattle.clauses.proofs.Theory.{value_below, below_set}

-- the opposite stands in the opposite's list
pub against_code : (l m : ℤ) → Against l m → code_of m ≡ code_against l
against_code l m a = ap₂' a.0 (go (positive l) (positive m) a.1)
  where
    go : (x y : Bool) → y ≡ not x → ◌≡◌ {A = ℕ} (cond y 0 1) (cond x 1 0)
    go true y e = rw e
    go false y e = rw e

    ap₂' : {a b c d : ℕ} → a ≡ b → c ≡ d → 2 * a + c ≡ 2 * b + d
    ap₂' p q = omega arith

-- a value that is not the same after: the literal is true now, or is the opposite
pub touch : (f : Values) (l m : ℤ) → (value (set_true f l) m ≡ value f m) ⊎ ((value (set_true f l) m ≡ Some true) ⊎ Against l m)
touch f l (pos v) = go (eqb v (variable_of l)) refl (positive l) refl
  where
    go : (t : Bool) → eqb v (variable_of l) ≡ t → (p : Bool) → positive l ≡ p → (cond t (Some (positive l)) (f v) ≡ f v) ⊎ ((cond t (Some (positive l)) (f v) ≡ Some true) ⊎ Against l (pos v))
    go false e p h = inl refl
    go true e true h = inr (inl (ap {B = Option Bool} Some h))
    go true e false h = inr (inr (eqb-true v (variable_of l) e, rw h refl))
touch f l (negsuc k) = go (eqb (suc k) (variable_of l)) refl (positive l) refl
  where
    go : (t : Bool) → eqb (suc k) (variable_of l) ≡ t → (p : Bool) → positive l ≡ p → (flip (cond t (Some (positive l)) (f (suc k))) ≡ flip (f (suc k))) ⊎ ((flip (cond t (Some (positive l)) (f (suc k))) ≡ Some true) ⊎ Against l (negsuc k))
    go false e p h = inl refl
    go true e false h = inr (inl (rw h refl))
    go true e true h = inr (inr (eqb-true (suc k) (variable_of l) e, rw h refl))

pub hit_more : (l m : ℤ) (c : Clause) → Hit l c → Hit l (m ∷ c)
hit_more l m c h = (suc h.0, omega (arith, h.1), h.2)

true_is : (o : Option Bool) → T (is_true o) → o ≡ Some true
true_is None h = absurd h
true_is (Some true) h = refl
true_is (Some false) h = absurd h

pub satisfied_below : (g f : Values) → Below g f → (c : Clause) → T (satisfied g c) → T (satisfied f c)
satisfied_below g f up [] h = h
satisfied_below g f up (l ∷ ls) h = go (or_cases (is_true (value g l)) (satisfied g ls) h) (satisfied_below g f up ls)
  where
    go : T (is_true (value g l)) ⊎ T (satisfied g ls) → (T (satisfied g ls) → T (satisfied f ls)) → T (is_true (value f l) || satisfied f ls)
    go (inl t) more = or_left _ (satisfied f ls) (rw (value_below g f up l true (true_is (value g l) t)) tt)
    go (inr t) more = or_right (is_true (value f l)) _ (more t)

unset_kept : (f : Values) (l : ℤ) (c : Clause) → T (satisfied (set_true f l) c) ⊎ (Hit l c ⊎ (unset_in (set_true f l) c ≡ unset_in f c))
unset_kept f l [] = inr (inr refl)
unset_kept f l (m ∷ ms) = go (touch f l m) (unset_kept f l ms)
  where
    go : (value (set_true f l) m ≡ value f m) ⊎ ((value (set_true f l) m ≡ Some true) ⊎ Against l m) → T (satisfied (set_true f l) ms) ⊎ (Hit l ms ⊎ (unset_in (set_true f l) ms ≡ unset_in f ms)) → T (satisfied (set_true f l) (m ∷ ms)) ⊎ (Hit l (m ∷ ms) ⊎ (unset_in (set_true f l) (m ∷ ms) ≡ unset_in f (m ∷ ms)))
    go (inr (inl e)) h = inl (or_left _ (satisfied (set_true f l) ms) (rw e tt))
    go (inr (inr a)) h = inr (inl (0, omega arith, a))
    go (inl e) (inl h) = inl (or_right (is_true (value (set_true f l) m)) _ h)
    go (inl e) (inr (inl h)) = inr (inl (hit_more l m ms h))
    go (inl e) (inr (inr h)) = inr (inr (rw (e, h) refl))

-- a settled clause stays so, unless a literal of it becomes false
pub settled_set : (f : Values) (l : ℤ) (c : Clause) → T (is_unset (value f l)) → Settled f c → Settled (set_true f l) c ⊎ Hit l c
settled_set f l c u (inl s) = inl (inl (satisfied_below f (set_true f l) (below_set f l u) c s))
settled_set f l c u (inr n) = go (unset_kept f l c)
  where
    go : T (satisfied (set_true f l) c) ⊎ (Hit l c ⊎ (unset_in (set_true f l) c ≡ unset_in f c)) → Settled (set_true f l) c ⊎ Hit l c
    go (inl s) = inl (inl s)
    go (inr (inl h)) = inr h
    go (inr (inr e)) = inl (inr (omega arith))
