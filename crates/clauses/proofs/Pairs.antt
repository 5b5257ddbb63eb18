-- Two places of a clause that are not false.
use Rattle.std.proofs.Common.{◌≡◌, ℕ, zero, suc, ◌<◌, ◌≤◌, Bool, true, false, cond, T, ◌⊎◌, [], ◌∷◌, length, get_or, pos, Some, None, Option, sym, refl, inl, inr, le_of_suc-le-suc, arith}
use Rattle.std.proofs.lemmas.Bool.{cases_lt}
use Rattle.text.specs.Literals.{Clause}
use Rattle.text.proofs.Members.{or_left, or_right}
use Rattle.clauses.specs.Propagation.{Values, value, is_unset, is_false, is_true, satisfied, unset_in, Settled}

-- what is false is not unset
false_set : (o : Option Bool) → is_false o ≡ true → is_unset o ≡ false
false_set None h = let z : ◌≡◌ {A = ℕ} 0 1 = cc in absurd (omega arith)
false_set (Some b) h = refl

none_unset : (f : Values) (c : Clause) → ((j : ℕ) → j < length c → is_false (value f (get_or c j (pos 0))) ≡ true) → unset_in f c ≡ 0
none_unset f [] h = refl
none_unset f (m ∷ ms) h = rw (false_set (value f m) (h 0 (omega arith))) (none_unset f ms (λ j lt. h (suc j) (omega arith)))

-- where all but one are false, at most one is unset
pub one_unset : (f : Values) (c : Clause) (p : ℕ) → ((j : ℕ) → j < length c → (j ≡ p → ⊥) → is_false (value f (get_or c j (pos 0))) ≡ true) → unset_in f c ≤ 1
one_unset f [] p h = omega arith
one_unset f (m ∷ ms) zero h = go (is_unset (value f m)) (none_unset f ms (λ j lt. h (suc j) (omega arith) (λ e. omega arith)))
  where
    go : (b : Bool) → unset_in f ms ≡ 0 → cond b (suc (unset_in f ms)) (unset_in f ms) ≤ 1
    go true e = omega arith
    go false e = omega arith
one_unset f (m ∷ ms) (suc p) h = rw (false_set (value f m) (h 0 (omega arith) (λ e. omega arith))) (one_unset f ms p (λ j lt ne. h (suc j) (omega arith) (λ e. ne (omega arith))))

satisfied_there : (f : Values) (c : Clause) (p : ℕ) → p < length c → value f (get_or c p (pos 0)) ≡ Some true → T (satisfied f c)
satisfied_there f [] p lt e = absurd (omega arith)
satisfied_there f (m ∷ ms) zero lt e = or_left (is_true (value f m)) (satisfied f ms) (rw e tt)
satisfied_there f (m ∷ ms) (suc p) lt e = or_right (is_true (value f m)) (satisfied f ms) (satisfied_there f ms p (le_of_suc-le-suc lt) e)

some_unset : (f : Values) (c : Clause) (p : ℕ) → p < length c → value f (get_or c p (pos 0)) ≡ None → 1 ≤ unset_in f c
some_unset f [] p lt e = absurd (omega arith)
some_unset f (m ∷ ms) zero lt e = rw e (omega arith)
some_unset f (m ∷ ms) (suc p) lt e = go (is_unset (value f m)) (some_unset f ms p (le_of_suc-le-suc lt) e)
  where
    go : (b : Bool) → 1 ≤ unset_in f ms → 1 ≤ cond b (suc (unset_in f ms)) (unset_in f ms)
    go true h = omega arith
    go false h = h

two_unset : (f : Values) (c : Clause) (p q : ℕ) → p < q → q < length c → value f (get_or c p (pos 0)) ≡ None → value f (get_or c q (pos 0)) ≡ None → 2 ≤ unset_in f c
two_unset f [] p q pq lt e h = absurd (omega arith)
two_unset f (m ∷ ms) p zero pq lt e h = absurd (omega arith)
two_unset f (m ∷ ms) zero (suc q) pq lt e h = rw e (let i : 1 ≤ unset_in f ms = some_unset f ms q (le_of_suc-le-suc lt) h in omega arith)
two_unset f (m ∷ ms) (suc p) (suc q) pq lt e h = go (is_unset (value f m)) (two_unset f ms p q (le_of_suc-le-suc pq) (le_of_suc-le-suc lt) e h)
  where
    go : (b : Bool) → 2 ≤ unset_in f ms → 2 ≤ cond b (suc (unset_in f ms)) (unset_in f ms)
    go true i = omega arith
    go false i = i

open_cases : (o : Option Bool) → is_false o ≡ false → (o ≡ Some true) ⊎ (o ≡ None)
open_cases None h = inr refl
open_cases (Some true) h = inl refl
open_cases (Some false) h = let z : ◌≡◌ {A = ℕ} 0 1 = cc in absurd (omega arith)

-- two places that are not false settle a clause
pub pair_settled : (f : Values) (c : Clause) (p q : ℕ) → (p ≡ q → ⊥) → p < length c → q < length c → is_false (value f (get_or c p (pos 0))) ≡ false → is_false (value f (get_or c q (pos 0))) ≡ false → Settled f c
pair_settled f c p q ne pl ql po qo = go (open_cases _ po) (open_cases _ qo)
  where
    both : value f (get_or c p (pos 0)) ≡ None → value f (get_or c q (pos 0)) ≡ None → (p < q) ⊎ (q ≤ p) → Settled f c
    both e h (inl lt) = inr (two_unset f c p q lt ql e h)
    both e h (inr le) = inr (two_unset f c q p (let d : q ≡ p → ⊥ = λ i. ne (sym i) in omega arith) pl h e)

    go : (value f (get_or c p (pos 0)) ≡ Some true) ⊎ (value f (get_or c p (pos 0)) ≡ None) → (value f (get_or c q (pos 0)) ≡ Some true) ⊎ (value f (get_or c q (pos 0)) ≡ None) → Settled f c
    go (inl e) h = inl (satisfied_there f c p pl e)
    go (inr e) (inl h) = inl (satisfied_there f c q ql h)
    go (inr e) (inr h) = both e h (cases_lt p q)
