-- What the check of a set comes to, and how many plan clauses a problem has at most.
use Rattle.std.proofs.Common.{◌≡◌, ℕ, suc, ◌+◌, ◌<◌, cond, List, [], ◌∷◌, length, Some, None, Option, Ok, Err, Result, MatchResult, subst, sym, refl, ap, ◌∙◌, inl, inr, arith}
use Rattle.text.specs.Literals.{Clause, makes_true}
use Rattle.std.specs.Result.{IsErrAnd}
use Rattle.problem.specs.Cudf.{Problem}
use Rattle.problem.specs.Checking.{passes, fails, Checks}
use Rattle.problem.specs.Feeding.{Fed}
use Rattle.problem.specs.PlanClauses.{plan_clauses, first_false_from}
use Rattle.problem.specs.Sets.{set_of}
use Rattle.problem.specs.declared.plan_check.NotPlan.{NotPlan}
use Rattle.problem.specs.declared.plan_check.PlanTest.{PlanTest}
use Rattle.problem.specs.declared.sink.Stopped.{Stopped}
use Rattle.problem.specs.declared.standing.Standing.{Standing}
use Rattle.problem.proofs.Agreement.{plans_agree}
use Rattle.problem.proofs.Feeds.{Taken}

none_failed : (xs : List Standing) (cs : List Clause) (n : ℕ) (a b : PlanTest) → a.set.now ≡ xs → Fed passes fails cs (Ok tt) a b → first_false_from n (set_of xs) cs ≡ None
none_failed xs [] n a b e h = refl
none_failed xs (c ∷ cs) n a b e (m, (g, h)) =
    ap (λ y. cond y (first_false_from (suc n) (set_of xs) cs) (Some n)) (ap (λ ys. makes_true (set_of ys) c) (sym e) ∙ g.0) ∙ none_failed xs cs (suc n) m b (g.1 ∙ e) h

one_failed : (xs : List Standing) (cs : List Clause) (w : Stopped) (a b : PlanTest) → a.set.now ≡ xs → a.passed + length cs < 4294967296 → Fed passes fails cs (Err w) a b →
    (first_false_from (suc a.passed) (set_of xs) cs ≡ Some (suc b.passed)) × (b.passed < a.passed + length cs)
one_failed xs [] w a b e l h = absurd h
one_failed xs (c ∷ cs) w a b e l (inl h) = (
  ap (λ y. cond y (first_false_from (suc (suc a.passed)) (set_of xs) cs) (Some (suc a.passed))) (ap (λ ys. makes_true (set_of ys) c) (sym e) ∙ h.0) ∙ ap (λ n. Some (suc n)) (sym h.1),
  omega (arith, h.1),
)
one_failed xs (c ∷ cs) w a b e l (inr (m, (g, h))) =
    let p : m.passed ≡ a.passed + 1 = g.2 (omega arith) in
    let q : suc (suc a.passed) ≡ suc m.passed = omega (arith, p) in
    let ih = one_failed xs cs w m b (g.1 ∙ e) (omega (arith, p)) h in (
      ap (λ y. cond y (first_false_from (suc (suc a.passed)) (set_of xs) cs) (Some (suc a.passed))) (ap (λ ys. makes_true (set_of ys) c) (sym e) ∙ g.0)
          ∙ ap (λ n. first_false_from n (set_of xs) cs) q ∙ ih.0,
      omega (arith, p, ih.1),
    )

some_not_none : (o : Option ℕ) (n : ℕ) → o ≡ None → o ≡ Some n → ⊥
some_not_none o n e f = let z : ◌≡◌ {A = ℕ} 0 1 = cc in omega arith

-- how a check ends, by how its set took the plan clauses
module _ (q : Problem) (xs : List Standing) (few : length (plan_clauses q) < 4294967295) (a b : PlanTest) (s : a.set.now ≡ xs) (z : a.passed ≡ 0) where
  one : (w : Stopped) → Fed passes fails (plan_clauses q) (Err w) a b → (first_false_from 1 (set_of xs) (plan_clauses q) ≡ Some (suc b.passed)) × (b.passed < 0 + length (plan_clauses q))
  one w f =
      let h = one_failed xs (plan_clauses q) w a b s (omega (arith, z, few)) f in
      subst (λ n. (first_false_from (suc n) (set_of xs) (plan_clauses q) ≡ Some (suc b.passed)) × (b.passed < n + length (plan_clauses q))) z h

  pub passed_within : (t : Taken) (w : Stopped) → t ≡ Err w → Fed passes fails (plan_clauses q) t a b → b.passed < 4294967295
  passed_within t w e f = omega (arith, few, (one w (subst (λ r. Fed passes fails (plan_clauses q) r a b) e f)).1)

  pub checked : (t : Taken) (r : Result (Unit {0}) NotPlan) (P : Stopped → NotPlan → Type 0) → Fed passes fails (plan_clauses q) t a b → MatchResult t (λ u. r ≡ Ok u) (λ w. IsErrAnd r (P w)) →
      ((w : Stopped) (n : NotPlan) → P w n → n.clause ≡ b.passed + 1) → Checks q (set_of xs) r
  checked (Ok u) r P f e k = subst (Checks q (set_of xs)) (sym e) (let n = none_failed xs (plan_clauses q) 1 a b s f in ((plans_agree.none q (set_of xs)).0 n, n))
  checked (Err w) (Ok u) P f e k = absurd e
  checked (Err w) (Err n) P f e k =
      let m : suc b.passed ≡ n.clause = omega (arith, k w n e) in
      let o = (one w f).0 ∙ ap (λ x. Some x) m in
      ((λ p. some_not_none _ _ ((plans_agree.none q (set_of xs)).1 p) o), o)
