-- The opening by its layout.
use Rattle.std.proofs.Common.{◌≡◌, ℕ, zero, suc, ◌+◌, ◌-◌, ◌*◌, List, [], ◌∷◌, ◌++◌, length, ℤ, sym, refl, ap, ◌∙◌, arith}
use Rattle.text.specs.Lists.{up_from}
use Rattle.text.specs.Literals.{Clause, lit, neg}
use Rattle.problem.specs.Cudf.{Problem, names, installed_names}
use Rattle.problem.specs.PlanClauses.{plan_clauses}
use Rattle.std.proofs.lemmas.List.{append_assoc}
use Rattle.problem.specs.Meaning.{packages_in, problem_of}
use Rattle.problem.specs.declared.view.Problem.{Problem as View}
use Rattle.verdict.proofs.Worded.{removed-clauses-are, changed-clauses-are}
use Rattle.verdict.specs.Opening.{counter, variables, choice, first_removed, first_changed, first_s, first_t, inputs, all_names, removed_clauses, changed_clauses, at_most_r, fewer_r, fewer_c, opening}
use Rattle.verdict.specs.OpeningCalls.{Places, second_base, counters_of, bounds_of, at_most, fewer}
use Rattle.verdict.specs.declared.layout.Layout.{Layout}

pub choice_is : (q : Problem) (l : Layout) → Places q l → (r c : ℕ) → l.choice ≡ choice q r c
choice_is q l p r c = omega (arith, p.removed, p.installed, p.names, l.then_changed, l.then_choice)

pub variables_are : (q : Problem) (l : Layout) → Places q l → (r c m a b : ℕ) → m ≡ r + 1 → a ≡ l.installed * m → b ≡ l.names * c → l.choice + a + b ≡ variables q r c
variables_are q l p r c m a b k e f =
    let z : r + 1 ≡ suc r = omega arith in
    ap (λ x. x + a + b) (choice_is q l p r c) ∙ ap (λ x. choice q r c + x + b) (e ∙ ap (λ x. l.installed * x) (k ∙ z) ∙ ap (λ x. x * suc r) p.installed)
    ∙ ap (λ x. choice q r c + length (installed_names q) * suc r + x) (f ∙ ap (λ x. x * c) p.names)

pub first_is : (l : Layout) (r : ℕ) → counter (l.choice + 1) (r + 1) 1 (up_from l.removed l.installed) ≡ counter (suc l.choice) (suc r) 1 (up_from l.removed l.installed)
first_is l r =
    let z : r + 1 ≡ suc r = omega arith in
    let y : l.choice + 1 ≡ suc l.choice = omega arith in
    ap (λ x. counter x (r + 1) 1 (up_from l.removed l.installed)) y ∙ ap (λ x. counter (suc l.choice) x 1 (up_from l.removed l.installed)) z

pub second_is : (l : Layout) (r c x : ℕ) → x ≡ l.installed * (r + 1) → counter (l.choice + 1 + x) c 1 (up_from l.changed l.names) ≡ counter (second_base l r) c 1 (up_from l.changed l.names)
second_is l r c x e =
    let z : r + 1 ≡ suc r = omega arith in
    let y : l.choice + 1 ≡ suc l.choice = omega arith in
    ap (λ w. counter w c 1 (up_from l.changed l.names)) (ap (λ w. w + x) y ∙ ap (λ w. suc l.choice + w) (e ∙ ap (λ w. l.installed * w) z))

-- the two bounds as they are written
pub fewer_is : (z z' : ℤ) (a a' : ℕ) (k : ℕ) → z ≡ z' → a ≡ a' → fewer z a k ∷ [] ≡ fewer z' a' k ∷ []
fewer_is z z' a a' k e f = ap (λ x. fewer x a k ∷ []) e ∙ ap (λ x. fewer z' x k ∷ []) f

at_most_is : (q : Problem) (r c n : ℕ) → at_most (first_s q r c) (suc r) n ≡ at_most_r q r c n
at_most_is q r c zero = refl
at_most_is q r c (suc n) = refl

fewer_r_is : (q : Problem) (r c k : ℕ) → fewer (neg (choice q r c)) (first_s q r c + (inputs q r c - 1) * suc r) k ≡ fewer_r q r c k
fewer_r_is q r c zero = refl
fewer_r_is q r c (suc k) = let z : k ≡ suc k - 1 = omega arith in ap (λ j. neg (choice q r c) ∷ neg (first_s q r c + (inputs q r c - 1) * suc r + j) ∷ []) z

fewer_c_is : (q : Problem) (r c k : ℕ) → fewer (lit (choice q r c)) (first_t q r c + (all_names q r c - 1) * c) k ≡ fewer_c q r c k
fewer_c_is q r c zero = refl
fewer_c_is q r c (suc k) = let z : k ≡ suc k - 1 = omega arith in ap (λ j. lit (choice q r c) ∷ neg (first_t q r c + (all_names q r c - 1) * c + j) ∷ []) z

pub bounds_are : (q : Problem) (l : Layout) → Places q l → (r c : ℕ) → bounds_of l r c ≡ at_most_r q r c (inputs q r c) ++ fewer_r q r c r ∷ fewer_c q r c c ∷ []
bounds_are q l p r c =
    let e = choice_is q l p r c in
    let z : r + 1 ≡ suc r = omega arith in
    let y : l.choice + 1 ≡ first_s q r c = omega (arith, e) in
    let i = p.installed in
    let n = p.names in
    let a = at_most_is q r c (inputs q r c) in
    let b = fewer_r_is q r c r in
    let d = fewer_c_is q r c c in
    cc

pub counters_are : (q : Problem) (l : Layout) → Places q l → (r c : ℕ) →
    counters_of l r c ≡ counter (first_s q r c) (suc r) 1 (up_from (first_removed q r c) (inputs q r c)) ++ counter (first_t q r c) c 1 (up_from (first_changed q r c) (all_names q r c))
counters_are q l p r c =
    let e = choice_is q l p r c in
    let f : l.removed ≡ first_removed q r c = p.removed in
    let g : l.changed ≡ first_changed q r c = omega (arith, p.removed, p.installed, l.then_changed) in
    let i = p.installed in
    let n = p.names in
    cc

pub parts_are : (q : Problem) (r c : ℕ) (a b x d : List Clause) → a ≡ removed_clauses q r c (first_removed q r c) (installed_names q) → b ≡ changed_clauses q r c (first_changed q r c) (names q) →
    x ≡ counter (first_s q r c) (suc r) 1 (up_from (first_removed q r c) (inputs q r c)) ++ counter (first_t q r c) c 1 (up_from (first_changed q r c) (all_names q r c)) →
    d ≡ at_most_r q r c (inputs q r c) ++ fewer_r q r c r ∷ fewer_c q r c c ∷ [] → ((plan_clauses q ++ (a ++ b)) ++ x) ++ d ≡ opening q r c
parts_are q r c a b x d e f g h =
    let P = plan_clauses q in
    ap (λ y. ((P ++ (y ++ b)) ++ x) ++ d) e ∙ ap (λ y. ((P ++ (removed_clauses q r c (first_removed q r c) (installed_names q) ++ y)) ++ x) ++ d) f
    ∙ ap (λ y. ((P ++ (removed_clauses q r c (first_removed q r c) (installed_names q) ++ changed_clauses q r c (first_changed q r c) (names q))) ++ y) ++ d) g
    ∙ ap (λ y. ((P ++ (removed_clauses q r c (first_removed q r c) (installed_names q) ++ changed_clauses q r c (first_changed q r c) (names q)))
    ++ (counter (first_s q r c) (suc r) 1 (up_from (first_removed q r c) (inputs q r c)) ++ counter (first_t q r c) c 1 (up_from (first_changed q r c) (all_names q r c)))) ++ y) h
    ∙ simp append_assoc

module _ (v : View) (l : Layout) (p : Places (problem_of v) l) (x y r c : ℕ) (e : x ≡ r) (f : y ≡ c) where
  abbrev q : Problem
  q = problem_of v

  pub opened : ((plan_clauses (problem_of v) ++ (removed_clauses (problem_of v) 0 0 l.removed (installed_names (problem_of v)) ++ changed_clauses (problem_of v) 0 0 l.changed (names (problem_of v)))) ++ counters_of l x y) ++ bounds_of l x y ≡ opening (problem_of v) r c
  opened =
      let g : l.changed ≡ first_changed q r c = omega (arith, p.removed, p.installed, l.then_changed) in
      parts_are q r c _ _ _ _
      (ap (λ w. removed_clauses q 0 0 w (installed_names q)) p.removed ∙ sym (removed-clauses-are v v.text.now (packages_in v) refl refl 0 0 (first_removed q r c)) ∙ removed-clauses-are v v.text.now (packages_in v) refl refl r c (first_removed q r c))
      (ap (λ w. changed_clauses q 0 0 w (names q)) g ∙ sym (changed-clauses-are v v.text.now (packages_in v) refl refl 0 0 (first_changed q r c)) ∙ changed-clauses-are v v.text.now (packages_in v) refl refl r c (first_changed q r c))
      (ap (λ a. counters_of l a y) e ∙ ap (λ b. counters_of l r b) f ∙ counters_are q l p r c)
      (ap (λ a. bounds_of l a y) e ∙ ap (λ b. bounds_of l r b) f ∙ bounds_are q l p r c)
