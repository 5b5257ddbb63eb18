-- The numbers of rows that pass a test, and the clause "not i, or one of them".
use Rattle.std.proofs.Common.{◌≡◌, ℕ, suc, ◌+◌, ◌<◌, ◌≤◌, Bool, true, false, cond, eqb, ltb, List, [], ◌∷◌, ◌++◌, length, get_or, take, drop, sym, refl, ap, ◌∙◌, add-zero, arith}
use lib.Dec.{eqb_refl}
use Rattle.std.proofs.lemmas.List.{drop_more, append_assoc, take-append-drop, length-take-le}
use Rattle.std.proofs.lemmas.Bool.{cond-true, cond-false, lt-ltb, le-ltb, ne_eqb, or_from}
use Rattle.text.proofs.Members.{each_weaker, true_from, some_right, or_left}
use Rattle.text.specs.Lists.{each, some, Each}
use Rattle.text.specs.Literals.{Clause, lit, neg}
use Rattle.problem.specs.PlanClauses.{put, needs}
use Rattle.problem.specs.Stanzas.{passing}
use Rattle.problem.specs.declared.rows.PackageRow.{PackageRow}

put_between : (i : ℕ) (js ks : List ℕ) → Each (λ j. j < i) js → Each (λ k. i < k) ks → put i (js ++ ks) ≡ each lit js ++ neg i ∷ each lit ks
put_between i [] [] h g = refl
put_between i [] (k ∷ ks) h g = cond-true (ltb i k) _ _ (lt-ltb i k g.0)
put_between i (j ∷ js) ks h g = cond-false (ltb i j) _ _ (le-ltb i j (omega (arith, h.0))) ∙ ap (λ c. lit j ∷ c) (put_between i js ks h.1 g)

none_between : (i : ℕ) (js ks : List ℕ) → Each (λ j. j < i) js → Each (λ k. i < k) ks → some (eqb i) (js ++ ks) ≡ false
none_between i [] [] h g = refl
none_between i [] (k ∷ ks) h g = or_from (eqb i k) _ (ne_eqb i k (λ e. omega (arith, g.0))) (none_between i [] ks tt g.1)
none_between i (j ∷ js) ks h g = or_from (eqb i j) _ (ne_eqb i j (λ e. omega (arith, h.0))) (none_between i js ks h.1 g)

module _ (t : PackageRow → Bool) where
  passing_append : (xs ys : List PackageRow) (b : ℕ) → passing t b (xs ++ ys) ≡ passing t b xs ++ passing t (b + length xs) ys
  passing_append [] ys b = ap (λ n. passing t n ys) (sym (add-zero b))
  passing_append (x ∷ xs) ys b =
      let e : passing t (suc b) (xs ++ ys) ≡ passing t (suc b) xs ++ passing t (b + suc (length xs)) ys =
      passing_append xs ys (suc b) ∙ ap (λ n. passing t (suc b) xs ++ passing t n ys) (omega arith) in
      elim (t x) as (λ y. cond y (suc b ∷ passing t (suc b) (xs ++ ys)) (passing t (suc b) (xs ++ ys)) ≡ cond y (suc b ∷ passing t (suc b) xs) (passing t (suc b) xs) ++ passing t (b + suc (length xs)) ys)
      [ true ↦ ap (λ y. suc b ∷ y) e | false ↦ e ]

  passing_range : (ps : List PackageRow) (b : ℕ) → Each (λ j. (b < j) × (j ≤ b + length ps)) (passing t b ps)
  passing_range [] b = tt
  passing_range (p ∷ ps) b =
      let h = each_weaker (λ j. (suc b < j) × (j ≤ suc b + length ps)) (λ j. (b < j) × (j ≤ b + suc (length ps))) (λ j k. (omega arith, omega arith)) (passing t (suc b) ps) (passing_range ps (suc b)) in
      elim (t p) as (λ y. Each (λ j. (b < j) × (j ≤ b + suc (length ps))) (cond y (suc b ∷ passing t (suc b) ps) (passing t (suc b) ps))) [ true ↦ ((omega arith, omega arith), h) | false ↦ h ]

  -- the numbers before a place, its own, and those after it
  module _ (ps : List PackageRow) (i : ℕ) (d : PackageRow) (l : i < length ps) where
    front : List ℕ
    front = passing t 0 (take i ps)

    back : List ℕ
    back = passing t (i + 1) (drop (i + 1) ps)

    split : (r : Bool) → t (get_or ps i d) ≡ r → passing t 0 ps ≡ front ++ cond r (suc i ∷ back) back
    unfolding front back
    split r e =
        let m : 0 + length (take i ps) ≡ i = omega (arith, length-take-le i ps (omega arith)) in
        let n : suc i ≡ i + 1 = omega arith in
        ap (passing t 0) (sym (take-append-drop i ps)) ∙ passing_append (take i ps) (drop i ps) 0 ∙ ap (λ k. passing t 0 (take i ps) ++ passing t k (drop i ps)) m
        ∙ ap (λ xs. passing t 0 (take i ps) ++ passing t i xs) (drop_more ps i d l)
        ∙ ap (λ y. passing t 0 (take i ps) ++ cond y (suc i ∷ passing t (suc i) (drop (i + 1) ps)) (passing t (suc i) (drop (i + 1) ps))) e
        ∙ ap (λ k. passing t 0 (take i ps) ++ cond r (suc i ∷ passing t k (drop (i + 1) ps)) (passing t k (drop (i + 1) ps))) n

    below : Each (λ j. j < suc i) front
    unfolding front
    below = each_weaker (λ j. (0 < j) × (j ≤ 0 + length (take i ps))) (λ j. j < suc i) (λ j k. omega (arith, length-take-le i ps (omega arith))) (passing t 0 (take i ps)) (passing_range (take i ps) 0)

    above : Each (λ j. suc i < j) back
    unfolding back
    above = each_weaker (λ j. (i + 1 < j) × (j ≤ (i + 1) + length (drop (i + 1) ps))) (λ j. suc i < j) (λ j k. omega arith) (passing t (i + 1) (drop (i + 1) ps)) (passing_range (drop (i + 1) ps) (i + 1))

    pub needs-none : t (get_or ps i d) ≡ true → needs (suc i) (passing t 0 ps) ≡ []
    needs-none e =
        ap (λ js. needs (suc i) js) (split true e)
        ∙ ap (λ y. cond y [] (put (suc i) (front ++ suc i ∷ back) ∷ [])) (true_from _ (some_right (eqb (suc i)) front (suc i ∷ back) (or_left (eqb (suc i) (suc i)) _ (eqb_refl (suc i)))))

    needs-one : t (get_or ps i d) ≡ false → needs (suc i) (passing t 0 ps) ≡ (each lit front ++ neg (suc i) ∷ each lit back) ∷ []
    needs-one e =
        ap (λ js. needs (suc i) js) (split false e) ∙ ap (λ y. cond y [] (put (suc i) (front ++ back) ∷ [])) (none_between (suc i) front back below above)
        ∙ ap (λ c. c ∷ []) (put_between (suc i) front back below above)

    -- the clause of a conjunct, written in three parts
    pub needs-written : (c₀ c₁ c₂ c₃ : Clause) (xs ys : List PackageRow) → t (get_or ps i d) ≡ false → xs ≡ take i ps → ys ≡ drop (i + 1) ps → c₀ ≡ [] → c₁ ≡ c₀ ++ each lit (passing t 0 xs) →
        c₂ ≡ c₁ ++ neg (suc i) ∷ [] → c₃ ≡ c₂ ++ each lit (passing t (i + 1) ys) → needs (suc i) (passing t 0 ps) ≡ c₃ ∷ []
    unfolding front back
    needs-written c₀ c₁ c₂ c₃ xs ys e ex ey e₀ e₁ e₂ e₃ =
        let f₁ : c₁ ≡ each lit front = e₁ ∙ ap (λ y. y ++ each lit (passing t 0 xs)) e₀ ∙ ap (λ z. each lit (passing t 0 z)) ex in
        let f₃ : c₃ ≡ each lit front ++ neg (suc i) ∷ each lit back =
        e₃ ∙ ap (λ z. c₂ ++ each lit (passing t (i + 1) z)) ey ∙ ap (λ y. y ++ each lit back) (e₂ ∙ ap (λ y. y ++ neg (suc i) ∷ []) f₁) ∙ append_assoc (each lit front) (neg (suc i) ∷ []) (each lit back) in
        needs-one e ∙ ap (λ c. c ∷ []) (sym f₃)
