-- The plan clauses say just what a plan over sets is.
use Rattle.std.proofs.Common.{◌≡◌, ℕ, suc, ◌+◌, ◌-◌, ◌<◌, ◌≤◌, Bool, true, false, cond, not, ◌&&◌, ◌||◌, T, eqb, ltb, ◌↔◌, List, [], ◌∷◌, ◌++◌, length, get_or, take, Some, None, Option, sym, refl, ap, ◌∙◌, subst, arith, eqb→eq}
use mathlib.Core.Logic.Iff
use lib.Dec.{eqb_refl}
use Rattle.text.specs.Lists.{each, each_all, keep, some, every, Each}
use Rattle.problem.specs.Cudf.{Problem, Constraint, Numbered, stanzas, satisfies, Chosen, chosen, satisfies_one, PlanOverSets}
use Rattle.text.specs.Literals.{Clause, lit, neg, is_true, makes_true}
use Rattle.problem.specs.PlanClauses.{put, needs, meeting, not_both, of_conflict, of_stanza, of_install, of_remove, plan_clauses, first_false_from, PlansAgree}
use Rattle.text.proofs.Members.{each_from_every, every_from_each, each_weaker, each_append, each_left, each_right}
use Rattle.problem.proofs.Walks.{some_of_each, or_none}
use Rattle.problem.proofs.Numbers.{back, stanzas_from_one}

abbrev True : Chosen → Clause → Type 0
True s c = T (makes_true s c)

-- two ways to say a thing of each member
each_iff : {X : Type 0} (P Q : X → Type 0) (xs : List X) → Each (λ x. P x ↔ Q x) xs → Each P xs ↔ Each Q xs
each_iff P Q [] h = ((λ k. k), λ k. k)
each_iff P Q (x ∷ xs) h = ((λ k. (h.0.0 k.0, (each_iff P Q xs h.1).0 k.1)), λ k. (h.0.1 k.0, (each_iff P Q xs h.1).1 k.1))

each_since_iff : {X : Type 0} (P Q : X → Type 0) → ((x : X) → P x ↔ Q x) → (xs : List X) → Each P xs ↔ Each Q xs
each_since_iff P Q f [] = ((λ k. k), λ k. k)
each_since_iff P Q f (x ∷ xs) = ((λ k. ((f x).0 k.0, (each_since_iff P Q f xs).0 k.1)), λ k. ((f x).1 k.0, (each_since_iff P Q f xs).1 k.1))

append_iff : {X : Type 0} (P : X → Type 0) (xs ys : List X) → Each P (xs ++ ys) ↔ (Each P xs × Each P ys)
append_iff P xs ys = ((λ h. (each_left P xs ys h, each_right P xs ys h)), λ h. each_append P xs ys h.0 h.1)

map_iff : {X Y : Type 0} (P : Y → Type 0) (f : X → Y) (xs : List X) → Each P (each f xs) ↔ Each (λ x. P (f x)) xs
map_iff P f [] = ((λ k. k), λ k. k)
map_iff P f (x ∷ xs) = ((λ k. (k.0, (map_iff P f xs).0 k.1)), λ k. (k.0, (map_iff P f xs).1 k.1))

all_iff : {X Y : Type 0} (P : Y → Type 0) (f : X → List Y) (xs : List X) → Each P (each_all f xs) ↔ Each (λ x. Each P (f x)) xs
all_iff P f [] = ((λ k. k), λ k. k)
all_iff P f (x ∷ xs) = (
  (λ k. (each_left P (f x) (each_all f xs) k, (all_iff P f xs).0 (each_right P (f x) (each_all f xs) k))),
  λ k. each_append P (f x) (each_all f xs) k.0 ((all_iff P f xs).1 k.1),
)

keep_iff : {X : Type 0} (P : X → Type 0) (t : X → Bool) (xs : List X) → Each P (keep t xs) ↔ Each (λ x. T (t x) → P x) xs
keep_iff P t [] = ((λ k. k), λ k. k)
keep_iff P t (x ∷ xs) =
    elim (t x) as (λ b. Each P (cond b (x ∷ keep t xs) (keep t xs)) ↔ ((T b → P x) × Each (λ x. T (t x) → P x) xs)) [
      | true ↦ ((λ k. ((λ _. k.0), (keep_iff P t xs).0 k.1)), λ k. (k.0 tt, (keep_iff P t xs).1 k.1))
      | false ↦ ((λ k. ((λ w. absurd w), (keep_iff P t xs).0 k)), λ k. (keep_iff P t xs).1 k.1)
    ]

both_iff : {X : Type 0} (P Q : X → Type 0) (xs : List X) → Each (λ x. P x × Q x) xs ↔ (Each P xs × Each Q xs)
both_iff P Q [] = ((λ k. (tt, tt)), λ k. tt)
both_iff P Q (x ∷ xs) = (
  (λ k. ((k.0.0, ((both_iff P Q xs).0 k.1).0), (k.0.1, ((both_iff P Q xs).0 k.1).1))),
  λ k. ((k.0.0, k.1.0), (both_iff P Q xs).1 (k.0.1, k.1.1)),
)

out_iff : {X : Type 0} (A : Type 0) (P : X → Type 0) (xs : List X) → Each (λ x. A → P x) xs ↔ (A → Each P xs)
out_iff A P [] = ((λ k _. tt), λ k. tt)
out_iff A P (x ∷ xs) = ((λ k a. (k.0 a, (out_iff A P xs).0 k.1 a)), λ k. ((λ a. (k a).0), (out_iff A P xs).1 (λ a. (k a).1)))

-- tests that are equal
bool_iff : {a b : Bool} → a ≡ b → T a ↔ T b
bool_iff e = (subst T e, subst T (sym e))

-- the same members, either test first
some_swap : {X : Type 0} (p t : X → Bool) (xs : List X) → some p (keep t xs) ≡ some t (keep p xs)
some_swap p t [] = refl
some_swap p t (x ∷ xs) = pick (p x) (t x) refl refl (some_swap p t xs)
  where
    pick : (a b : Bool) → p x ≡ a → t x ≡ b → some p (keep t xs) ≡ some t (keep p xs) →
        some p (cond b (x ∷ keep t xs) (keep t xs)) ≡ some t (cond a (x ∷ keep p xs) (keep p xs))
    pick true true e f g = ap (λ y. y || some p (keep t xs)) e ∙ sym (ap (λ y. y || some t (keep p xs)) f)
    pick true false e f g = g ∙ sym (ap (λ y. y || some t (keep p xs)) f)
    pick false true e f g = ap (λ y. y || some p (keep t xs)) e ∙ g
    pick false false e f g = g

module _ (s : Chosen) where
  no_is : (v : ℕ) → 1 ≤ v → is_true s (neg v) ≡ not (s v)
  no_is v h = ap (λ w. not (s w)) (back v h)

  swap_or : (a b c : Bool) → (a || (b || c)) ≡ (b || (a || c))
  swap_or true true c = refl
  swap_or true false c = refl
  swap_or false b c = refl

  put_is : (i : ℕ) (js : List ℕ) → 1 ≤ i → makes_true s (put i js) ≡ (not (s i) || some s js)
  put_is i [] h = ap (λ y. y || false) (no_is i h)
  put_is i (j ∷ js) h =
      elim (ltb i j) as (λ b. makes_true s (cond b (neg i ∷ each lit (j ∷ js)) (lit j ∷ put i js)) ≡ (not (s i) || (s j || some s js))) [
        | true ↦ ap (λ y. y || some (is_true s) (each lit (j ∷ js))) (no_is i h) ∙ ap (λ y. not (s i) || y) (some_of_each (is_true s) lit (j ∷ js))
        | false ↦ ap (λ y. s j || y) (put_is i js h) ∙ swap_or (s j) (not (s i)) (some s js)
      ]

  if_iff : (a b : Bool) → T (not a || b) ↔ (T a → T b)
  if_iff true b = ((λ h _. h), λ h. h tt)
  if_iff false b = ((λ h w. absurd w), λ h. tt)

  among : (i : ℕ) (js : List ℕ) → T (some (eqb i) js) → T (s i) → T (some s js)
  among i [] h t = h
  among i (j ∷ js) h t = pick (eqb i j) refl h (λ k. among i js k t)
    where
      pick : (b : Bool) → eqb i j ≡ b → T (b || some (eqb i) js) → (T (some (eqb i) js) → T (some s js)) → T (s j || some s js)
      pick true e k g = subst (λ y. T (y || some s js)) (sym (at (s i) (s j) t (ap s (eqb→eq i j (subst T (sym e) tt))))) tt
        where
          at : (a b : Bool) → T a → a ≡ b → b ≡ true
          at true b t e = sym e
          at false b t e = absurd t
      pick false e k g = more (s j) (g k)
        where
          more : (b : Bool) → T (some s js) → T (b || some s js)
          more true h = tt
          more false h = h

  needs_iff : (i : ℕ) (js : List ℕ) → 1 ≤ i → Each (True s) (needs i js) ↔ (T (s i) → T (some s js))
  needs_iff i js h = pick (some (eqb i) js) refl
    where
      pick : (b : Bool) → some (eqb i) js ≡ b → Each (True s) (cond b [] (put i js ∷ [])) ↔ (T (s i) → T (some s js))
      pick true e = ((λ _. among i js (subst T (sym e) tt)), λ _. tt)
      pick false e = (
        (λ k. (if_iff (s i) (some s js)).0 (subst T (put_is i js h) k.0)),
        λ k. (subst T (sym (put_is i js h)) ((if_iff (s i) (some s js)).1 k), tt),
      )

  not_both_iff : (i j : ℕ) → 1 ≤ i → 1 ≤ j → True s (not_both i j) ↔ (T (s i) → T (s j) → ⊥)
  not_both_iff i j h k =
      elim (ltb i j) as (λ b. True s (cond b (neg i ∷ neg j ∷ []) (neg j ∷ neg i ∷ [])) ↔ (T (s i) → T (s j) → ⊥)) [
        | true ↦ Iff.trans (bool_iff (ap (λ y. y || (is_true s (neg j) || false)) (no_is i h) ∙ ap (λ y. not (s i) || (y || false)) (no_is j k))) (either (s i) (s j))
        | false ↦ Iff.trans (bool_iff (ap (λ y. y || (is_true s (neg i) || false)) (no_is j k) ∙ ap (λ y. not (s j) || (y || false)) (no_is i h))) (turned (s j) (s i))
      ]
    where
      either : (a b : Bool) → T (not a || (not b || false)) ↔ (T a → T b → ⊥)
      either true true = ((λ h. absurd h), λ h. h tt tt)
      either true false = ((λ h a b. b), λ h. tt)
      either false b = ((λ h a c. a), λ h. tt)

      turned : (a b : Bool) → T (not a || (not b || false)) ↔ (T b → T a → ⊥)
      turned a b = Iff.trans (either a b) ((λ f x y. f y x), λ f x y. f y x)

  one_no_iff : (j : ℕ) → 1 ≤ j → True s (neg j ∷ []) ↔ (T (s j) → ⊥)
  one_no_iff j h = Iff.trans (bool_iff (ap (λ y. y || false) (no_is j h))) (denied (s j))
    where
      denied : (a : Bool) → T (not a || false) ↔ (T a → ⊥)
      denied true = ((λ h. absurd h), λ h. h tt)
      denied false = ((λ h a. a), λ h. tt)

  module _ (q : Problem) where
    abbrev Ok' : Numbered → Type 0
    Ok' i = 1 ≤ i.number

    met-is : (cs : List Constraint) → some s (meeting q cs) ≡ some (satisfies_one cs) (chosen q s)
    met-is cs = some_of_each s (λ k. k.number) (keep (satisfies_one cs) (stanzas q)) ∙ some_swap (λ k. s k.number) (satisfies_one cs) (stanzas q)

    -- what holds of each number that meets a constraint
    meeting-iff : (c : Constraint) (P Q : ℕ → Type 0) → ((j : Numbered) → Ok' j → P j.number ↔ Q j.number) →
        Each P (meeting q (c ∷ [])) ↔ Each (λ j. T (satisfies c j.stanza) → Q j.number) (stanzas q)
    meeting-iff c P Q f =
        Iff.trans (map_iff P (λ k. k.number) (keep (satisfies_one (c ∷ [])) (stanzas q)))
        (Iff.trans (keep_iff (λ k. P k.number) (satisfies_one (c ∷ [])) (stanzas q))
        (each_iff (λ k. T (satisfies_one (c ∷ []) k) → P k.number) (λ j. T (satisfies c j.stanza) → Q j.number) (stanzas q)
        (each_weaker Ok' (λ j. (T (satisfies_one (c ∷ []) j) → P j.number) ↔ (T (satisfies c j.stanza) → Q j.number))
        (λ j o. ((λ g t. (f j o).0 (g (subst T (sym (or_none (satisfies c j.stanza))) t))), λ g t. (f j o).1 (g (subst T (or_none (satisfies c j.stanza)) t))))
        (stanzas q) (stanzas_from_one q))))

    -- each chosen stanza that satisfies c
    chosen-iff : (c : Constraint) (Q : ℕ → Type 0) →
        Each (λ j. T (satisfies c j.stanza) → T (s j.number) → Q j.number) (stanzas q) ↔ Each (λ j. T (satisfies c j.stanza) → Q j.number) (chosen q s)
    chosen-iff c Q =
        Iff.trans
        (each_since_iff (λ j. T (satisfies c j.stanza) → T (s j.number) → Q j.number) (λ j. T (s j.number) → T (satisfies c j.stanza) → Q j.number) (λ j. ((λ f x y. f y x), λ f x y. f y x)) (stanzas q))
        (Iff.symm (keep_iff (λ j. T (satisfies c j.stanza) → Q j.number) (λ j. s j.number) (stanzas q)))

    conflict-iff : (i : Numbered) → Ok' i → (c : Constraint) →
        Each (True s) (of_conflict q i.number c) ↔
        (T (s i.number) → Each (λ j. T (satisfies c j.stanza) → j.number ≡ i.number) (chosen q s))
    conflict-iff i o c =
        Iff.trans (map_iff (True s) (not_both i.number) (keep (λ j. not (eqb i.number j)) (meeting q (c ∷ []))))
        (Iff.trans (keep_iff (λ j. True s (not_both i.number j)) (λ j. not (eqb i.number j)) (meeting q (c ∷ [])))
        (Iff.trans (meeting-iff c (λ j. T (not (eqb i.number j)) → True s (not_both i.number j)) (λ j. T (s i.number) → T (s j) → j ≡ i.number) (λ j o'. one j o' (eqb i.number j.number) refl))
        (Iff.trans (each_since_iff (λ j. T (satisfies c j.stanza) → T (s i.number) → T (s j.number) → j.number ≡ i.number)
        (λ j. T (s i.number) → T (satisfies c j.stanza) → T (s j.number) → j.number ≡ i.number) (λ j. ((λ f x y. f y x), λ f x y. f y x)) (stanzas q))
        (Iff.trans (out_iff (T (s i.number)) (λ j. T (satisfies c j.stanza) → T (s j.number) → j.number ≡ i.number) (stanzas q))
        ((λ f a. (chosen-iff c (λ j. j ≡ i.number)).0 (f a)), λ f a. (chosen-iff c (λ j. j ≡ i.number)).1 (f a))))))
      where
        one : (j : Numbered) → Ok' j → (b : Bool) → eqb i.number j.number ≡ b →
            (T (not b) → True s (not_both i.number j.number)) ↔ (T (s i.number) → T (s j.number) → j.number ≡ i.number)
        one j o' true e = ((λ _ _ _. sym (eqb→eq i.number j.number (subst T (sym e) tt))), λ _ w. absurd w)
        one j o' false e = (
          (λ f a b. absurd ((not_both_iff i.number j.number o o').0 (f tt) a b)),
          λ f _. (not_both_iff i.number j.number o o').1 (λ a b. subst T e (subst (λ y. T (eqb i.number y)) (sym (f a b)) (eqb_refl i.number))),
        )

    abbrev Depends : Numbered → Type 0
    Depends i = Each (λ cs. T (some (satisfies_one cs) (chosen q s))) i.stanza.depends

    abbrev Conflicts : Numbered → Type 0
    Conflicts i = Each (λ c. Each (λ j. T (satisfies c j.stanza) → j.number ≡ i.number) (chosen q s)) i.stanza.conflicts

    stanza-iff : (i : Numbered) → Ok' i → Each (True s) (of_stanza q i) ↔ ((T (s i.number) → Depends i) × (T (s i.number) → Conflicts i))
    stanza-iff i o =
        Iff.trans (append_iff (True s) (each_all dep i.stanza.depends) (each_all con i.stanza.conflicts))
        ((λ h. (one.0 h.0, two.0 h.1)), λ h. (one.1 h.0, two.1 h.1))
      where
        dep : List Constraint → List Clause
        dep cs = needs i.number (meeting q cs)

        con : Constraint → List Clause
        con c = each (not_both i.number) (keep (λ j. not (eqb i.number j)) (meeting q (c ∷ [])))

        meets : (cs : List Constraint) → Each (True s) (dep cs) ↔ (T (s i.number) → T (some (satisfies_one cs) (chosen q s)))
        meets cs = Iff.trans (needs_iff i.number (meeting q cs) o) ((λ f a. subst T (met-is cs) (f a)), λ f a. subst T (sym (met-is cs)) (f a))

        one : Each (True s) (each_all dep i.stanza.depends) ↔ (T (s i.number) → Depends i)
        one =
            Iff.trans (all_iff (True s) dep i.stanza.depends)
            (Iff.trans (each_since_iff (λ cs. Each (True s) (dep cs)) (λ cs. T (s i.number) → T (some (satisfies_one cs) (chosen q s))) meets i.stanza.depends)
            (out_iff (T (s i.number)) (λ cs. T (some (satisfies_one cs) (chosen q s))) i.stanza.depends))

        two : Each (True s) (each_all con i.stanza.conflicts) ↔ (T (s i.number) → Conflicts i)
        two =
            Iff.trans (all_iff (True s) con i.stanza.conflicts)
            (Iff.trans (each_since_iff (λ c. Each (True s) (con c)) (λ c. T (s i.number) → Each (λ j. T (satisfies c j.stanza) → j.number ≡ i.number) (chosen q s)) (conflict-iff i o) i.stanza.conflicts)
            (out_iff (T (s i.number)) (λ c. Each (λ j. T (satisfies c j.stanza) → j.number ≡ i.number) (chosen q s)) i.stanza.conflicts))

    stanzas-iff : Each (True s) (each_all (of_stanza q) (stanzas q)) ↔ (Each Depends (chosen q s) × Each Conflicts (chosen q s))
    stanzas-iff =
        Iff.trans (all_iff (True s) (of_stanza q) (stanzas q))
        (Iff.trans (each_iff (λ i. Each (True s) (of_stanza q i)) (λ i. (T (s i.number) → Depends i) × (T (s i.number) → Conflicts i)) (stanzas q)
        (each_weaker Ok' (λ i. Each (True s) (of_stanza q i) ↔ ((T (s i.number) → Depends i) × (T (s i.number) → Conflicts i))) stanza-iff (stanzas q) (stanzas_from_one q)))
        (Iff.trans (both_iff (λ i. T (s i.number) → Depends i) (λ i. T (s i.number) → Conflicts i) (stanzas q)) (
          (λ h. ((keep_iff Depends (λ i. s i.number) (stanzas q)).1 h.0, (keep_iff Conflicts (λ i. s i.number) (stanzas q)).1 h.1)),
          λ h. ((keep_iff Depends (λ i. s i.number) (stanzas q)).0 h.0, (keep_iff Conflicts (λ i. s i.number) (stanzas q)).0 h.1),
        )))

    install-iff : Each (True s) (each (λ c. each lit (meeting q (c ∷ []))) q.install) ↔ Each (λ c. T (some (λ j. satisfies c j.stanza) (chosen q s))) q.install
    install-iff =
        Iff.trans (map_iff (True s) (λ c. each lit (meeting q (c ∷ []))) q.install)
        (each_since_iff (λ c. True s (each lit (meeting q (c ∷ [])))) (λ c. T (some (λ j. satisfies c j.stanza) (chosen q s)))
        (λ c. bool_iff (some_of_each (is_true s) lit (meeting q (c ∷ [])) ∙ met-is (c ∷ []) ∙ some_same (satisfies_one (c ∷ [])) (λ j. satisfies c j.stanza) (λ j. or_none (satisfies c j.stanza)) (chosen q s))) q.install)
      where
        some_same : {X : Type 0} (p t : X → Bool) → ((x : X) → p x ≡ t x) → (xs : List X) → some p xs ≡ some t xs
        some_same p t f [] = refl
        some_same p t f (x ∷ xs) = ap (λ y. y || some p xs) (f x) ∙ ap (λ y. t x || y) (some_same p t f xs)

    remove-iff : Each (True s) (each_all (λ c. each (λ j. neg j ∷ []) (meeting q (c ∷ []))) q.remove) ↔ Each (λ c. Each (λ j. T (satisfies c j.stanza) → ⊥) (chosen q s)) q.remove
    remove-iff =
        Iff.trans (all_iff (True s) (λ c. each (λ j. neg j ∷ []) (meeting q (c ∷ []))) q.remove)
        (each_since_iff (λ c. Each (True s) (each (λ j. neg j ∷ []) (meeting q (c ∷ [])))) (λ c. Each (λ j. T (satisfies c j.stanza) → ⊥) (chosen q s))
        (λ c. Iff.trans (map_iff (True s) (λ j. neg j ∷ []) (meeting q (c ∷ [])))
        (Iff.trans (meeting-iff c (λ j. True s (neg j ∷ [])) (λ j. T (s j) → ⊥) (λ j o. one_no_iff j.number o))
        (chosen-iff c (λ j. ⊥)))) q.remove)

plan_iff : (q : Problem) (s : Chosen) → T (every (makes_true s) (plan_clauses q)) ↔ PlanOverSets q s
plan_iff q s = (
  (λ p. over (each_from_every (makes_true s) (plan_clauses q) p)),
  λ p. every_from_each (makes_true s) (plan_clauses q) (under p),
)
  where
    one : List Clause
    one = each_all (of_stanza q) (stanzas q)

    two : List Clause
    two = each (of_install q) q.install

    three : List Clause
    three = each_all (of_remove q) q.remove

    over : Each (True s) (plan_clauses q) → PlanOverSets q s
    over h = record {
      depends = ((stanzas-iff s q).0 (each_left (True s) one two (each_left (True s) (one ++ two) three h))).0;
      conflicts = ((stanzas-iff s q).0 (each_left (True s) one two (each_left (True s) (one ++ two) three h))).1;
      install = (install-iff s q).0 (each_right (True s) one two (each_left (True s) (one ++ two) three h));
      remove = (remove-iff s q).0 (each_right (True s) (one ++ two) three h);
    }

    under : PlanOverSets q s → Each (True s) (plan_clauses q)
    under p =
        each_append (True s) (one ++ two) three
        (each_append (True s) one two ((stanzas-iff s q).1 (p.depends, p.conflicts)) ((install-iff s q).1 p.install))
        ((remove-iff s q).1 p.remove)

-- where no clause is the first false one, all are true
none_false : (n : ℕ) (s : Chosen) (cs : List Clause) → first_false_from n s cs ≡ None → T (every (makes_true s) cs)
none_false n s [] e = tt
none_false n s (c ∷ cs) e = pick (makes_true s c) e (none_false (suc n) s cs)
  where
    there : Option ℕ → Type 0
    there None = ⊥
    there (Some x) = Unit {0}

    pick : (b : Bool) → cond b (first_false_from (suc n) s cs) (Some n) ≡ None → (first_false_from (suc n) s cs ≡ None → T (every (makes_true s) cs)) → T (b && every (makes_true s) cs)
    pick true e f = f e
    pick false e f = subst there e tt

-- and where all are true, none is false
all_true : (n : ℕ) (s : Chosen) (cs : List Clause) → T (every (makes_true s) cs) → first_false_from n s cs ≡ None
all_true n s [] t = refl
all_true n s (c ∷ cs) t = pick (makes_true s c) t (all_true (suc n) s cs)
  where
    pick : (b : Bool) → T (b && every (makes_true s) cs) → (T (every (makes_true s) cs) → first_false_from (suc n) s cs ≡ None) → cond b (first_false_from (suc n) s cs) (Some n) ≡ None
    pick true t f = f t
    pick false t f = absurd t

-- the first false clause is false, and those before it are true
record From (k : ℕ) (s : Chosen) (cs : List Clause) (n : ℕ) : Type 0 where
  least : k ≤ n
  most : n < k + length cs
  here : makes_true s (get_or cs (n - k) []) ≡ false
  before : Each (λ c. makes_true s c ≡ true) (take (n - k) cs)

first_false_found : (k : ℕ) (s : Chosen) (cs : List Clause) (n : ℕ) → first_false_from k s cs ≡ Some n → From k s cs n
first_false_found k s [] n e = absurd (subst there (sym e) tt)
  where
    there : Option ℕ → Type 0
    there None = ⊥
    there (Some x) = Unit {0}
first_false_found k s (c ∷ cs) n e = pick (makes_true s c) refl e (first_false_found (suc k) s cs n)
  where
    pick : (b : Bool) → makes_true s c ≡ b → cond b (first_false_from (suc k) s cs) (Some k) ≡ Some n → (first_false_from (suc k) s cs ≡ Some n → From (suc k) s cs n) → From k s (c ∷ cs) n
    pick true g h f =
        let r = f h in
        let z : n - k ≡ suc (n - suc k) = omega (arith, r.least) in
        record {
          least = omega (arith, r.least);
          most = omega (arith, r.most);
          here = ap (λ m. makes_true s (get_or (c ∷ cs) m [])) z ∙ r.here;
          before = subst (λ m. Each (λ d. makes_true s d ≡ true) (take m (c ∷ cs))) (sym z) (g, r.before);
        }
    pick false g h f =
        let same : k ≡ n = cc in
        let z : n - k ≡ 0 = omega arith in
        record {
          least = omega arith;
          most = omega arith;
          here = ap (λ m. makes_true s (get_or (c ∷ cs) m [])) z ∙ g;
          before = subst (λ m. Each (λ d. makes_true s d ≡ true) (take m (c ∷ cs))) (sym z) tt;
        }

pub plans_agree : PlansAgree
plans_agree = record {
  clauses = plan_iff;
  none = λ q s. ((λ e. (plan_iff q s).0 (none_false 1 s (plan_clauses q) e)), λ p. all_true 1 s (plan_clauses q) ((plan_iff q s).1 p));
  first = λ s cs n e. let f = first_false_found 1 s cs n e in record { least = f.least; most = omega (arith, f.most); here = f.here; before = f.before };
}
