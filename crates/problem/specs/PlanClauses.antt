-- The plan clauses of a problem, in their order. The variables are the numbers of the stanzas, from 1.
-- put, needs: "not i, or one of js", literals by rising variable; left out if i is one of js
-- meeting: the numbers of the stanzas that satisfy one of some constraints
-- not_both: "not i, or not j"
-- of_stanza: the clauses of a stanza: its conjuncts, then its conflicts with each other stanza
-- plan_clauses: those of each stanza, then those of the install items, then those of the remove items
-- first_false: the number, from 1, of the first clause that is false
-- FirstFalse: the clause of a number is false, and all before it are true
-- PlansAgree: a set makes every plan clause true just if it is a plan; else the first false one is what its name says
use Rattle.std.specs.Prelude.{◌≡◌, ℕ, suc, ◌-◌, ◌≤◌, true, false, cond, not, T, ◌↔◌, List, [], ◌∷◌, ◌++◌, length, take, Some, None, Option, ◌==◌, nat_eq, nat_lt, slice_index_or}
use Rattle.text.specs.Lists.{each, each_all, keep, some, every, Each}
use Rattle.text.specs.Literals.{lit, neg, Clause, Truth, makes_true}
use Rattle.problem.specs.Cudf.{Problem, Constraint, Numbered, stanzas, Chosen, satisfies_one, PlanOverSets}

abbrev pub put : ℕ → List ℕ → Clause
put i [] = neg i ∷ []
put i (j ∷ js) = cond (nat_lt i j) (neg i ∷ each lit (j ∷ js)) (lit j ∷ put i js)

abbrev pub needs : ℕ → List ℕ → List Clause
needs i js = cond (some (nat_eq i) js) [] (put i js ∷ [])

abbrev pub meeting : Problem → List Constraint → List ℕ
meeting q cs = each (λ k. k.number) (keep (satisfies_one cs) (stanzas q))

abbrev pub not_both : ℕ → ℕ → Clause
not_both i j = cond (nat_lt i j) (neg i ∷ neg j ∷ []) (neg j ∷ neg i ∷ [])

abbrev pub of_conflict : Problem → ℕ → Constraint → List Clause
of_conflict q i c = each (not_both i) (keep (λ j. not (i == j)) (meeting q (c ∷ [])))

abbrev pub of_stanza : Problem → Numbered → List Clause
of_stanza q i = each_all (λ cs. needs i.number (meeting q cs)) i.stanza.depends ++ each_all (of_conflict q i.number) i.stanza.conflicts

abbrev pub of_install : Problem → Constraint → Clause
of_install q c = each lit (meeting q (c ∷ []))

abbrev pub of_remove : Problem → Constraint → List Clause
of_remove q c = each (λ j. neg j ∷ []) (meeting q (c ∷ []))

abbrev pub plan_clauses : Problem → List Clause
plan_clauses q = each_all (of_stanza q) (stanzas q) ++ each (of_install q) q.install ++ each_all (of_remove q) q.remove

abbrev pub first_false_from : ℕ → Truth → List Clause → Option ℕ
first_false_from n s [] = None
first_false_from n s (c ∷ cs) = cond (makes_true s c) (first_false_from (suc n) s cs) (Some n)

abbrev pub first_false : Truth → List Clause → Option ℕ
first_false s cs = first_false_from 1 s cs

pub record FirstFalse (s : Truth) (cs : List Clause) (n : ℕ) : Type 0 where
  pub least : 1 ≤ n
  pub most : n ≤ length cs
  pub here : makes_true s (slice_index_or cs (n - 1) []) ≡ false
  pub before : Each (λ c. makes_true s c ≡ true) (take (n - 1) cs)

pub record PlansAgree : Type 0 where
  pub clauses : (q : Problem) (s : Chosen) → T (every (makes_true s) (plan_clauses q)) ↔ PlanOverSets q s
  pub none : (q : Problem) (s : Chosen) → (first_false s (plan_clauses q) ≡ None) ↔ PlanOverSets q s
  pub first : (s : Chosen) (cs : List Clause) (n : ℕ) → first_false s cs ≡ Some n → FirstFalse s cs n
