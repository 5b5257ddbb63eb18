-- Every variable of a plan clause is a stanza's number.
use Rattle.std.proofs.Common.{◌≡◌, ℕ, suc, ◌+◌, ◌<◌, ◌≤◌, true, false, cond, not, T, eqb, ltb, List, [], ◌∷◌, ◌++◌, length, ℤ, pos, negsuc, sym, ap, subst, ⊎_elim, arith}
use Rattle.text.specs.Lists.{each, each_all, keep, some, Each}
use Rattle.problem.specs.Cudf.{Problem, Package, Constraint, Numbered, numbered, stanzas, satisfies, Chosen, versions_of}
use Rattle.text.specs.Literals.{Clause, lit, neg, variable_of, is_true}
use Rattle.problem.specs.PlanClauses.{put, needs, meeting, not_both, of_stanza, plan_clauses}
use Rattle.text.proofs.Members.{each_since, each_weaker, each_append, each-each, each_each_all, each_keep, or_cases, or_left, or_right}
use Rattle.verdict.proofs.Rup.{True}

abbrev pub Between : ℕ → ℕ → Type 0
Between n v = (1 ≤ v) × (v ≤ n)

abbrev pub Within : ℕ → Clause → Type 0
Within n c = Each (λ l. variable_of l ≤ n) c

numbered_between : (k : ℕ) (ps : List Package) → Each (λ i. (k ≤ i.number) × (i.number < k + length ps)) (numbered k ps)
numbered_between k [] = tt
numbered_between k (p ∷ ps) =
    ((omega arith, omega arith), each_weaker (λ i. (suc k ≤ i.number) × (i.number < suc k + length ps)) (λ i. (k ≤ i.number) × (i.number < k + suc (length ps))) (λ i h. (omega arith, omega arith)) (numbered (suc k) ps) (numbered_between (suc k) ps))

module _ (q : Problem) where
  abbrev L : ℕ
  L = length q.packages

  pub stanzas_between : Each (λ i. Between (length q.packages) i.number) (stanzas q)
  stanzas_between = each_weaker (λ i. (1 ≤ i.number) × (i.number < 1 + length q.packages)) (λ i. Between L i.number) (λ i h. (omega arith, omega arith)) (stanzas q) (numbered_between 1 q.packages)

  pub versions_between : (n : List ℕ) → Each (λ i. Between (length q.packages) i.number) (versions_of q n)
  versions_between n = each_keep (λ i. Between L i.number) _ (stanzas q) stanzas_between

  meeting_between : (cs : List Constraint) → Each (Between L) (meeting q cs)
  meeting_between cs = each-each (Between L) (λ k. k.number) _ (each_keep (λ i. Between L i.number) (λ k. some (λ c. satisfies c k.stanza) cs) (stanzas q) stanzas_between)

  no_within : (i : ℕ) → Between L i → variable_of (neg i) ≤ L
  no_within i h = omega arith

  yes_within : (js : List ℕ) → Each (Between L) js → Within L (each lit js)
  yes_within js h = each-each (λ l. variable_of l ≤ L) lit js (each_weaker (Between L) (λ j. j ≤ L) (λ j k. k.1) js h)

  put_within : (i : ℕ) (js : List ℕ) → Between L i → Each (Between L) js → Within L (put i js)
  put_within i [] h g = (no_within i h, tt)
  put_within i (j ∷ js) h g =
      elim (ltb i j) as (λ b. Within L (cond b (neg i ∷ each lit (j ∷ js)) (lit j ∷ put i js)))
      [ true ↦ (no_within i h, yes_within (j ∷ js) g) | false ↦ (g.0.1, put_within i js h g.1) ]

  needs_within : (i : ℕ) (js : List ℕ) → Between L i → Each (Between L) js → Each (Within L) (needs i js)
  needs_within i js h g = elim (some (eqb i) js) as (λ b. Each (Within L) (cond b [] (put i js ∷ []))) [ true ↦ tt | false ↦ (put_within i js h g, tt) ]

  not_both_within : (i j : ℕ) → Between L i → Between L j → Within L (not_both i j)
  not_both_within i j h g =
      elim (ltb i j) as (λ b. Within L (cond b (neg i ∷ neg j ∷ []) (neg j ∷ neg i ∷ [])))
      [ true ↦ (no_within i h, (no_within j g, tt)) | false ↦ (no_within j g, (no_within i h, tt)) ]

  of_stanza_within : (i : Numbered) → Between L i.number → Each (Within L) (of_stanza q i)
  of_stanza_within i h =
      each_append (Within L) (each_all dep i.stanza.depends) (each_all con i.stanza.conflicts)
      (each_each_all (Within L) dep i.stanza.depends (each_since (λ cs. Each (Within L) (dep cs)) (λ cs. needs_within i.number (meeting q cs) h (meeting_between cs)) i.stanza.depends))
      (each_each_all (Within L) con i.stanza.conflicts (each_since (λ c. Each (Within L) (con c))
      (λ c. each-each (Within L) (not_both i.number) (others c) (each_weaker (Between L) (λ j. Within L (not_both i.number j)) (λ j g. not_both_within i.number j h g) (others c)
      (each_keep (Between L) (λ j. not (eqb i.number j)) (meeting q (c ∷ [])) (meeting_between (c ∷ []))))) i.stanza.conflicts))
    where
      dep : List Constraint → List Clause
      dep cs = needs i.number (meeting q cs)

      others : Constraint → List ℕ
      others c = keep (λ j. not (eqb i.number j)) (meeting q (c ∷ []))

      con : Constraint → List Clause
      con c = each (not_both i.number) (others c)

  pub plan_within : Each (Within (length q.packages)) (plan_clauses q)
  plan_within =
      each_append (Within L) (each_all (of_stanza q) (stanzas q) ++ each inst q.install) (each_all rem q.remove)
      (each_append (Within L) (each_all (of_stanza q) (stanzas q)) (each inst q.install)
      (each_each_all (Within L) (of_stanza q) (stanzas q) (each_weaker (λ i. Between L i.number) (λ i. Each (Within L) (of_stanza q i)) of_stanza_within (stanzas q) stanzas_between))
      (each-each (Within L) inst q.install (each_since (λ c. Within L (inst c)) (λ c. yes_within (meeting q (c ∷ [])) (meeting_between (c ∷ []))) q.install)))
      (each_each_all (Within L) rem q.remove (each_since (λ c. Each (Within L) (rem c))
      (λ c. each-each (Within L) (λ j. neg j ∷ []) (meeting q (c ∷ [])) (each_weaker (Between L) (λ j. Within L (neg j ∷ [])) (λ j g. (no_within j g, tt)) (meeting q (c ∷ [])) (meeting_between (c ∷ [])))) q.remove))
    where
      inst : Constraint → Clause
      inst c = each lit (meeting q (c ∷ []))

      rem : Constraint → List Clause
      rem c = each (λ j. neg j ∷ []) (meeting q (c ∷ []))

-- assignments that agree on a clause's variables make it true alike
same_literal : (A B : Chosen) (l : ℤ) → A (variable_of l) ≡ B (variable_of l) → is_true A l ≡ is_true B l
same_literal A B (pos v) e = e
same_literal A B (negsuc k) e = ap not e

same_true : (A B : Chosen) (n : ℕ) → ((v : ℕ) → v ≤ n → A v ≡ B v) → (c : Clause) → Within n c → True B c → True A c
same_true A B n f [] h t = t
same_true A B n f (l ∷ ls) h t =
    ⊎_elim (λ u. or_left (is_true A l) _ (subst T (sym (same_literal A B l (f (variable_of l) h.0))) u)) (λ u. or_right (is_true A l) _ (same_true A B n f ls h.1 u)) (or_cases (is_true B l) _ t)

pub all_same_true : (A B : Chosen) (n : ℕ) → ((v : ℕ) → v ≤ n → A v ≡ B v) → (cs : List Clause) → Each (Within n) cs → Each (True B) cs → Each (True A) cs
all_same_true A B n f [] h t = tt
all_same_true A B n f (c ∷ cs) h t = (same_true A B n f c h.0 t.0, all_same_true A B n f cs h.1 t.1)
