-- A problem has fewer plan clauses than a number of 32 bits can count.
use Rattle.std.proofs.Common.{ℕ, suc, ◌*◌, ◌<◌, ◌≤◌, Bool, true, false, cond, not, eqb, List, [], ◌∷◌, ◌++◌, length, drop, suc-mul, arith}
use Rattle.std.proofs.lemmas.List.{length-append, length-map, length-take, length-drop}
use Rattle.std.proofs.lemmas.List.Sums.{length-filter, count_by-le-length}
use Rattle.text.specs.Lists.{each, each_all, keep, some, Each}
use Rattle.text.specs.Literals.{Clause, neg}
use Rattle.text.proofs.Members.{each_since, each_weaker}
use Rattle.problem.specs.Cudf.{Package, Constraint, Numbered, numbered, stanzas, satisfies_one}
use Rattle.problem.specs.Meaning.{front, conjuncts, constraint_of, package_of, packages_in, constraints_in, problem_of}
use Rattle.problem.specs.PlanClauses.{put, needs, meeting, not_both, of_conflict, of_stanza, of_install, of_remove, plan_clauses}
use Rattle.problem.specs.Rows.{span_in}
use Rattle.problem.specs.declared.rows.Span.{Span}
use Rattle.problem.specs.declared.rows.PackageRow.{PackageRow}
use Rattle.problem.specs.declared.rows.ConstraintRow.{ConstraintRow}
use Rattle.problem.specs.declared.view.Problem.{Problem as View}
use Rattle.problem.proofs.Meets.{stanzas-length}

keep_few : {X : Type 0} (t : X → Bool) (xs : List X) → length (keep t xs) ≤ length xs
keep_few t xs = omega (arith, length-filter t xs, count_by-le-length t xs)

all_few : {X : Type 0} (f : X → List Clause) (m : ℕ) (xs : List X) → Each (λ x. length (f x) ≤ m) xs → length (each_all f xs) ≤ length xs * m
all_few f m [] h = omega arith
all_few f m (x ∷ xs) h = omega (arith, length-append (f x) (each_all f xs), all_few f m xs h.1, h.0, suc-mul (length xs) m)

conjuncts_few : (cs : List ConstraintRow) → length (conjuncts cs) ≤ length cs
conjuncts_few [] = omega arith
conjuncts_few (c ∷ cs) = elim c.last as (λ b. length (cond b ((c ∷ []) ∷ conjuncts cs) (front c (conjuncts cs))) ≤ suc (length cs)) [ true ↦ omega (arith, conjuncts_few cs) | false ↦ longer (conjuncts cs) (conjuncts_few cs) ]
  where
    longer : (gs : List (List ConstraintRow)) → length gs ≤ length cs → length (front c gs) ≤ suc (length cs)
    longer [] h = omega arith
    longer (g ∷ gs) h = omega arith

span_few : (cs : List ConstraintRow) (s : Span) → length (span_in cs s) ≤ length cs
span_few cs s = omega (arith, length-take s.len (drop s.first cs), length-drop s.first cs)

needs_few : (i : ℕ) (js : List ℕ) → length (needs i js) ≤ 1
needs_few i js = elim (some (eqb i) js) as (λ b. length (cond b [] (put i js ∷ [])) ≤ 1) [ true ↦ omega arith | false ↦ omega arith ]

-- what holds of the stanza of each row holds of each numbered stanza
each-numbered : (P : Package → Type 0) (f : PackageRow → Package) → ((p : PackageRow) → P (f p)) → (k : ℕ) (ps : List PackageRow) → Each (λ i. P i.stanza) (numbered k (each f ps))
each-numbered P f h k [] = tt
each-numbered P f h k (p ∷ ps) = (h p, each-numbered P f h (suc k) ps)

module _ (v : View) where
  rows_few : length (constraints_in v) ≤ 1024
  rows_few = omega (arith, length-take v.asked v.constraints.now, v.constraints_few)

  meeting_few : (cs : List Constraint) → length (meeting (problem_of v) cs) ≤ 256
  meeting_few cs =
      omega (
        arith,
        length-map (keep (satisfies_one cs) (stanzas (problem_of v))) (λ k. k.number),
        keep_few (satisfies_one cs) (stanzas (problem_of v)),
        stanzas-length v,
        length-take v.count v.packages.now,
        v.packages_few,
      )

  list_few : (s : Span) → length (each (constraint_of v.text.now) (span_in (constraints_in v) s)) ≤ 1024
  list_few s = omega (arith, length-map (span_in (constraints_in v) s) (constraint_of v.text.now), span_few (constraints_in v) s, rows_few)

  groups_few : (s : Span) → length (each (each (constraint_of v.text.now)) (conjuncts (span_in (constraints_in v) s))) ≤ 1024
  groups_few s = omega (arith, length-map (conjuncts (span_in (constraints_in v) s)) (each (constraint_of v.text.now)), conjuncts_few (span_in (constraints_in v) s), span_few (constraints_in v) s, rows_few)

  conflict_few : (i : ℕ) (c : Constraint) → length (of_conflict (problem_of v) i c) ≤ 256
  conflict_few i c =
      let t : ℕ → Bool = λ j. not (eqb i j) in
      omega (arith, length-map (keep t (meeting (problem_of v) (c ∷ []))) (not_both i), keep_few t (meeting (problem_of v) (c ∷ [])), meeting_few (c ∷ []))

  remove_few : (c : Constraint) → length (of_remove (problem_of v) c) ≤ 256
  remove_few c = omega (arith, length-map (meeting (problem_of v) (c ∷ [])) (λ j. neg j ∷ []), meeting_few (c ∷ []))

  stanza_few : (i : Numbered) → (length i.stanza.depends ≤ 1024) × (length i.stanza.conflicts ≤ 1024) → length (of_stanza (problem_of v) i) ≤ 263168
  stanza_few i h =
      let n = all_few (λ cs. needs i.number (meeting (problem_of v) cs)) 1 i.stanza.depends (each_since _ (λ cs. needs_few i.number (meeting (problem_of v) cs)) i.stanza.depends) in
      let m = all_few (of_conflict (problem_of v) i.number) 256 i.stanza.conflicts (each_since _ (conflict_few i.number) i.stanza.conflicts) in
      omega (arith, length-append (each_all (λ cs. needs i.number (meeting (problem_of v) cs)) i.stanza.depends) (each_all (of_conflict (problem_of v) i.number) i.stanza.conflicts), n, m, h.0, h.1)

  stanzas_few : length (each_all (of_stanza (problem_of v)) (stanzas (problem_of v))) ≤ 67371008
  stanzas_few =
      let f = package_of v.text.now (constraints_in v) in
      let h = each-numbered (λ p. (length p.depends ≤ 1024) × (length p.conflicts ≤ 1024)) f (λ p. (groups_few p.depends, list_few p.conflicts)) 1 (packages_in v) in
      let n = all_few (of_stanza (problem_of v)) 263168 (stanzas (problem_of v)) (each_weaker (λ i. (length i.stanza.depends ≤ 1024) × (length i.stanza.conflicts ≤ 1024)) (λ i. length (of_stanza (problem_of v) i) ≤ 263168) stanza_few (stanzas (problem_of v)) h) in
      omega (arith, n, stanzas-length v, length-take v.count v.packages.now, v.packages_few)

  pub plan_clauses_few : length (plan_clauses (problem_of v)) < 4294967295
  plan_clauses_few =
      let one = each_all (of_stanza (problem_of v)) (stanzas (problem_of v)) in
      let two = each (of_install (problem_of v)) (problem_of v).install in
      let three = each_all (of_remove (problem_of v)) (problem_of v).remove in
      let n = all_few (of_remove (problem_of v)) 256 (problem_of v).remove (each_since _ remove_few (problem_of v).remove) in
      omega (arith, length-append (one ++ two) three, length-append one two, stanzas_few, length-map (problem_of v).install (of_install (problem_of v)), list_few v.install, n, list_few v.remove)
