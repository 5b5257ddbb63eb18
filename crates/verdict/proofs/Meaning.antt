-- A printed line is true, and a good certificate has its line.
use Rattle.std.proofs.Common.{◌≡◌, ℕ, T, List, [], ◌∷◌, Some, None, Ok, Err, Option, Result, sym, refl, ap, ◌∙◌, subst}
use Rattle.certificate.specs.Form.{certificate}
use Rattle.clauses.specs.ClauseBase.{Meaning, idle}
use Rattle.problem.proofs.Agreement.{plans_agree}
use Rattle.problem.specs.Answers.{Answered, failed, given, read_answer}
use Rattle.problem.specs.Cudf.{Problem}
use Rattle.problem.specs.PlanClauses.{plan_clauses, first_false}
use Rattle.problem.specs.Reading.{read_problem}
use Rattle.problem.specs.Sets.{set_of}
use Rattle.problem.specs.declared.fault.AnswerFault.{AnswerFault}
use Rattle.problem.specs.declared.fault.ProblemFault.{ProblemFault}
use Rattle.verdict.specs.Finding.{FoundTrue}
use Rattle.verdict.specs.Law.{Good, verdict_of}
use Rattle.verdict.specs.Session.{set, IsPlanOrFail, opens, opening_fits}
use Rattle.verdict.specs.Verdicts.{Rooms, memory_in, lengths_ok, answer_in, line_for, of_run, InSession, OnPlan, OnAnswer, OnProblem, OnFiles, line_of, Comes, Means, Completes}
use Rattle.verdict.specs.declared.fault.VerdictFault.{VerdictFault}
use Rattle.verdict.specs.declared.line.Line.{Line}
use Rattle.verdict.specs.declared.outcome.RunFault.{RunFault}
use Rattle.verdict.specs.declared.outcome.Verdict.{Verdict}
use Rattle.verdict.specs.declared.outcome.Verdict.TheVariants.{Optimal as best, Impossible as none}
use Rattle.verdict.proofs.Finding.{found_true, found}

module _ (k : Rooms) (p a c : List ℕ) (m m' : Meaning) (q : Problem) (r : read_problem k.packages k.constraints p ≡ Ok q) where
  verdict_means : (x : Answered) → read_answer q.packages k.table a ≡ Ok x → (v : Result Verdict RunFault) → FoundTrue q (answer_in x) v → Means k p a (line_of (of_run v))
  verdict_means x w (Ok (best n)) t = (q, x, (r, w, t))
  verdict_means x w (Ok none) t = (q, x, (r, w, t))
  verdict_means x w (Err f) t = tt

  session_means : (x : Answered) → read_answer q.packages k.table a ≡ Ok x → (j : Result Line VerdictFault) → InSession (memory_in k) q (answer_in x) c m j m' → Means k p a (line_of j)
  session_means x w j s = subst (λ y. Means k p a (line_of y)) (sym s.2.1) (verdict_means x w s.0 (found_true q (answer_in x) (memory_in k) m m' (certificate c) s.1 s.0 s.2.0))

  plan_means : (t : List _) → read_answer q.packages k.table a ≡ Ok (given t) → (j : Result Line VerdictFault) (o : Option ℕ) → first_false (set_of t) (plan_clauses q) ≡ o → (d : List ℕ) → c ≡ d → OnPlan (memory_in k) q (set_of t) d o m j m' → Means k p a (line_of j)
  plan_means t w j (Some n) f d e h = subst (λ y. Means k p a (line_of y)) (sym h.0) tt
  plan_means t w j None f [] e h = subst (λ y. Means k p a (line_of y)) (sym h.0) (q, given t, (r, w, ((plans_agree.none q (set_of t)).0 f, refl)))
  plan_means t w j None f (b ∷ bs) e h = session_means (given t) w j (subst (λ y. InSession (memory_in k) q (set (set_of t)) y m j m') (sym e) h)

  answer_means : (o : Result Answered AnswerFault) → read_answer q.packages k.table a ≡ o → (j : Result Line VerdictFault) → OnAnswer (memory_in k) q c o m j m' → Means k p a (line_of j)
  answer_means (Err f) w j h = subst (λ y. Means k p a (line_of y)) (sym h.0) tt
  answer_means (Ok failed) w j h = session_means failed w j h
  answer_means (Ok (given t)) w j h = plan_means t w j (first_false (set_of t) (plan_clauses q)) refl c refl h

  session_completes : (x : Answered) (j : Result Line VerdictFault) → InSession (memory_in k) q (answer_in x) c m j m' →
      m.trial ≡ idle → IsPlanOrFail q (answer_in x) → T (opening_fits m q (answer_in x)) → Good (memory_in k) (opens m q (answer_in x)) (certificate c).steps → line_of j ≡ line_for (verdict_of q (answer_in x))
  session_completes x j s i e f g = ap line_of (s.2.1 ∙ ap of_run (found q (answer_in x) (memory_in k) m m' (certificate c) s.1 s.0 s.2.0 i e f g))

  plan_completes : (t : List _) (j : Result Line VerdictFault) (o : Option ℕ) → first_false (set_of t) (plan_clauses q) ≡ o → (d : List ℕ) → c ≡ d → OnPlan (memory_in k) q (set_of t) d o m j m' →
      m.trial ≡ idle → IsPlanOrFail q (set (set_of t)) → T (opening_fits m q (set (set_of t))) → Good (memory_in k) (opens m q (set (set_of t))) (certificate c).steps → line_of j ≡ line_for (verdict_of q (set (set_of t)))
  plan_completes t j (Some n) f d e h i l fit g = absurd (subst there (sym ((plans_agree.none q (set_of t)).1 l) ∙ f) tt)
    where
      there : Option ℕ → Type 0
      there None = Unit {0}
      there (Some x) = ⊥
  plan_completes t j None f [] e h i l fit g = absurd (subst (λ y. Good (memory_in k) (opens m q (set (set_of t))) (certificate y).steps) e g)
  plan_completes t j None f (b ∷ bs) e h i l fit g = session_completes (given t) j (subst (λ y. InSession (memory_in k) q (set (set_of t)) y m j m') (sym e) h) i l fit g

  answer_completes : (x : Answered) (j : Result Line VerdictFault) → OnAnswer (memory_in k) q c (Ok x) m j m' →
      m.trial ≡ idle → IsPlanOrFail q (answer_in x) → T (opening_fits m q (answer_in x)) → Good (memory_in k) (opens m q (answer_in x)) (certificate c).steps → line_of j ≡ line_for (verdict_of q (answer_in x))
  answer_completes failed j h i l fit g = session_completes failed j h i l fit g
  answer_completes (given t) j h i l fit g = plan_completes t j (first_false (set_of t) (plan_clauses q)) refl c refl h i l fit g

module _ (k : Rooms) (p a c : List ℕ) (m m' : Meaning) where
  problem_means : (o : Result Problem ProblemFault) → read_problem k.packages k.constraints p ≡ o → (j : Result Line VerdictFault) → OnProblem k a c o m j m' → Means k p a (line_of j)
  problem_means (Err f) r j h = subst (λ y. Means k p a (line_of y)) (sym h.0) tt
  problem_means (Ok q) r j h = answer_means k p a c m m' q r (read_answer q.packages k.table a) refl j h

  files_means : (o : Result (Unit {0}) VerdictFault) (j : Result Line VerdictFault) → OnFiles k p a c o m j m' → Means k p a (line_of j)
  files_means (Err f) j h = subst (λ y. Means k p a (line_of y)) (sym h.0) tt
  files_means (Ok u) j h = problem_means (read_problem k.packages k.constraints p) refl j h

  pub means : (l : Line) → Comes k p a c m l m' → Means k p a l
  means l (j, (h, e)) = subst (Means k p a) (sym e) (files_means (lengths_ok p a c) j h)

  pub completes : (l : Line) → Comes k p a c m l m' → Completes k p a c m l
  completes l (j, (h, e)) q x z r w i f fit g =
      let y = subst (λ y. OnFiles k p a c y m j m') z h in
      let u = subst (λ y. OnProblem k a c y m j m') r y in
      e ∙ answer_completes k p a c m m' q r x j (subst (λ y. OnAnswer (memory_in k) q c y m j m') w u) i f fit g
