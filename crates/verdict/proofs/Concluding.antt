-- A session from its opening to its verdict.
use Rattle.std.proofs.Common.{◌≡◌, ℕ, suc, ◌≤◌, Bool, true, false, cond, not, T, List, length, Some, None, Ok, Err, Option, Result, sym, refl, ap, ◌∙◌, subst, T_not}
use Rattle.verdict.specs.declared.session.Open.{Open}
use Rattle.verdict.specs.declared.outcome.OpenFault.{OpenFault}
use Rattle.verdict.specs.declared.outcome.OpenFault.TheVariants.{NotPlan, NoRoom, InTrial}
use Rattle.verdict.specs.declared.outcome.SessionFault.{SessionFault}
use Rattle.verdict.specs.declared.outcome.SessionFault.TheVariants.{Opening, Unclosed}
use Rattle.verdict.specs.declared.reply.Reply.{Reply}
use Rattle.verdict.specs.declared.outcome.Verdict.{Verdict}
use Rattle.problem.specs.Cudf.{Problem}
use Rattle.clauses.specs.ClauseBase.{Meaning, idle}
use Rattle.certificate.specs.Stream.{Stream}
use Rattle.certificate.specs.Reading.{Memory}
use Rattle.verdict.specs.Session.{Run, Answer, fail, set, opens, opening_fits, desk_on, IsPlanOrFail}
use Rattle.verdict.specs.Law.{Means, verdict_of, up_to_empty}
use Rattle.verdict.specs.Opened.{desk_of, plan_fault, claim_of, verdict_for, closing, Opens, OnlyRefused, Concludes, TrueVerdict, Complete}
use Rattle.problem.proofs.Agreement.{plans_agree}
use Rattle.verdict.proofs.Law.{law}

pub is_plan : (q : Problem) (a : Answer) → plan_fault q a ≡ None → IsPlanOrFail q a
is_plan q fail e = tt
is_plan q (set s) e = (plans_agree.none q s).0 e

pub no_fault : (q : Problem) (a : Answer) → IsPlanOrFail q a → plan_fault q a ≡ None
no_fault q fail p = refl
no_fault q (set s) p = (plans_agree.none q s).1 p

pub same_verdict : (q : Problem) (a : Answer) → verdict_for (claim_of q a) ≡ verdict_of q a
same_verdict q fail = refl
same_verdict q (set s) = refl

pub only_refused : (q : Problem) (a : Answer) (m m' : Meaning) (r : Result Open OpenFault) → Opens m q a r m' → OnlyRefused m q a r
only_refused q a m m' (Ok o) h = tt
only_refused q a m m' (Err InTrial) h = λ i p. absurd (h.0 i)
only_refused q a m m' (Err (NotPlan n)) h = λ i p. absurd (subst there (sym (no_fault q a p) ∙ h.1) tt)
  where
    there : Option ℕ → Type 0
    there None = Unit {0}
    there (Some x) = ⊥
only_refused q a m m' (Err NoRoom) h = λ i p. h.2

-- a plan, or no set at all, opens where there is room and no trial
pub not_opened : (q : Problem) (a : Answer) (m m' : Meaning) (f : OpenFault) → Opens m q a (Err f) m' → m.trial ≡ idle → IsPlanOrFail q a → T (opening_fits m q a) → ⊥
not_opened q a m m' f o i p t = T_not (opening_fits m q a) (only_refused q a m m' (Err f) o i p) t

module _ (q : Problem) (a : Answer) (k : Memory) (m m₁ m' : Meaning) (s s' : Stream) (o o' : Open) (rs : List Reply)
    (opened : Opens m q a (Ok o) m₁) (ran : Run k (desk_of o m₁ s) rs (desk_of o' m' s')) where
  run : Run k (desk_on (opens m q a) s) rs (desk_of o' m' s')
  run =
      subst (λ y. Run k (desk_of y (opens m q a) s) rs (desk_of o' m' s')) opened.4
      (subst (λ y. Run k (desk_of o y s) rs (desk_of o' m' s')) opened.3 ran)

  pub concludes : (rs₀ : List Reply) (r : Result Verdict SessionFault) → o'.claim ≡ o.claim → r ≡ closing o' → Concludes q a k m s rs₀ r rs m' s'
  concludes rs₀ r kept e = subst (λ y. Concludes q a k m s rs₀ y rs m' s') (sym e) (pick o'.emptied refl)
    where
      pick : (b : Bool) → o'.emptied ≡ b → Concludes q a k m s rs₀ (cond b (Ok (verdict_for o'.claim)) (Err (Unclosed (suc o'.last)))) rs m' s'
      pick true t = (desk_of o' m' s', (opened.0, opened.1, opened.2, run, refl, refl, subst T (sym t) tt, ap verdict_for (kept ∙ ap (λ y. y.claim) opened.4) ∙ same_verdict q a))
      pick false t = (desk_of o' m' s', (opened.0, opened.1, opened.2, run, refl, refl, subst (λ y. T (not y)) (sym t) tt, refl))

-- what a whole run comes to, by the law
module _ (q : Problem) (a : Answer) (k : Memory) (m m' : Meaning) (s s' : Stream) (rs rs' : List Reply) where
  pub verdict_true : (r : Result Verdict SessionFault) → Concludes q a k m s rs r rs' m' s' → TrueVerdict q a r
  verdict_true (Ok v) c = subst (Means q a) (sym c.1.7) (law.sound q a m s k rs' c.0 (is_plan q a c.1.1) c.1.3 c.1.6)
  verdict_true (Err f) c = tt

  pub complete : (n : ℕ) → length rs' ≡ n → (r : Result Verdict SessionFault) → Concludes q a k m s rs r rs' m' s' → Complete q a k m s n r
  complete n e (Ok v) c i p t good within = ap Ok c.1.7
  complete n e (Err (Unclosed z)) c i p t good within =
      absurd (T_not c.0.emptied c.1.6 (law.complete q a m s k rs' c.0 good (subst (λ y. up_to_empty s.steps ≤ y) (sym e) within) c.1.3))
  complete n e (Err (Opening f)) c i p t good within = absurd (not_opened q a m m' f c.0 i p t)
