-- A whole run up to the first refusal, by the law.
use Rattle.std.proofs.Common.{◌≡◌, ℕ, zero, suc, Bool, true, false, cond, T, List, [], ◌∷◌, Ok, Err, Result, sym, refl, ap, ◌∙◌, subst}
use Rattle.problem.specs.Cudf.{Problem}
use Rattle.clauses.specs.ClauseBase.{Meaning}
use Rattle.certificate.specs.Reading.{Memory}
use Rattle.certificate.specs.Stream.{Placed, Ending, finished, broken, Stream}
use Rattle.verdict.specs.Finding.{Asked as WasAsked, in_run, ending, Finds, FoundTrue, Found}
use Rattle.verdict.specs.Law.{Means}
use Rattle.verdict.specs.Onward.{Stops, OnAfter, Onward}
use Rattle.verdict.specs.Opened.{desk_of, Opens, verdict_for}
use Rattle.verdict.specs.Session.{Desk, AskedOf, Asked, Answer, opens}
use Rattle.verdict.specs.declared.outcome.RunFault.{RunFault}
use Rattle.verdict.specs.declared.outcome.RunFault.TheVariants.{Session, Step}
use Rattle.verdict.specs.declared.outcome.SessionFault.TheVariants.{Opening, Unclosed}
use Rattle.verdict.specs.declared.outcome.Verdict.{Verdict}
use Rattle.verdict.specs.declared.reply.Reply.{Reply}
use Rattle.verdict.specs.declared.reply.Reply.TheVariants.{Taken, Refused, Nothing}
use Rattle.verdict.specs.declared.session.Open.{Open}
use Rattle.verdict.proofs.Concluding.{is_plan, same_verdict, not_opened}
use Rattle.verdict.proofs.OnwardLaw.{onward_law, ends_emptied}

-- where no step is left, the empty clause is not there
still_asked : (k : Memory) (d d' : Desk) (ps : List Placed) (e : Ending) → AskedOf k d ps e Nothing d' → d' ≡ d
still_asked k d d' (p ∷ ps) e x = absurd x
still_asked k d d' [] (broken p) x = x.1
still_asked k d d' [] finished x = x.1

abbrev is_nothing : Reply → Type 0
is_nothing Taken = ⊥
is_nothing (Refused f p) = ⊥
is_nothing Nothing = Unit {0}

ends_open : (n : ℕ) (k : Memory) (d d' : Desk) → OnAfter n k d Nothing d' → d'.emptied ≡ false
ends_open zero k d d' x = pick d.emptied refl x
  where
    pick : (b : Bool) → d.emptied ≡ b → cond b ((Nothing ≡ Taken) × (d' ≡ d)) (Stops Nothing × Asked k d Nothing d') → d'.emptied ≡ false
    pick true e x = absurd (subst is_nothing x.0 tt)
    pick false e x = ap (λ y. y.emptied) (still_asked k d d' d.source.steps d.source.ending x.1) ∙ e
ends_open (suc n) k d d' x = ends_open n k x.0 d' x.1.2

module _ (q : Problem) (a : Answer) (k : Memory) (m m₁ m' : Meaning) (s s' : Stream) (o o' : Open) (opened : Opens m q a (Ok o) m₁) (kept : o'.claim ≡ o.claim) where
  was_asked : (r : Reply) → Onward k (desk_of o m₁ s) r (desk_of o' m' s') → WasAsked q a k m s r (desk_of o' m' s') m' s'
  was_asked r w = record {
    untried = opened.0;
    plan = opened.1;
    fits = opened.2;
    onward = subst (λ y. Onward k (desk_of y (opens m q a) s) r (desk_of o' m' s')) opened.4 (subst (λ y. Onward k (desk_of o y s) r (desk_of o' m' s')) opened.3 w);
    base = refl;
    source = refl;
  }

  pub finds : (r : Reply) (v : Result Verdict RunFault) → Onward k (desk_of o m₁ s) r (desk_of o' m' s') → v ≡ ending o' r → Finds q a k m s v m' s'
  finds r v w e = subst (λ y. Finds q a k m s y m' s') (sym e) (found_at r w)
    where
      emptied : (b : Bool) → T b → in_run (cond b (Ok (verdict_for o'.claim)) (Err (Unclosed (suc o'.last)))) ≡ Ok (verdict_for o'.claim)
      emptied true t = refl
      emptied false t = absurd t

      still_open : (b : Bool) → b ≡ false → in_run (cond b (Ok (verdict_for o'.claim)) (Err (Unclosed (suc o'.last)))) ≡ Err (Session (Unclosed (suc o'.last)))
      still_open true t = absurd (subst T t tt)
      still_open false t = refl

      found_at : (r : Reply) → Onward k (desk_of o m₁ s) r (desk_of o' m' s') → Finds q a k m s (ending o' r) m' s'
      found_at (Refused f p) w = (desk_of o' m' s', was_asked (Refused f p) w)
      found_at Taken w =
          subst (λ y. Finds q a k m s y m' s') (sym (emptied o'.emptied (ends_emptied w.accepted k (desk_of o m₁ s) (desk_of o' m' s') w.asked)))
          (desk_of o' m' s', (was_asked Taken w, ap verdict_for (kept ∙ ap (λ y. y.claim) opened.4) ∙ same_verdict q a))
      found_at Nothing w =
          subst (λ y. Finds q a k m s y m' s') (sym (still_open o'.emptied (ends_open w.accepted k (desk_of o m₁ s) (desk_of o' m' s') w.asked)))
          (desk_of o' m' s', (was_asked Nothing w, refl))

module _ (q : Problem) (a : Answer) (k : Memory) (m m' : Meaning) (s s' : Stream) where
  pub found_true : (v : Result Verdict RunFault) → Finds q a k m s v m' s' → FoundTrue q a v
  found_true (Ok v) f = subst (Means q a) (sym f.1.1) (onward_law.sound q a m s k f.0 (is_plan q a f.1.0.plan) f.1.0.onward).1
  found_true (Err e) f = tt

  pub found : (v : Result Verdict RunFault) → Finds q a k m s v m' s' → Found q a k m s v
  found (Ok v) f i p t good = ap Ok f.1.1
  found (Err (Step e n)) f i p t good = absurd (subst Stops (onward_law.complete q a m s k (Refused e n) f.0 good f.1.onward) tt)
  found (Err (Session (Unclosed n))) f i p t good = absurd (subst Stops (onward_law.complete q a m s k Nothing f.0 good f.1.0.onward) tt)
  found (Err (Session (Opening e))) f i p t good = absurd (not_opened q a m m' e f.0 i p t)
