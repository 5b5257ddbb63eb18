-- The law of a session asked up to the first reply that ends it.
use Rattle.std.proofs.Common.{◌≡◌, ℕ, zero, suc, Bool, true, false, cond, T, ◌⊎◌, List, [], ◌∷◌, sym, refl, subst, inl, inr, arith}
use Rattle.clauses.specs.ClauseBase.{idle, cleared}
use Rattle.certificate.specs.Reading.{Memory}
use Rattle.certificate.specs.Stream.{Placed, Ending}
use Rattle.verdict.specs.Law.{Good, up_to_empty}
use Rattle.verdict.specs.Onward.{Stops, OnAfter, OnwardLaw}
use Rattle.verdict.specs.Session.{Desk, AskedOf, Asked, Run, desk_on, opens, opening_clauses, opening_variables}
use Rattle.verdict.specs.declared.reply.Reply.{Reply}
use Rattle.verdict.specs.declared.reply.Reply.TheVariants.{Taken, Refused, Nothing}
use Rattle.verdict.proofs.Complete.{Going, asked_going, not_refused}
use Rattle.verdict.proofs.Law.{law, stays_idle}

a_run : (n : ℕ) (k : Memory) (d : Desk) (r : Reply) (d' : Desk) → OnAfter n k d r d' → (rs : List Reply) × Run k d rs d'
a_run zero k d r d' x = pick d.emptied x
  where
    pick : (b : Bool) → cond b ((r ≡ Taken) × (d' ≡ d)) (Stops r × Asked k d r d') → (rs : List Reply) × Run k d rs d'
    pick true x = ([], x.1)
    pick false x = (r ∷ [], (d', (x.1, refl)))
a_run (suc n) k d r d' x =
    let w = a_run n k x.0 r d' x.1.2 in
    (Taken ∷ w.0, (x.0, (x.1.1, w.1)))

pub ends_emptied : (n : ℕ) (k : Memory) (d : Desk) (d' : Desk) → OnAfter n k d Taken d' → T d'.emptied
ends_emptied zero k d d' x = pick d.emptied refl x
  where
    pick : (b : Bool) → d.emptied ≡ b → cond b ((Taken ≡ Taken) × (d' ≡ d)) (Stops Taken × Asked k d Taken d') → T d'.emptied
    pick true e x = subst (λ y. T y.emptied) (sym x.1) (subst T (sym e) tt)
    pick false e x = absurd x.0
ends_emptied (suc n) k d d' x = ends_emptied n k x.0 d' x.1.2

-- a good certificate has no step at which it stops
no_stop : (k : Memory) (d d' : Desk) (ps : List Placed) (e : Ending) (r : Reply) → d.base.trial ≡ idle → Good k d.base ps → Stops r → AskedOf k d ps e r d' → ⊥
no_stop k d d' (p ∷ ps) e Taken i g s x = s
no_stop k d d' (p ∷ ps) e (Refused f at) i g s x = not_refused k d.base p.step f x.0 i g.0
no_stop k d d' (p ∷ ps) e Nothing i g s x = x
no_stop k d d' [] e r i g s x = g

abbrev GoesOn : Memory → Desk → Type 0
GoesOn k d = T d.emptied ⊎ Good k d.base d.source.steps

bounded : (k : Memory) (d : Desk) → GoesOn k d → Going k (suc (up_to_empty d.source.steps)) d
bounded k d (inl e) = inl e
bounded k d (inr g) = inr (g, omega arith)

unbounded : (k : Memory) (n : ℕ) (d : Desk) → Going k n d → GoesOn k d
unbounded k n d (inl e) = inl e
unbounded k n d (inr g) = inr g.0

goes_on : (n : ℕ) (k : Memory) (d : Desk) (r : Reply) (d' : Desk) → d.base.trial ≡ idle → GoesOn k d → OnAfter n k d r d' → r ≡ Taken
goes_on zero k d r d' i g x = pick d.emptied refl g x
  where
    pick : (b : Bool) → d.emptied ≡ b → GoesOn k d → cond b ((r ≡ Taken) × (d' ≡ d)) (Stops r × Asked k d r d') → r ≡ Taken
    pick true e g x = x.0
    pick false e (inl t) x = absurd (subst T e t)
    pick false e (inr g) x = absurd (no_stop k d d' d.source.steps d.source.ending r i g x.0 x.1)
goes_on (suc n) k d r d' i g x =
    let u = up_to_empty d.source.steps in
    let w = asked_going k d x.0 d.source.steps d.source.ending Taken u x.1.1 i (bounded k d g) in
    goes_on n k x.0 r d' w.0 (unbounded k u x.0 w.1) x.1.2

pub onward_law : OnwardLaw
onward_law = record {
  sound = λ q a m source k end p w.
      let run = a_run w.accepted k (desk_on (opens m q a) source) Taken end w.asked in
      let e = ends_emptied w.accepted k (desk_on (opens m q a) source) end w.asked in
      (e, law.sound q a m source k run.0 end p run.1 e);
  complete = λ q a m source k r end good w.
      goes_on w.accepted k (desk_on (opens m q a) source) r end (stays_idle (cleared m (opening_variables q a)) (opening_clauses q a) refl) (inr good) w.asked;
}
