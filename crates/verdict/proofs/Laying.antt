-- The clauses of an opening, added to a base one after the other.
use Rattle.std.proofs.Common.{◌≡◌, ℕ, Bool, true, false, not, ◌&&◌, T, leb, List, [], ◌∷◌, is_err, Ok, Err, Result, sym, refl, ap, ◌∙◌, subst, inl, inr, T_not}
use lib.Dec.{leb-zero}
use Rattle.clauses.specs.Calls.{Clears, Adds}
use Rattle.clauses.specs.ClauseBase.{Meaning, idle, fits, well_formed, cleared}
use Rattle.clauses.specs.declared.fault.BaseFault.{BaseFault}
use Rattle.clauses.specs.declared.fault.BaseFault.TheVariants.{Malformed, NotLive, NoRoom, InTrial}
use Rattle.problem.specs.Cudf.{Problem}
use Rattle.problem.specs.Feeding.{Fed}
use Rattle.problem.specs.declared.sink.Stopped.{Stopped}
use Rattle.text.specs.Lists.{Each}
use Rattle.text.specs.Literals.{Clause}
use Rattle.text.proofs.Members.{and_both}
use Rattle.verdict.specs.Laying.{Took, Turned, Lays}
use Rattle.verdict.specs.Opened.{claim_of, Claims, Opens}
use Rattle.verdict.specs.OpeningCalls.{variables_on, clauses_on, within}
use Rattle.verdict.specs.Session.{Answer, fail, set, added_all, fit_all, opening_variables, opening_clauses, opening_fits}
use Rattle.verdict.specs.declared.outcome.OpenFault.TheVariants.{InTrial as open_in_trial}
use Rattle.verdict.specs.declared.session.Claim.{Claim}
use Rattle.verdict.proofs.Rising.{opening_formed}

and_false : (a b : Bool) → T (not a) → T (not (a && b))
and_false true b t = absurd t
and_false false b t = tt

and_not : (a b : Bool) → T (not b) → T (not (a && b))
and_not true b t = t
and_not false b t = tt

module _ {S : Type 0} (mean : S → Meaning) (name : S → ℕ) where
  abbrev goes : S → Clause → S → Type 0
  goes s c t = Took (mean s) c (mean t) × (name t ≡ name s)

  abbrev stops : S → Clause → S → Type 0
  stops s c t = Turned (mean s) c (mean t) × (name t ≡ name s)

  -- a sink keeps the base that it was lent
  pub same_base : (cs : List Clause) (r : Result (Unit {0}) Stopped) (s t : S) → Fed goes stops cs r s t → name t ≡ name s
  same_base [] (Ok v) s t e = ap name e
  same_base [] (Err f) s t h = absurd h
  same_base (c ∷ cs) (Ok v) s t (u, (g, h)) = same_base cs (Ok v) u t h ∙ g.1
  same_base (c ∷ cs) (Err f) s t (inl h) = h.1
  same_base (c ∷ cs) (Err f) s t (inr (u, (g, h))) = same_base cs (Err f) u t h ∙ g.1

  abbrev Short : Meaning → List Clause → Meaning → Type 0
  Short m cs m' = (Each (λ c. T (well_formed m.variables c)) cs → T (not (fit_all m cs))) × (m'.trial ≡ idle) × (m'.room ≡ m.room)

  took_all : (cs : List Clause) (s t : S) → Fed goes stops cs (Ok tt) s t → T (fit_all (mean s) cs) × (mean t ≡ added_all (mean s) cs)
  took_all [] s t e = (tt, ap mean e)
  took_all (c ∷ cs) s t (u, (((n, a), _), h)) =
      let w = took_all cs u t h in
      (and_both (fits (mean s) c) _ a.2 (subst (λ y. T (fit_all y cs)) a.4 w.0), w.1 ∙ ap (λ y. added_all y cs) a.4)

  turned : (c : Clause) (cs : List Clause) (s t : S) → (mean s).trial ≡ idle → (f : BaseFault) → Adds (mean s) c (Err f) (mean t) → Short (mean s) (c ∷ cs) (mean t)
  turned c cs s t i InTrial a = absurd (a.0 i)
  turned c cs s t i NotLive a = absurd a
  turned c cs s t i Malformed a = ((λ e. absurd (T_not (well_formed (mean s).variables c) a.1 e.0)), ap (λ y. y.trial) a.2 ∙ i, ap (λ y. y.room) a.2)
  turned c cs s t i NoRoom a = ((λ e. and_false (fits (mean s) c) _ a.2), ap (λ y. y.trial) a.3 ∙ i, ap (λ y. y.room) a.3)

  took_some : (cs : List Clause) (s t : S) (f : Stopped) → (mean s).trial ≡ idle → Fed goes stops cs (Err f) s t → Short (mean s) cs (mean t)
  took_some [] s t e i h = absurd h
  took_some (c ∷ cs) s t e i (inl ((f, a), _)) = turned c cs s t i f a
  took_some (c ∷ cs) s t e i (inr (u, (((n, a), _), h))) =
      let w = took_some cs u t e (ap (λ y. y.trial) a.4 ∙ i) h in (
        (λ h. and_not (fits (mean s) c) _ (subst (λ y. T (not (fit_all y cs))) a.4 (w.0 (subst (λ y. Each (λ d. T (well_formed y.variables d)) cs) (sym a.4) h.1)))),
        w.1,
        w.2 ∙ ap (λ y. y.room) a.4,
      )

  -- and over the base as it was before it was cleared
  pub laid : (m : Meaning) (V V' : ℕ) (cs : List Clause) (r : Result (Unit {0}) Stopped) (s t : S) → V' ≡ V → Clears m V' (Ok tt) (mean s) → Fed goes stops cs r s t → Lays m V cs r (mean t)
  laid m V V' cs (Ok u) s t v c h =
      let e = c.2 ∙ ap (cleared m) v in
      let w = took_all cs s t h in
      (and_both (leb V m.room.variables) _ (subst (λ y. T (leb y m.room.variables)) v c.1) (subst (λ y. T (fit_all y cs)) e w.0), w.1 ∙ ap (λ y. added_all y cs) e)
  laid m V V' cs (Err f) s t v c h =
      let e = c.2 ∙ ap (cleared m) v in
      let w = took_some cs s t f (ap (λ y. y.trial) e) h in (
        (λ g. and_not (leb V m.room.variables) _ (subst (λ y. T (not (fit_all y cs))) e (w.0 (subst (λ y. Each (λ d. T (well_formed y.variables d)) cs) (sym e) g)))),
        w.1,
        w.2 ∙ ap (λ y. y.room) e,
      )

-- and one that could not be cleared
pub not_cleared : (m m' : Meaning) (V V' : ℕ) (cs : List Clause) (f : BaseFault) (e : Stopped) → V' ≡ V → m.trial ≡ idle → Clears m V' (Err f) m' → Lays m V cs (Err e) m'
not_cleared m m' V V' cs InTrial e v i c = absurd (c.0 i)
not_cleared m m' V V' cs NotLive e v i c = absurd c
not_cleared m m' V V' cs Malformed e v i c = absurd c
not_cleared m m' V V' cs NoRoom e v i c =
    ((λ g. and_false (leb V m.room.variables) _ (subst (λ y. T (not (leb y m.room.variables))) v c.1)), ap (λ y. y.trial) c.2 ∙ i, ap (λ y. y.room) c.2)

-- what a session opens with, by its answer
variables_on_claim : (q : Problem) (a : Answer) → variables_on q (claim_of q a) ≡ opening_variables q a
variables_on_claim q fail = refl
variables_on_claim q (set s) = refl

clauses_on_claim : (q : Problem) (a : Answer) → clauses_on q (claim_of q a) ≡ opening_clauses q a
clauses_on_claim q fail = refl
clauses_on_claim q (set s) = refl

module _ (m m₁ m₂ : Meaning) (q : Problem) (a : Answer) (k : Claim) (c : Clears m 0 (Ok tt) m₁) (claims : Claims q a (Ok k)) where
  lays_on : (r : Result (Unit {0}) Stopped) → Lays m₁ (variables_on q (within k)) (clauses_on q (within k)) r m₂ → Lays (cleared m 0) (opening_variables q a) (opening_clauses q a) r m₂
  lays_on r h =
      let w : within k ≡ claim_of q a = ap within claims.1 ∙ claims.2 in
      subst (λ y. Lays (cleared m 0) (opening_variables q a) y r m₂) (clauses_on_claim q a)
      (subst (λ y. Lays (cleared m 0) y (clauses_on q (claim_of q a)) r m₂) (variables_on_claim q a)
      (subst (λ y. Lays (cleared m 0) (variables_on q y) (clauses_on q y) r m₂) w
      (subst (λ y. Lays y (variables_on q (within k)) (clauses_on q (within k)) r m₂) c.2 h)))

  pub opened_on : Lays m₁ (variables_on q (within k)) (clauses_on q (within k)) (Ok tt) m₂ → Opens m q a (Ok (record { claim = k; last = 0; emptied = false })) m₂
  opened_on h = let w = lays_on (Ok tt) h in (c.0, claims.0, w.0, w.1, ap (λ y. record { claim = y; last = 0; emptied = false }) claims.1)

  pub not_fitting : (r : Result (Unit {0}) Stopped) → true ≡ is_err r → Lays m₁ (variables_on q (within k)) (clauses_on q (within k)) r m₂ → T (not (opening_fits m q a)) × (m₂.trial ≡ idle) × (m₂.room ≡ m.room)
  not_fitting (Ok u) e h = absurd (subst T e tt)
  not_fitting (Err f) e h = let w = lays_on (Err f) h in (w.0 (opening_formed q a), w.1, w.2)

-- the clear that is made first, and the one that a refused opening ends with
pub first_cleared : (m m₁ : Meaning) (q : Problem) (a : Answer) (f : BaseFault) → Clears m 0 (Err f) m₁ → Opens m q a (Err open_in_trial) m₁
first_cleared m m₁ q a InTrial c = c
first_cleared m m₁ q a NotLive c = absurd c
first_cleared m m₁ q a Malformed c = absurd c
first_cleared m m₁ q a NoRoom c = absurd (T_not (leb 0 m.room.variables) c.1 (subst T (sym (leb-zero m.room.variables)) tt))

pub cleared_again : (m m₂ m₃ : Meaning) (r : Result (Unit {0}) BaseFault) → m₂.trial ≡ idle → m₂.room ≡ m.room → Clears m₂ 0 r m₃ → m₃ ≡ cleared m 0
cleared_again m m₂ m₃ (Ok u) i e c = c.2 ∙ ap {B = Meaning} (λ y. record { variables = 0; live = []; next = 1; room = y; trial = idle }) e
cleared_again m m₂ m₃ (Err InTrial) i e c = absurd (c.0 i)
cleared_again m m₂ m₃ (Err NotLive) i e c = absurd c
cleared_again m m₂ m₃ (Err Malformed) i e c = absurd c
cleared_again m m₂ m₃ (Err NoRoom) i e c = absurd (T_not (leb 0 m₂.room.variables) c.1 (subst T (sym (leb-zero m₂.room.variables)) tt))
