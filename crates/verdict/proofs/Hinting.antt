-- What hint after hint says of a trial.
use Rattle.std.proofs.Common.{◌≡◌, ℕ, suc, Bool, true, false, not, T, eqb, ◌↔◌, List, [], ◌∷◌, length, ℤ, Ok, Result, sym, ap, ◌∙◌, subst, inl, inr, arith, eqb→eq, T_not}
use mathlib.Core.Logic.Iff
use Rattle.text.specs.Lists.{Each}
use Rattle.text.specs.Literals.{Clause}
use Rattle.clauses.specs.Propagation.{Held, Values, value, is_false, Chain, HeldAt, set_true, all_false, Unit'}
use Rattle.clauses.specs.ClauseBase.{Meaning, Trial, idle, running, answered, is_live, with_trial}
use Rattle.clauses.specs.declared.fault.BaseFault.{BaseFault}
use Rattle.clauses.specs.declared.fault.Hinted.{Hinted}
use Rattle.clauses.specs.declared.fault.Hinted.TheVariants.{Conflict, Useless, Unit as OneLeft}
use Rattle.verdict.specs.Session.{DeadHint}
use Rattle.clauses.specs.Calls.{Hints, Says}
use Rattle.verdict.specs.Calls.{Follow}
use Rattle.text.proofs.Members.{each_from_every}
use Rattle.verdict.proofs.Complete.{held_live, held_once, unit_once, each_middle, not_false_and_unset}

-- a clause that is all false has no literal unset
false_unit : (f : Values) (c : Clause) (l : ℤ) → T (all_false f c) → Unit' f c l → ⊥
false_unit f c l t u =
    not_false_and_unset (value f l) (each_middle (λ x. T (is_false (value f x))) u.before l u.after (subst (Each (λ x. T (is_false (value f x)))) u.parts (each_from_every (λ x. is_false (value f x)) c t))) u.unset

module _ (live : List Held) (f : Values) (h : ℕ) (c : Clause) (held : HeldAt live h c) where
  same_unit : (c' : Clause) (l : ℤ) → HeldAt live h c' → Unit' f c' l → Unit' f c l
  same_unit c' l k u = subst (λ x. Unit' f x l) (held_once live h c' c k held) u

  same_false : (c' : Clause) → HeldAt live h c' → T (all_false f c') → T (all_false f c)
  same_false c' k t = subst (λ x. T (all_false f x)) (held_once live h c' c k held) t

  not_absent : T (not (is_live live h)) → ⊥
  not_absent d = T_not (is_live live h) d (held_live live h c held)

  -- a unit says no more than that the rest goes on from its literal
  unit_chain : (l : ℤ) → Unit' f c l → (r : List ℕ) → Chain live (set_true f l) r ↔ Chain live f (h ∷ r)
  unit_chain l u [] = ((λ k. absurd k), λ k. false_unit f c l (same_false k.0 k.1.0 k.1.1) u)
  unit_chain l u (n ∷ r) = (
    (λ k. (c, l, (held, u, k))),
    λ k. subst (λ x. Chain live (set_true f x) (n ∷ r)) (unit_once f c l k.1 u (same_unit k.0 k.1 k.2.0 k.2.1)) k.2.2,
  )

  unit_dead : (l : ℤ) → Unit' f c l → (r : List ℕ) → DeadHint live (set_true f l) r ↔ DeadHint live f (h ∷ r)
  unit_dead l u r = ((λ k. inr (c, l, (held, u, k))), back)
    where
      back : DeadHint live f (h ∷ r) → DeadHint live (set_true f l) r
      back (inl d) = absurd (not_absent d)
      back (inr k) = subst (λ x. DeadHint live (set_true f x) r) (unit_once f c l k.1 u (same_unit k.0 k.1 k.2.0 k.2.1)) k.2.2

  -- without a unit no hint after it counts
  stops_dead : ((l : ℤ) → Unit' f c l → ⊥) → (r : List ℕ) → DeadHint live f (h ∷ r) → ⊥
  stops_dead n r (inl d) = not_absent d
  stops_dead n r (inr k) = n k.1 (same_unit k.0 k.1 k.2.0 k.2.1)

  stops_chain : ((l : ℤ) → Unit' f c l → ⊥) → (n : ℕ) (r : List ℕ) → Chain live f (h ∷ n ∷ r) → ⊥
  stops_chain un n r k = un k.1 (same_unit k.0 k.1 k.2.0 k.2.1)

  useless_chain : (T (all_false f c) → ⊥) → ((l : ℤ) → Unit' f c l → ⊥) → (r : List ℕ) → Chain live f (h ∷ r) → ⊥
  useless_chain a un [] k = a (same_false k.0 k.1.0 k.1.1)
  useless_chain a un (n ∷ r) k = stops_chain un n r k

-- after some hints that were all units: the rest says of the present values what all of them say of the first
abbrev pub AlongOn : List Held → Trial → List ℕ → Trial → List ℕ → Type 0
AlongOn live (running f) hs (running f') r = (Chain live f' r ↔ Chain live f hs) × (DeadHint live f' r ↔ DeadHint live f hs)
AlongOn live (running f) hs idle r = ⊥
AlongOn live (running f) hs answered r = ⊥
AlongOn live idle hs t r = Unit {0}
AlongOn live answered hs t r = Unit {0}

abbrev pub Along : Meaning → List ℕ → Meaning → List ℕ → Type 0
Along m hs m' r = (m' ≡ with_trial m m'.trial) × AlongOn m.live m.trial hs m'.trial r

abbrev pub Shows : Meaning → List ℕ → Result Bool BaseFault → Meaning → Type 0
Shows m hs b m' = Follow m.live m.trial hs b × (m' ≡ with_trial m m'.trial)

same_live : (m m' : Meaning) → m' ≡ with_trial m m'.trial → m'.live ≡ m.live
same_live m m' e = ap (λ y. y.live) e

both : (m m' m'' : Meaning) → m' ≡ with_trial m m'.trial → m'' ≡ with_trial m' m''.trial → m'' ≡ with_trial m m''.trial
both m m' m'' e e' = e' ∙ ap (λ y. with_trial y m''.trial) e

module _ (live : List Held) (hs : List ℕ) (h : ℕ) (r : List ℕ) where
  next_on : (t t' t'' : Trial) → AlongOn live t hs t' (h ∷ r) → Says t' live h OneLeft t'' → AlongOn live t hs t'' r
  next_on idle t' t'' a s = tt
  next_on answered t' t'' a s = tt
  next_on (running f) idle t'' a s = absurd a
  next_on (running f) answered t'' a s = absurd a
  next_on (running f) (running f') t'' a s =
      subst (λ y. AlongOn live (running f) hs y r) (sym s.2.2)
      (Iff.trans (unit_chain live f' h s.0 s.2.0 s.1 s.2.1 r) a.0, Iff.trans (unit_dead live f' h s.0 s.2.0 s.1 s.2.1 r) a.1)

  useless_on : (t t' t'' : Trial) → AlongOn live t hs t' (h ∷ r) → Says t' live h Useless t'' → Follow live t hs (Ok false)
  useless_on idle t' t'' a s = tt
  useless_on answered t' t'' a s = tt
  useless_on (running f) idle t'' a s = absurd a
  useless_on (running f) answered t'' a s = absurd a
  useless_on (running f) (running f') t'' a s =
      ((λ d. stops_dead live f' h s.0 s.1.0 s.1.2 r (a.1.1 d)), λ k. useless_chain live f' h s.0 s.1.0 s.1.1 s.1.2 r (a.0.1 k))

  conflict_on : (t t' t'' : Trial) (b : Bool) → b ≡ eqb (length r) 0 → AlongOn live t hs t' (h ∷ r) → Says t' live h Conflict t'' → Follow live t hs (Ok b)
  conflict_on idle t' t'' b e a s = tt
  conflict_on answered t' t'' b e a s = tt
  conflict_on (running f) idle t'' b e a s = absurd a
  conflict_on (running f) answered t'' b e a s = absurd a
  conflict_on (running f) (running f') t'' b e a s = at r b e a.0 a.1
    where
      none' : (l : ℤ) → Unit' f' s.0 l → ⊥
      none' l u = false_unit f' s.0 l s.1.1 u

      at : (r : List ℕ) (b : Bool) → b ≡ eqb (length r) 0 → Chain live f' (h ∷ r) ↔ Chain live f hs → DeadHint live f' (h ∷ r) ↔ DeadHint live f hs → Follow live (running f) hs (Ok b)
      at [] true e x y = x.0 (s.0, (s.1.0, s.1.1))
      at [] false e x y = absurd (subst (λ z. T (not z)) e tt)
      at (n ∷ r) true e x y = let z : suc (length r) ≡ 0 = eqb→eq (suc (length r)) 0 (subst T e tt) in absurd (omega arith)
      at (n ∷ r) false e x y = ((λ d. stops_dead live f' h s.0 s.1.0 none' (n ∷ r) (y.1 d)), λ k. stops_chain live f' h s.0 s.1.0 none' n r (x.1 k))

-- the same over whole meanings
module _ (m m' m'' : Meaning) (hs : List ℕ) (h : ℕ) (r : List ℕ) (along : Along m hs m' (h ∷ r)) where
  said : (a : Hinted) → Says m'.trial m'.live h a m''.trial → Says m'.trial m.live h a m''.trial
  said a s = subst (λ y. Says m'.trial y h a m''.trial) (same_live m m' along.0) s

  pub along_next : Hints m' h (Ok OneLeft) m'' → Along m hs m'' r
  along_next s = (both m m' m'' along.0 s.1, next_on m.live hs h r m.trial m'.trial m''.trial along.1 (said OneLeft s.0))

  pub along_useless : Hints m' h (Ok Useless) m'' → Shows m hs (Ok false) m''
  along_useless s = (useless_on m.live hs h r m.trial m'.trial m''.trial along.1 (said Useless s.0), both m m' m'' along.0 s.1)

  pub along_conflict : (b : Bool) → b ≡ eqb (length r) 0 → Hints m' h (Ok Conflict) m'' → Shows m hs (Ok b) m''
  along_conflict b e s = (conflict_on m.live hs h r m.trial m'.trial m''.trial b e along.1 (said Conflict s.0), both m m' m'' along.0 s.1)
