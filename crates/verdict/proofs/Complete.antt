-- A good certificate, asked up to its first empty clause, is never refused on the way.
use Rattle.std.proofs.Common.{◌≡◌, ℕ, suc, ◌≤◌, Bool, true, false, cond, ◌||◌, T, eqb, ◌⊎◌, List, [], ◌∷◌, ◌++◌, length, ℤ, Some, None, Option, sym, refl, ◌∙◌, subst, inl, inr, arith, T_not}
use Rattle.text.specs.Lists.{Each}
use Rattle.text.specs.Literals.{Clause}
use Rattle.clauses.specs.Propagation.{Held, Values, value, is_unset, is_false, all_false, set_true, Unit', HeldAt, Chain, denied}
use Rattle.clauses.specs.ClauseBase.{Meaning, idle, is_live}
use Rattle.certificate.specs.Stream.{Step, add, delete, Placed, Ending, finished, broken}
use Rattle.verdict.specs.declared.reply.StepFault.{StepFault}
use Rattle.verdict.specs.declared.reply.StepFault.TheVariants.{Form, Malformed, NotLive, NotShown, TooMany, NoRoom, InTrial}
use Rattle.verdict.specs.declared.reply.Reply.{Reply}
use Rattle.verdict.specs.declared.reply.Reply.TheVariants.{Taken, Nothing, Refused as Turned}
use Rattle.certificate.specs.Reading.{Memory, in_memory}
use Rattle.verdict.specs.Session.{Desk, formed, DeadHint, Dead, Shown, has_room, after, Refused, Fine, is_empty_addition, advanced, Judged, AskedOf, Run}
use Rattle.verdict.specs.Law.{Good, up_to_empty}
use Rattle.text.proofs.Members.{or_left, or_right, each_append, each_weaker, each_from_every}

pub held_live : (hs : List Held) (n : ℕ) (c : Clause) → HeldAt hs n c → T (is_live hs n)
held_live [] n c h = h
held_live (h ∷ hs) n c at = (elim (eqb h.number n) as (λ b. cond b (h.literals ≡ c) (HeldAt hs n c) → T (b || is_live hs n)) [ true ↦ λ _. tt | false ↦ held_live hs n c ]) at

-- a number stands for one clause
pub held_once : (hs : List Held) (n : ℕ) (c c' : Clause) → HeldAt hs n c → HeldAt hs n c' → c ≡ c'
held_once [] n c c' h h' = absurd h
held_once (h ∷ hs) n c c' at at' =
    (elim (eqb h.number n) as (λ b. cond b (h.literals ≡ c) (HeldAt hs n c) → cond b (h.literals ≡ c') (HeldAt hs n c') → c ≡ c')
    [ true ↦ λ e e'. sym e ∙ e' | false ↦ held_once hs n c c' ]) at at'

pub each_middle : {X : Type 0} (P : X → Type 0) (xs : List X) (y : X) (ys : List X) → Each P (xs ++ y ∷ ys) → P y
each_middle P [] y ys h = h.0
each_middle P (x ∷ xs) y ys h = each_middle P xs y ys h.1

pub not_false_and_unset : (o : Option Bool) → T (is_false o) → T (is_unset o) → ⊥
not_false_and_unset None t u = t
not_false_and_unset (Some b) t u = u

-- a unit clause has one unset literal
only_unset : (f : Values) (c : Clause) (l : ℤ) → Unit' f c l → Each (λ x. T (is_unset (value f x)) → x ≡ l) c
only_unset f c l u =
    subst (Each P) (sym u.parts) (each_append P u.before (l ∷ u.after) (others u.before u.before_false) ((λ _. refl), others u.after u.after_false))
  where
    P : ℤ → Type 0
    P x = T (is_unset (value f x)) → x ≡ l

    others : (d : Clause) → T (all_false f d) → Each P d
    others d t = each_weaker (λ x. T (is_false (value f x))) P (λ x h k. absurd (not_false_and_unset (value f x) h k)) d (each_from_every (λ x. is_false (value f x)) d t)

pub unit_once : (f : Values) (c : Clause) (l l' : ℤ) → Unit' f c l → Unit' f c l' → l' ≡ l
unit_once f c l l' u u' =
    each_middle P u'.before l' u'.after (subst (Each P) u'.parts (only_unset f c l u)) u'.unset
  where
    P : ℤ → Type 0
    P x = T (is_unset (value f x)) → x ≡ l

-- hints that are a chain have no dead number
pub not_dead : (live : List Held) (f : Values) (ns : List ℕ) → Chain live f ns → DeadHint live f ns → ⊥
not_dead live f [] k d = k
not_dead live f (n ∷ []) k (inl d) = T_not (is_live live n) d (held_live live n k.0 k.1.0)
not_dead live f (n ∷ []) k (inr d) = d.2.2
not_dead live f (n ∷ n' ∷ ns) k (inl d) = T_not (is_live live n) d (held_live live n k.0 k.2.0)
not_dead live f (n ∷ n' ∷ ns) k (inr d) =
    not_dead live (set_true f k.1) (n' ∷ ns) k.2.2
    (subst (λ x. DeadHint live (set_true f x) (n' ∷ ns)) (unit_once f k.0 k.1 d.1 k.2.1 (subst (λ x. Unit' f x d.1) (held_once live n d.0 k.0 d.2.0 k.2.0) d.2.1)) d.2.2)

shown_not_dead : (live : List Held) (s : Step) → Shown live s → Dead live s → ⊥
shown_not_dead live (add c None) z d = d
shown_not_dead live (add c (Some ns)) z d = not_dead live (denied c) ns z d
shown_not_dead live (delete n) z d = T_not (is_live live n) d z

pub not_refused : (k : Memory) (m : Meaning) (s : Step) (f : StepFault) → Refused k m s f → m.trial ≡ idle → Fine k m s → ⊥
not_refused k m s TooMany x i g = T_not (in_memory k s) x g.0
not_refused k m s InTrial x i g = x.1 i
not_refused k m s Malformed x i g = T_not (formed m s) x.2 g.1
not_refused k m s NotLive x i g = shown_not_dead m.live s g.2 x.3
not_refused k m s NotShown x i g = x.4 g.2
not_refused k m s NoRoom x i g = T_not (has_room m s) x.4 g.3
not_refused k m s Form x i g = x

-- a desk that has its empty clause, or whose steps to come are a good certificate that is emptied within n steps
abbrev pub Going : Memory → ℕ → Desk → Type 0
Going k n d = T d.emptied ⊎ (Good k d.base d.source.steps × (up_to_empty d.source.steps ≤ n))

after_idle : (m : Meaning) (s : Step) → m.trial ≡ idle → (after m s).trial ≡ idle
after_idle m (add c h) e = e
after_idle m (delete n) e = e

abbrev Idle : Desk → Type 0
Idle d = d.base.trial ≡ idle

shorter : (u n : ℕ) → suc u ≤ suc n → u ≤ n
shorter u n h = omega arith

-- a step accepted on the way
step_going : (k : Memory) (d : Desk) (p : Placed) (ps : List Placed) (n : ℕ) →
    T d.emptied ⊎ (Good k d.base (p ∷ ps) × (up_to_empty (p ∷ ps) ≤ suc n)) → Going k n (advanced d p ps)
step_going k d p ps n (inl e) = inl (or_left d.emptied (is_empty_addition p.step) e)
step_going k d p ps n (inr g) = on (is_empty_addition p.step) g.0.1 g.1
  where
    on : (b : Bool) → cond b (Unit {0}) (Good k (after d.base p.step) ps) → cond b 1 (suc (up_to_empty ps)) ≤ suc n →
        T (d.emptied || b) ⊎ (Good k (after d.base p.step) ps × (up_to_empty ps ≤ n))
    on true w l = inl (or_right d.emptied true tt)
    on false w l = inr (w, shorter (up_to_empty ps) n l)

judged_going : (k : Memory) (d d' : Desk) (p : Placed) (ps : List Placed) (r : Reply) (n : ℕ) → Judged k d p ps r d' → Idle d →
    T d.emptied ⊎ (Good k d.base (p ∷ ps) × (up_to_empty (p ∷ ps) ≤ suc n)) → Idle d' × Going k n d'
judged_going k d d' p ps Taken n j i g =
    subst (λ y. Idle y × Going k n y) (sym j.2) (after_idle d.base p.step i, step_going k d p ps n g)
judged_going k d d' p ps (Turned f at) n j i (inl e) = subst (λ y. Idle y × Going k n y) (sym j.2) (i, inl e)
judged_going k d d' p ps (Turned f at) n j i (inr g) = absurd (not_refused k d.base p.step f j.0 i g.0.0)
judged_going k d d' p ps Nothing n j i g = absurd j

pub asked_going : (k : Memory) (d d' : Desk) (ps : List Placed) (e : Ending) (r : Reply) (n : ℕ) → AskedOf k d ps e r d' → Idle d →
    T d.emptied ⊎ (Good k d.base ps × (up_to_empty ps ≤ suc n)) → Idle d' × Going k n d'
asked_going k d d' (p ∷ ps) e r n x i g = judged_going k d d' p ps r n x i g
asked_going k d d' [] (broken p) r n x i (inl e) = subst (λ y. Idle y × Going k n y) (sym x.1) (i, inl e)
asked_going k d d' [] (broken p) r n x i (inr g) = absurd g.0
asked_going k d d' [] finished r n x i (inl e) = subst (λ y. Idle y × Going k n y) (sym x.1) (i, inl e)
asked_going k d d' [] finished r n x i (inr g) = absurd g.0

some_steps : (k : Memory) (m : Meaning) (ps : List Placed) → Good k m ps → up_to_empty ps ≤ 0 → ⊥
some_steps k m [] g h = g
some_steps k m (p ∷ ps) g h = one-step (is_empty_addition p.step) (up_to_empty ps) h
  where
    one-step : (b : Bool) (u : ℕ) → cond b 1 (suc u) ≤ 0 → ⊥
    one-step true u h = omega arith
    one-step false u h = omega arith

pub run_going : (k : Memory) (d end : Desk) (rs : List Reply) → Run k d rs end → d.base.trial ≡ idle → Going k (length rs) d → T end.emptied
run_going k d end [] x i (inl e) = subst (λ y. T y.emptied) (sym x) e
run_going k d end [] x i (inr g) = absurd (some_steps k d.base d.source.steps g.0 g.1)
run_going k d end (r ∷ rs) x i g =
    let w = asked_going k d x.0 d.source.steps d.source.ending r (length rs) x.1.0 i g in
    run_going k x.0 end rs x.1.1 w.0 w.1
