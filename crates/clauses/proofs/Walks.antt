-- The engine of events, step by step.
use Rattle.std.proofs.Common.{◌≡◌, ℕ, ◌+◌, ◌-◌, ◌<◌, ◌≤◌, Bool, ◌⊎◌, List, length, get_or, ℤ, pos, Option, sym, ap, ◌∙◌, subst, inl, inr, arith, below_more}
use Rattle.std.proofs.lemmas.Bool.{cases_eq}
use Rattle.text.specs.Literals.{Clause}
use Rattle.clauses.specs.Propagation.{Settled, Reached}
use Rattle.clauses.specs.Cells.{values_of}
use Rattle.clauses.specs.Stored.{held, Sound}
use Rattle.clauses.specs.Codes.{code_of, code_against, Hit}
use Rattle.clauses.specs.Linked.{On, Linked}
use Rattle.clauses.specs.Engine.{Quiet, Ready}
use Rattle.clauses.specs.Events.{clause_at, Waiting, Examined, Listed, Pending, Walking, Indexed, Starting, Walk}
use Rattle.clauses.specs.declared.store.Store.{Store}
use Rattle.clauses.specs.declared.trail.Trail.{Trail}
use Rattle.clauses.specs.declared.index.Index.{Index}
use Rattle.clauses.proofs.Theory.{reached_more}
use Rattle.clauses.proofs.OneRow.{rows_settled}
use Rattle.clauses.proofs.Hits.{against_code}
use Rattle.clauses.proofs.Links.{on_none, on_step}

-- what another clause's look leaves of a clause
pub waits_on : (s : Store) (k : ℕ) (xs ys : List (Option Bool)) (t u : Trail) (low : ℕ) (c : Clause) → Examined s k xs ys t u → low ≤ t.tail → Settled (values_of xs) c ⊎ Waiting t low c → Settled (values_of ys) c ⊎ Waiting u low c
waits_on s k xs ys t u low c e le (inl h) = go (e.others c h)
  where
    go : Settled (values_of ys) c ⊎ Waiting u t.tail c → Settled (values_of ys) c ⊎ Waiting u low c
    go (inl g) = inl g
    go (inr w) = inr (w.0, omega (arith, w.1), w.2, w.3)
waits_on s k xs ys t u low c e le (inr w) =
    inr (w.0, w.1, omega (arith, w.2, e.grows), subst (λ (l : ℤ). Hit l c) (sym (e.kept w.0 w.2)) w.3)

pub starting_more : (s : Store) (xs ys zs : List (Option Bool)) (u v : Trail) (k : ℕ) → Starting s xs ys u k → Reached (held s) (values_of ys) (values_of zs) → Ready s zs v → Examined s k ys zs u v → Starting s xs zs v (k + 1)
starting_more s xs ys zs u v k h r ready e =
    record {
      reached = reached_more (held s) (values_of xs) (values_of ys) (values_of zs) h.reached r;
      ready = ready;
      first = below_more (λ i. Settled (values_of zs) (clause_at s i) ⊎ Waiting v 0 (clause_at s i)) k (λ i ik. waits_on s k ys zs u v 0 (clause_at s i) e (omega arith) (h.first i ik)) (inl e.here);
    }

-- the literal at head is taken up: the clauses that waited for it are on the list of its opposite
pub walking_none : (s : Store) (x : Index) (xs : List (Option Bool)) (t : Trail) (head code : ℕ) → Indexed s x s.count → code ≡ code_against (get_or t.literals.now head (pos 0)) → Pending s xs t head → Walking s x xs t (head + 1) (get_or x.heads.now code 0)
walking_none s x xs t head code ind is p k kc = go (p k kc)
  where
    Goal : Type 0
    Goal = Settled (values_of xs) (clause_at s k) ⊎ (Waiting t (head + 1) (clause_at s k) ⊎ ((e : ℕ) × On x.next.now (get_or x.heads.now code 0) e × (get_or x.owners.now e 0 ≡ k)))

    at : (w : Waiting t head (clause_at s k)) → (w.0 ≡ head) ⊎ (w.0 ≡ head → ⊥) → Goal
    at w (inl q) =
        let h : Hit (get_or t.literals.now head (pos 0)) (clause_at s k) = subst (λ (z : ℕ). Hit (get_or t.literals.now z (pos 0)) (clause_at s k)) q w.3 in
        let c : code_of (get_or (clause_at s k) h.0 (pos 0)) ≡ code = against_code _ _ h.2 ∙ sym is in
        inr (inr (subst (λ (z : ℕ). Listed x z k) c (ind.whole k kc h.0 h.1)))
    at w (inr q) = inr (inl (w.0, omega (arith, w.1), w.2, w.3))

    go : Settled (values_of xs) (clause_at s k) ⊎ Waiting t head (clause_at s k) → Goal
    go (inl h) = inl h
    go (inr w) = at w (cases_eq w.0 head)

pub walking_more : (s : Store) (x : Index) (ys zs : List (Option Bool)) (u v : Trail) (low link r : ℕ) → 0 < link → r ≡ get_or x.owners.now (link - 1) 0 → low ≤ u.tail → Examined s r ys zs u v → Walking s x ys u low link → Walking s x zs v low (get_or x.next.now (link - 1) 0)
walking_more s x ys zs u v low link r some own le e w k kc = go (w k kc)
  where
    Chained : ℕ → Type 0
    Chained l = (i : ℕ) × On x.next.now l i × (get_or x.owners.now i 0 ≡ k)

    Goal : Type 0
    Goal = Settled (values_of zs) (clause_at s k) ⊎ (Waiting v low (clause_at s k) ⊎ Chained (get_or x.next.now (link - 1) 0))

    still : Settled (values_of zs) (clause_at s k) ⊎ Waiting v low (clause_at s k) → Goal
    still (inl h) = inl h
    still (inr h) = inr (inl h)

    step : (c : Chained link) → (c.0 ≡ link - 1) ⊎ On x.next.now (get_or x.next.now (link - 1) 0) c.0 → Goal
    step c (inl q) =
        let rk : r ≡ k = own ∙ ap (λ (z : ℕ). get_or x.owners.now z 0) (sym q) ∙ c.2 in
        inl (subst (λ (z : ℕ). Settled (values_of zs) (clause_at s z)) rk e.here)
    step c (inr o) = inr (inr (c.0, o, c.2))

    go : Settled (values_of ys) (clause_at s k) ⊎ (Waiting u low (clause_at s k) ⊎ Chained link) → Goal
    go (inl h) = still (waits_on s r ys zs u v low (clause_at s k) e le (inl h))
    go (inr (inl h)) = still (waits_on s r ys zs u v low (clause_at s k) e le (inr h))
    go (inr (inr c)) = step c (on_step x.next.now link (link - 1) c.0 (omega arith) c.1)

pub walking_all : (s : Store) (x : Index) (ys : List (Option Bool)) (u : Trail) (low link : ℕ) → link ≡ 0 → Walking s x ys u low link → Pending s ys u low
walking_all s x ys u low link z w k kc = go (w k kc)
  where
    go : Settled (values_of ys) (clause_at s k) ⊎ (Waiting u low (clause_at s k) ⊎ ((e : ℕ) × On x.next.now link e × (get_or x.owners.now e 0 ≡ k))) → Settled (values_of ys) (clause_at s k) ⊎ Waiting u low (clause_at s k)
    go (inl h) = inl h
    go (inr (inl h)) = inr h
    go (inr (inr c)) = absurd (on_none x.next.now link c.0 z c.1)

-- with nothing left on the trail, no clause can make a step
pub pending_quiet : (s : Store) (ys : List (Option Bool)) (u : Trail) (head : ℕ) → Sound s → Pending s ys u head → Quiet s ys u head
pending_quiet s ys u head ok p le = rows_settled s ys ok (λ k kc. go k (p k kc))
  where
    go : (k : ℕ) → Settled (values_of ys) (clause_at s k) ⊎ Waiting u head (clause_at s k) → Settled (values_of ys) (clause_at s k)
    go k (inl h) = h
    go k (inr w) = absurd (omega (arith, w.1, w.2))

pub walk_more : (s : Store) (x : Index) (xs ys zs : List (Option Bool)) (t u v : Trail) (low link r : ℕ) → Linked x → 0 < link → r ≡ get_or x.owners.now (link - 1) 0 → Walk s x xs ys t u low link → Reached (held s) (values_of ys) (values_of zs) → Ready s zs v → length v.literals.now ≡ length u.literals.now → Examined s r ys zs u v → Walk s x xs zs t v low (get_or x.next.now (link - 1) 0)
walk_more s x xs ys zs t u v low link r ok some own w g ready room e =
    let f : get_or x.next.now (link - 1) 0 ≤ link - 1 = ok.falling (link - 1) (omega (arith, w.within)) in
    record {
      reached = reached_more (held s) (values_of xs) (values_of ys) (values_of zs) w.reached g;
      ready = ready;
      room = room ∙ w.room;
      ahead = omega (arith, w.ahead, e.grows);
      within = omega (arith, w.within);
      walking = walking_more s x ys zs u v low link r some own w.ahead e w.walking;
    }
