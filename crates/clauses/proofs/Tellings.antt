-- The counting engine, step by step.
use Rattle.std.proofs.Common.{◌≡◌, ℕ, zero, suc, ◌+◌, ◌-◌, ◌<◌, ◌≤◌, Bool, true, false, cond, eqb, ◌≢◌, ◌⊎◌, List, length, get_or, set, ℤ, pos, Some, Option, sym, refl, ap, ◌∙◌, subst, inl, inr, arith, below_more}
use Rattle.std.proofs.lemmas.List.{get_or-set_same, get_or-set_other}
use Rattle.std.proofs.lemmas.Bool.{cases_eq, cases_lt, eqb-true, eqb-false}
use Rattle.text.specs.Literals.{Clause, variable_of, positive}
use Rattle.clauses.specs.Propagation.{Values, set_true}
use Rattle.clauses.specs.Propagation.{Settled, Reached, Below}
use Rattle.clauses.specs.Cells.{values_of}
use Rattle.clauses.specs.Codes.{code_against}
use Rattle.clauses.specs.Linked.{On, Linked}
use Rattle.clauses.specs.Counting.{Tally, Gap, Gives, non_false, hits}
use Rattle.clauses.specs.Counters.{Told, Telling, Made, Begun}
use Rattle.clauses.specs.Stored.{held}
use Rattle.clauses.specs.Engine.{Ready}
use Rattle.clauses.proofs.Walks.{starting_more}
use Rattle.clauses.specs.Events.{clause_at, Waiting, Examined, Walking, Walk, Indexed, Starting}
use Rattle.clauses.specs.declared.store.Store.{Store}
use Rattle.clauses.specs.declared.trail.Trail.{Trail}
use Rattle.clauses.specs.declared.index.Index.{Index}
use Rattle.clauses.proofs.Links.{on_step}
use Rattle.clauses.proofs.Tallies.{tally_on, tally_none, tally_step}
use Rattle.clauses.proofs.Counts.{non_false_set, non_false_below, open_settled}

-- a look at a clause widens the gap by what it puts on the trail
pub gap_more : (s : Store) (k : ℕ) (f : Values) (ys zs : List (Option Bool)) (u v : Trail) (low : ℕ) → low ≤ u.tail → Examined s k ys zs u v → Gap f (values_of ys) u low → Gap f (values_of zs) v low
gap_more s k f ys zs u v low le e gap i b h = go (e.gap i b h)
  where
    Goal : Type 0
    Goal = (f i ≡ Some b) ⊎ ((q : ℕ) × (low ≤ q) × (q < v.tail) × Gives v q i b)

    back : (f i ≡ Some b) ⊎ ((q : ℕ) × (low ≤ q) × (q < u.tail) × Gives u q i b) → Goal
    back (inl g) = inl g
    back (inr w) = inr (w.0, w.1, omega (arith, w.2, e.grows), rw (e.kept w.0 w.2) w.3)

    go : (values_of ys i ≡ Some b) ⊎ ((q : ℕ) × (u.tail ≤ q) × (q < v.tail) × Gives v q i b) → Goal
    go (inl g) = back (gap i b g)
    go (inr w) = inr (w.0, omega (arith, w.1), w.2, w.3)

pub made_more : (s : Store) (k : ℕ) (ys zs : List (Option Bool)) (u v : Trail) (low : ℕ) → Below (values_of ys) (values_of zs) → Examined s k ys zs u v → Made ys u low → Made zs v low
made_more s k ys zs u v low up e made q lq qv = go (cases_lt q u.tail)
  where
    go : (q < u.tail) ⊎ (u.tail ≤ q) → values_of zs (variable_of (get_or v.literals.now q (pos 0))) ≡ Some (positive (get_or v.literals.now q (pos 0)))
    go (inl h) = rw (e.kept q h) (up _ _ (made q lq h))
    go (inr h) = e.made q h qv

-- the literal at head is taken up
pub telling_none : (s : Store) (x : Index) (ys : List (Option Bool)) (left : List ℕ) (u : Trail) (head code : ℕ) → head < u.tail → code ≡ code_against (get_or u.literals.now head (pos 0)) → code < x.lists → Indexed s x s.count → Told s ys left u s.count head → Telling s x ys left u (head + 1) (get_or x.heads.now code 0)
telling_none s x ys left u head code ht is cl ind t =
    record {
      base = set_true t.base l;
      gap = λ v b h. go v b h (eqb v (variable_of l)) refl (t.gap v b h);
      made = λ q lq qt. t.made q (omega arith) qt;
      counts = λ k kc. (hits code (clause_at s k), ind.tallied k kc code cl, omega (arith, t.counts k kc, less k));
    }
  where
    l : ℤ
    l = get_or u.literals.now head (pos 0)

    less : (k : ℕ) → non_false t.base (clause_at s k) ≤ non_false (set_true t.base (get_or u.literals.now head (pos 0))) (clause_at s k) + hits code (clause_at s k)
    less k = rw is (non_false_set t.base (get_or u.literals.now head (pos 0)) (clause_at s k))

    go : (v : ℕ) (b : Bool) → values_of ys v ≡ Some b → (z : Bool) → eqb v (variable_of l) ≡ z → (t.base v ≡ Some b) ⊎ ((q : ℕ) × (head ≤ q) × (q < u.tail) × Gives u q v b) → (cond (eqb v (variable_of l)) (Some (positive l)) (t.base v) ≡ Some b) ⊎ ((q : ℕ) × (head + 1 ≤ q) × (q < u.tail) × Gives u q v b)
    go v b h true z g =
        let e : v ≡ variable_of l = eqb-true v (variable_of l) z in
        let m : values_of ys v ≡ Some (positive l) = rw e (t.made head (omega arith) ht) in
        inl (rw z (sym m ∙ h))
    go v b h false z (inl g) = inl (rw z g)
    go v b h false z (inr w) = at (cases_eq w.0 head)
      where
        at : (w.0 ≡ head) ⊎ (w.0 ≡ head → ⊥) → (cond (eqb v (variable_of l)) (Some (positive l)) (t.base v) ≡ Some b) ⊎ ((q : ℕ) × (head + 1 ≤ q) × (q < u.tail) × Gives u q v b)
        at (inl q) =
            let e : variable_of l ≡ v = subst (λ (n : ℕ). variable_of (get_or u.literals.now n (pos 0)) ≡ v) q w.3.0 in
            absurd (eqb-false v (variable_of l) z (sym e))
        at (inr q) = inr (w.0, omega (arith, w.1), w.2, w.3)

-- one entry on, its owner's counter one down
pub counts_more : (s : Store) (x : Index) (left : List ℕ) (f : Values) (link r : ℕ) → 0 < link → r ≡ get_or x.owners.now (link - 1) 0 → r < length left → ((k : ℕ) → k < s.count → (n : ℕ) × Tally x.next.now x.owners.now k link n × (get_or left k 0 ≤ non_false f (clause_at s k) + n)) → (k : ℕ) → k < s.count → (n : ℕ) × Tally x.next.now x.owners.now k (get_or x.next.now (link - 1) 0) n × (get_or (set left r (get_or left r 0 - 1)) k 0 ≤ non_false f (clause_at s k) + n)
counts_more s x left f link r some own rl c k kc = go (c k kc).0 (c k kc).2 (tally_step x.next.now x.owners.now k link (link - 1) (c k kc).0 (omega arith) (c k kc).1) (cases_eq k r)
  where
    Goal : Type 0
    Goal = (n : ℕ) × Tally x.next.now x.owners.now k (get_or x.next.now (link - 1) 0) n × (get_or (set left r (get_or left r 0 - 1)) k 0 ≤ non_false f (clause_at s k) + n)

    go : (m : ℕ) → get_or left k 0 ≤ non_false f (clause_at s k) + m → Tally x.next.now x.owners.now k (get_or x.next.now (link - 1) 0) m ⊎ ((get_or x.owners.now (link - 1) 0 ≡ k) × ((j : ℕ) × (m ≡ suc j) × Tally x.next.now x.owners.now k (get_or x.next.now (link - 1) 0) j)) → (k ≡ r) ⊎ (k ≡ r → ⊥) → Goal
    go m le (inl t) (inl q) = (m, t, let e : get_or (set left r (get_or left r 0 - 1)) k 0 ≡ get_or left k 0 - 1 = rw q (get_or-set_same left r (get_or left r 0 - 1) 0 rl) in omega arith)
    go m le (inl t) (inr q) = (m, t, rw (get_or-set_other left r k (get_or left r 0 - 1) 0 q) le)
    go m le (inr w) (inl q) = (w.1.0, w.1.2, let e : get_or (set left r (get_or left r 0 - 1)) k 0 ≡ get_or left k 0 - 1 = rw q (get_or-set_same left r (get_or left r 0 - 1) 0 rl) in omega (arith, w.1.1))
    go m le (inr w) (inr q) = absurd (q (sym (own ∙ w.0)))

-- at the list's end
pub telling_all : (s : Store) (x : Index) (ys : List (Option Bool)) (left : List ℕ) (u : Trail) (low link : ℕ) → link ≡ 0 → Telling s x ys left u low link → Told s ys left u s.count low
telling_all s x ys left u low link z t =
    record {
      base = t.base;
      gap = t.gap;
      made = t.made;
      counts = λ k kc. let c = t.counts k kc in omega (arith, c.2, tally_none x.next.now x.owners.now k link c.0 z c.1);
    }

-- a row whose counter stays at two or more needs no look
pub walking_skip : (s : Store) (x : Index) (ys : List (Option Bool)) (left : List ℕ) (u : Trail) (low link r : ℕ) → 0 < link → r ≡ get_or x.owners.now (link - 1) 0 → 2 ≤ get_or left r 0 → Telling s x ys left u low (get_or x.next.now (link - 1) 0) → Walking s x ys u low link → Walking s x ys u low (get_or x.next.now (link - 1) 0)
walking_skip s x ys left u low link r some own two t w k kc = go (w k kc)
  where
    Rest : ℕ → Type 0
    Rest l = (e : ℕ) × On x.next.now l e × (get_or x.owners.now e 0 ≡ k)

    Goal : Type 0
    Goal = Settled (values_of ys) (clause_at s k) ⊎ (Waiting u low (clause_at s k) ⊎ Rest (get_or x.next.now (link - 1) 0))

    plain : Settled (values_of ys) (clause_at s k) ⊎ Waiting u low (clause_at s k) → Goal
    plain (inl h) = inl h
    plain (inr h) = inr (inl h)

    here : r ≡ k → (n : ℕ) → Tally x.next.now x.owners.now k (get_or x.next.now (link - 1) 0) n → get_or left k 0 ≤ non_false t.base (clause_at s k) + n → Goal
    here q zero ta le = plain (open_settled t.base (values_of ys) u low (clause_at s k) t.gap (let e : get_or left r 0 ≡ get_or left k 0 = ap (λ (z : ℕ). get_or left z 0) q in omega arith))
    here q (suc n) ta le = inr (inr (tally_on x.next.now x.owners.now k _ (suc n) (omega arith) ta))

    step : (c : Rest link) → (c.0 ≡ link - 1) ⊎ On x.next.now (get_or x.next.now (link - 1) 0) c.0 → Goal
    step c (inl q) = let g = t.counts k kc in here (own ∙ ap (λ (z : ℕ). get_or x.owners.now z 0) (sym q) ∙ c.2) g.0 g.1 g.2
    step c (inr o) = inr (inr (c.0, o, c.2))

    go : Settled (values_of ys) (clause_at s k) ⊎ (Waiting u low (clause_at s k) ⊎ Rest link) → Goal
    go (inl h) = inl h
    go (inr (inl h)) = inr (inl h)
    go (inr (inr c)) = step c (on_step x.next.now link (link - 1) c.0 (omega arith) c.1)

pub telling_more : (s : Store) (x : Index) (ys : List (Option Bool)) (left : List ℕ) (u : Trail) (low link r fresh : ℕ) → 0 < link → r ≡ get_or x.owners.now (link - 1) 0 → r < length left → fresh ≡ get_or left r 0 - 1 → Telling s x ys left u low link → Telling s x ys (set left r fresh) u low (get_or x.next.now (link - 1) 0)
telling_more s x ys left u low link r fresh some own rl is t =
    record { base = t.base; gap = t.gap; made = t.made; counts = rw is (counts_more s x left t.base link r some own rl t.counts) }

pub telling_look : (s : Store) (x : Index) (k : ℕ) (ys zs : List (Option Bool)) (left : List ℕ) (u v : Trail) (low link : ℕ) → low ≤ u.tail → Reached (held s) (values_of ys) (values_of zs) → Examined s k ys zs u v → Telling s x ys left u low link → Telling s x zs left v low link
telling_look s x k ys zs left u v low link le r e t =
    record { base = t.base; gap = gap_more s k t.base ys zs u v low le e t.gap; made = made_more s k ys zs u v low r.below e t.made; counts = t.counts }

pub walk_skip : (s : Store) (x : Index) (xs ys : List (Option Bool)) (left : List ℕ) (t u : Trail) (low link r : ℕ) → Linked x → 0 < link → r ≡ get_or x.owners.now (link - 1) 0 → 2 ≤ get_or left r 0 → Telling s x ys left u low (get_or x.next.now (link - 1) 0) → Walk s x xs ys t u low link → Walk s x xs ys t u low (get_or x.next.now (link - 1) 0)
walk_skip s x xs ys left t u low link r ok some own two g w =
    let f : get_or x.next.now (link - 1) 0 ≤ link - 1 = ok.falling (link - 1) (omega (arith, w.within)) in
    record { reached = w.reached; ready = w.ready; room = w.room; ahead = w.ahead; within = omega (arith, w.within); walking = walking_skip s x ys left u low link r some own two g w.walking }

pub begun_more : (s : Store) (xs ys zs : List (Option Bool)) (left : List ℕ) (t u v : Trail) (k fresh : ℕ) (cl : Clause) → k < length left → Begun s xs ys left t u k → length v.literals.now ≡ length u.literals.now → Reached (held s) (values_of ys) (values_of zs) → Ready s zs v → Examined s k ys zs u v → cl ≡ clause_at s k → fresh ≡ non_false (values_of zs) cl → Begun s xs zs (set left k fresh) t v (k + 1)
begun_more s xs ys zs left t u v k fresh cl lt b room r ready e is n =
    let st : Starting s xs zs v (k + 1) = starting_more s xs ys zs u v k b.starting r ready e in
    let o : fresh ≡ non_false (values_of zs) (clause_at s k) = n ∙ ap (non_false (values_of zs)) is in
    record {
      starting = st;
      room = room ∙ b.room;
      gap = gap_more s k (values_of xs) ys zs u v 0 (omega arith) e b.gap;
      made = made_more s k ys zs u v 0 r.below e b.made;
      counts = below_more (λ i. get_or (set left k fresh) i 0 ≤ non_false (values_of xs) (clause_at s i)) k
          (λ i ik. let ne : i ≢ k = omega arith in rw (get_or-set_other left k i fresh 0 ne) (b.counts i ik))
          (rw (get_or-set_same left k fresh 0 lt) (omega (arith, non_false_below (values_of xs) (values_of zs) st.reached.below (clause_at s k))));
    }

pub begun_told : (s : Store) (xs ys : List (Option Bool)) (left : List ℕ) (t u : Trail) (k : ℕ) → s.count ≤ k → Begun s xs ys left t u k → Told s ys left u s.count 0
begun_told s xs ys left t u k le b = record { base = values_of xs; gap = b.gap; made = b.made; counts = λ i ic. b.counts i (omega arith) }
