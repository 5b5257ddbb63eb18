-- The watching engine, step by step.
use Rattle.std.proofs.Common.{Ok, Err, OnOk, is_err, Result, ◌≡◌, ℕ, ◌+◌, ◌-◌, ◌*◌, ◌^◌, ◌<◌, ◌≤◌, Bool, true, false, T, ◌≢◌, ◌⊎◌, List, length, get_or, set, ℤ, pos, Some, None, Option, sym, refl, ap, ◌∙◌, subst, inl, inr, arith, below_more}
use Rattle.std.proofs.lemmas.List.{get_or-set_same, get_or-set_other, length-set}
use Rattle.std.proofs.lemmas.Bool.{cases_eq}
use Rattle.text.specs.Literals.{Clause, variable_of}
use Rattle.clauses.specs.Propagation.{value, is_false, satisfied, Settled, Reached, Below}
use Rattle.clauses.specs.Cells.{values_of}
use Rattle.clauses.specs.Codes.{code_of, code_against, Against}
use Rattle.clauses.specs.Linked.{On, Linked}
use Rattle.clauses.specs.Engine.{Advanced, Quiet, Ready}
use Rattle.clauses.specs.Stored.{held, Sound}
use Rattle.clauses.specs.Events.{clause_at, Listed, Same, Examined}
use Rattle.clauses.specs.Watching.{false_at, AllBut, Pair, Kept, Guards, Grown, Watches, Spotted, Joined, Enlisted, Moved, Renewed, Visited, Waits, Rest, Watch, Paired, Guarded, Watchful}
use Rattle.clauses.specs.declared.index.Index.{Index}
use Rattle.clauses.specs.declared.store.Store.{Store}
use Rattle.clauses.specs.declared.trail.Trail.{Trail}
use Rattle.clauses.proofs.Theory.{reached_more, reached_none, value_below}
use Rattle.clauses.proofs.Hits.{satisfied_below, against_code}
use Rattle.clauses.proofs.Links.{on_bound, on_set, on_none, on_step, below_push}
use Rattle.clauses.proofs.Entries.{listed_kept, listed_new, code_bound}
use Rattle.clauses.proofs.Counts.{late}
use Rattle.clauses.proofs.OneRow.{row_named, row_short, rows_settled}
use Rattle.clauses.proofs.Spots.{spots_none, spots_below, spots_more}
use Rattle.clauses.proofs.Pairs.{one_unset, pair_settled}

-- every literal of a row has a list
pub code_listed : (s : Store) (x : Index) (k p : ℕ) → Sound s → Guards s x → k < s.count → p < length (clause_at s k) → code_of (get_or (clause_at s k) p (pos 0)) < x.lists
code_listed s x k p ok g lt h =
    let a : variable_of (get_or (clause_at s k) p (pos 0)) - 1 < s.variables = row_named s k (clause_at s k) refl lt ok p h in
    omega (arith, code_bound (get_or (clause_at s k) p (pos 0)), g.heads)

-- entries are added
pub grown_none : (x : Index) → Grown x x
grown_none x =
    record { lists = refl; more = omega arith; same = record { heads = refl; next = refl; owners = refl }; listed = λ c r h l. l; chain = λ link e le o. (o, refl) }

pub grown_more : (x y z : Index) → Grown x y → Grown y z → Grown x z
grown_more x y z g h =
    record {
      lists = h.lists ∙ g.lists;
      more = omega (arith, g.more, h.more);
      same = record { heads = h.same.heads ∙ g.same.heads; next = h.same.next ∙ g.same.next; owners = h.same.owners ∙ g.same.owners };
      listed = λ c r lt l. h.listed c r (omega (arith, g.lists)) (g.listed c r lt l);
      chain = λ link e le o. let a = g.chain link e le o in let b = h.chain link e (omega (arith, g.more)) a.0 in (b.0, b.1 ∙ a.1);
    }

module _ (x y : Index) (code owner : ℕ) (ok : Linked x) (lt : code < x.lists) (nl : x.used < length x.next.now) (ol : x.used < length x.owners.now) (used : y.used ≡ x.used + 1) (lists : y.lists ≡ x.lists) (heads : y.heads.now ≡ set x.heads.now code (x.used + 1)) (next : y.next.now ≡ set x.next.now x.used (get_or x.heads.now code 0)) (owners : y.owners.now ≡ set x.owners.now x.used owner) where
  pub grown_enter : Grown x y
  grown_enter =
      record {
        lists = lists;
        more = omega arith;
        same = record { heads = ap length heads ∙ length-set _ _ _; next = ap length next ∙ length-set _ _ _; owners = ap length owners ∙ length-set _ _ _ };
        listed = listed_kept x y code owner ok lt nl ol heads next owners;
        chain = λ link e le o.
            let b : e < link = on_bound x.next.now x.used link e ok.falling le o in
            let ne : e ≢ x.used = omega arith in
            (rw next (on_set x.next.now x.used (get_or x.heads.now code 0) link e ok.falling le o), rw owners (get_or-set_other x.owners.now x.used e owner 0 ne));
      }

  pub enlisted : (s : Store) (place : ℕ) (w : List ℕ) → Guards s x → Linked y → owner < s.count → code ≡ code_of (get_or (clause_at s owner) place (pos 0)) → (Watches w owner place → ⊥) → Enlisted s owner place w x y
  enlisted s place w g linked k is new =
      record {
        guards = record { linked = linked; heads = rw lists g.heads; next = rw (next, length-set x.next.now x.used (get_or x.heads.now code 0)) g.next; owners = rw (owners, length-set x.owners.now x.used owner) g.owners; owned = rw (owners, used) (below_push x.owners.now x.used s.count owner ol k g.owned) };
        grown = grown_enter;
        uses = inr (used, new);
        joined = inr (inr (subst (λ (z : ℕ). Listed y z owner) is (listed_new x y code owner ok lt nl ol heads next owners)));
      }

-- a look at a clause, as a move
pub moved_none : (xs : List (Option Bool)) (t : Trail) → Moved xs xs t t
moved_none xs t = record { below = λ v b h. h; gap = λ v b h. inl h; kept = λ q h. refl; grows = omega arith }

pub moved_look : (s : Store) (k : ℕ) (xs ys : List (Option Bool)) (t u : Trail) → Reached (held s) (values_of xs) (values_of ys) → Examined s k xs ys t u → Moved xs ys t u
moved_look s k xs ys t u r e = record { below = r.below; gap = e.gap; kept = e.kept; grows = e.grows }

-- what had at most one place open, and is settled, is satisfied
pub look_satisfied : (xs ys : List (Option Bool)) (c : Clause) (p : ℕ) → Below (values_of xs) (values_of ys) → AllBut xs c p → Settled (values_of ys) c → T (satisfied (values_of ys) c)
look_satisfied xs ys c p up all (inl s) = s
look_satisfied xs ys c p up all (inr n) = absurd (omega (arith, one_unset (values_of ys) c p (λ j lt ne. still j (all j lt ne))))
  where
    false_is : (o : Option Bool) → is_false o ≡ true → o ≡ Some false
    false_is None h = let z : ◌≡◌ {A = ℕ} 0 1 = cc in absurd (omega arith)
    false_is (Some true) h = let z : ◌≡◌ {A = ℕ} 0 1 = cc in absurd (omega arith)
    false_is (Some false) h = refl

    still : (j : ℕ) → false_at xs c j ≡ true → false_at ys c j ≡ true
    still j h = rw (value_below (values_of xs) (values_of ys) up (get_or c j (pos 0)) false (false_is (value (values_of xs) (get_or c j (pos 0))) h)) refl

-- one step from the values xs and the trail t to ys and u
module _ (xs ys : List (Option Bool)) (t u : Trail) (m : Moved xs ys t u) where
  waits_on : (low : ℕ) (l : ℤ) → Waits t low l → Waits u low l
  waits_on low l h = (h.0, h.1, omega (arith, h.2, m.grows), subst (λ (z : ℤ). Against z l) (sym (m.kept h.0 h.2)) h.3)

  opens_on : (low : ℕ) (l : ℤ) → low ≤ t.tail → is_false (value (values_of xs) l) ≡ false → (is_false (value (values_of ys) l) ≡ false) ⊎ Waits u low l
  opens_on low l le h = go (value (values_of ys) l) refl
    where
      fell : (value (values_of xs) l ≡ Some false) ⊎ ((q : ℕ) × (t.tail ≤ q) × (q < u.tail) × Against (get_or u.literals.now q (pos 0)) l) → (is_false (value (values_of ys) l) ≡ false) ⊎ Waits u low l
      fell (inl e) = let z : ◌≡◌ {A = Bool} true false = sym (rw e) ∙ h in let i : ◌≡◌ {A = ℕ} 0 1 = cc in absurd (omega arith)
      fell (inr w) = inr (w.0, omega (arith, w.1), w.2, w.3)

      go : (o : Option Bool) → value (values_of ys) l ≡ o → (is_false (value (values_of ys) l) ≡ false) ⊎ Waits u low l
      go None e = inl (rw e)
      go (Some true) e = inl (rw e)
      go (Some false) e = fell (late (values_of xs) (values_of ys) u t.tail l m.gap e)

-- after a visit of row r
module _ (s : Store) (r : ℕ) (x y : Index) (w v : List ℕ) (xs ys : List (Option Bool)) (t u : Trail) (ok : Sound s) (guards : Guards s x) (vis : Visited s r x y w v xs ys t u) (low link link' : ℕ) (ahead : low ≤ t.tail) where
  watch_on : (k p p' : ℕ) → k < s.count → p' ≡ p → (Rest x k link → Rest y k link') → Watch s x xs t low link k p → Watch s y ys u low link' k p'
  watch_on k p p' lt e rest h = rw e (record {
    within = h.within;
    listed = vis.grown.listed (code_of (get_or (clause_at s k) p (pos 0))) k (code_listed s x k p ok guards lt h.within) h.listed;
    good = go h.good;
  })
    where
      l : ℤ
      l = get_or (clause_at s k) p (pos 0)

      open' : (is_false (value (values_of ys) l) ≡ false) ⊎ Waits u low l → (false_at ys (clause_at s k) p ≡ false) ⊎ (Waits u low l ⊎ Rest y k link')
      open' (inl i) = inl i
      open' (inr i) = inr (inl i)

      go : (false_at xs (clause_at s k) p ≡ false) ⊎ (Waits t low l ⊎ Rest x k link) → (false_at ys (clause_at s k) p ≡ false) ⊎ (Waits u low l ⊎ Rest y k link')
      go (inl i) = open' (opens_on xs ys t u vis.moved low l ahead i)
      go (inr (inl i)) = inr (inl (waits_on xs ys t u vis.moved low l i))
      go (inr (inr i)) = inr (inr (rest i))

  pub other_guarded : (k : ℕ) → k < s.count → (k ≡ r → ⊥) → (Rest x k link → Rest y k link') → Guarded s x w xs t low link k → Guarded s y v ys u low link' k
  other_guarded k lt ne rest (inl h) = inl (satisfied_below (values_of xs) (values_of ys) vis.moved.below (clause_at s k) h)
  other_guarded k lt ne rest (inr h) =
      let a : get_or v (2 * k) 0 ≡ get_or w (2 * k) 0 = vis.others (2 * k) (λ e. ne (omega arith)) (λ e. omega arith) in
      let b : get_or v (2 * k + 1) 0 ≡ get_or w (2 * k + 1) 0 = vis.others (2 * k + 1) (λ e. omega arith) (λ e. ne (omega arith)) in
      inr (record { apart = λ e. h.apart (sym a ∙ e ∙ b); first = watch_on k _ _ lt a rest h.first; second = watch_on k _ _ lt b rest h.second })

  pub here_guarded : T (satisfied (values_of xs) (clause_at s r)) ⊎ ((p : ℕ) → p < length (clause_at s r) → Joined s r p w y → Listed y (code_of (get_or (clause_at s r) p (pos 0))) r) → Guarded s y v ys u low link' r
  here_guarded old = go vis.here old
    where
      go : T (satisfied (values_of ys) (clause_at s r)) ⊎ Renewed s r w v y ys → T (satisfied (values_of xs) (clause_at s r)) ⊎ ((p : ℕ) → p < length (clause_at s r) → Joined s r p w y → Listed y (code_of (get_or (clause_at s r) p (pos 0))) r) → Guarded s y v ys u low link' r
      go (inl h) o = inl h
      go (inr n) (inl h) = inl (satisfied_below (values_of xs) (values_of ys) vis.moved.below (clause_at s r) h)
      go (inr n) (inr h) =
          inr (record {
            apart = n.pair.apart;
            first = record { within = n.pair.first; listed = h _ n.pair.first n.first; good = inl n.pair.first_open };
            second = record { within = n.pair.second; listed = h _ n.pair.second n.second; good = inl n.pair.second_open };
          })

-- what was watched is listed still
pub joined_listed : (s : Store) (x y : Index) (w : List ℕ) (xs : List (Option Bool)) (t : Trail) (low link r p : ℕ) → Sound s → Guards s x → Grown x y → r < s.count → Paired s x w xs t low link r → Joined s r p w y → Listed y (code_of (get_or (clause_at s r) p (pos 0))) r
joined_listed s x y w xs t low link r p ok g grown lt h (inl e) =
    subst (λ (z : ℕ). Listed y (code_of (get_or (clause_at s r) z (pos 0))) r) e (grown.listed _ r (code_listed s x r _ ok g lt h.first.within) h.first.listed)
joined_listed s x y w xs t low link r p ok g grown lt h (inr (inl e)) =
    subst (λ (z : ℕ). Listed y (code_of (get_or (clause_at s r) z (pos 0))) r) e (grown.listed _ r (code_listed s x r _ ok g lt h.second.within) h.second.listed)
joined_listed s x y w xs t low link r p ok g grown lt h (inr (inr l)) = l

-- one entry on
pub watchful_more : (s : Store) (x y : Index) (w v : List ℕ) (xs ys : List (Option Bool)) (t u : Trail) (low link r : ℕ) → Sound s → 0 < link → r ≡ get_or x.owners.now (link - 1) 0 → r < s.count → Visited s r x y w v xs ys t u → Watchful s x w xs t low link → Watchful s y v ys u low (get_or x.next.now (link - 1) 0)
watchful_more s x y w v xs ys t u low link r ok some own rc vis h =
    record { guards = vis.guards; spots = vis.spots; within = omega (arith, falls, vis.grown.more, h.within); ahead = omega (arith, h.ahead, vis.moved.grows); rows = λ k kc. row k kc (cases_eq k r) (h.rows k kc) }
  where
    falls : get_or x.next.now (link - 1) 0 ≤ link - 1
    falls = h.guards.linked.falling (link - 1) (omega (arith, h.within))

    on : (k : ℕ) → (k ≡ r → ⊥) → Rest x k link → Rest y k (get_or x.next.now (link - 1) 0)
    on k ne c = go (on_step x.next.now link (link - 1) c.0 (omega arith) c.1)
      where
        go : (c.0 ≡ link - 1) ⊎ On x.next.now (get_or x.next.now (link - 1) 0) c.0 → Rest y k (get_or x.next.now (link - 1) 0)
        go (inl q) = absurd (ne (sym (own ∙ ap (λ (z : ℕ). get_or x.owners.now z 0) (sym q) ∙ c.2)))
        go (inr o) = let g = vis.grown.chain (get_or x.next.now (link - 1) 0) c.0 (omega (arith, falls, h.within)) o in (c.0, g.0, g.1 ∙ c.2)

    was : Guarded s x w xs t low link r → T (satisfied (values_of xs) (clause_at s r)) ⊎ ((p : ℕ) → p < length (clause_at s r) → Joined s r p w y → Listed y (code_of (get_or (clause_at s r) p (pos 0))) r)
    was (inl i) = inl i
    was (inr i) = inr (λ p pl. joined_listed s x y w xs t low link r p ok h.guards vis.grown rc i)

    row : (k : ℕ) → k < s.count → (k ≡ r) ⊎ (k ≡ r → ⊥) → Guarded s x w xs t low link k → Guarded s y v ys u low (get_or x.next.now (link - 1) 0) k
    row k kc (inr ne) i = other_guarded s r x y w v xs ys t u ok h.guards vis low link _ h.ahead k kc ne (on k ne) i
    row k kc (inl e) i =
        subst (λ (z : ℕ). Guarded s y v ys u low (get_or x.next.now (link - 1) 0) z) (sym e)
        (here_guarded s r x y w v xs ys t u ok h.guards vis low link _ h.ahead (was (subst (λ (z : ℕ). Guarded s x w xs t low link z) e i)))

-- the literal at head is taken up: the rows that wait for it are on the list of its opposite
pub watchful_none : (s : Store) (x : Index) (w : List ℕ) (xs : List (Option Bool)) (t : Trail) (head code : ℕ) → head < t.tail → code < x.lists → code ≡ code_against (get_or t.literals.now head (pos 0)) → Watchful s x w xs t head 0 → Watchful s x w xs t (head + 1) (get_or x.heads.now code 0)
watchful_none s x w xs t head code lt cl is h =
    record { guards = h.guards; spots = h.spots; within = h.guards.linked.begins code cl; ahead = omega arith; rows = λ k kc. row k (h.rows k kc) }
  where
    watch : (k p : ℕ) → Watch s x xs t head 0 k p → Watch s x xs t (head + 1) (get_or x.heads.now code 0) k p
    watch k p a = record { within = a.within; listed = a.listed; good = go a.good }
      where
        Goal : Type 0
        Goal = (false_at xs (clause_at s k) p ≡ false) ⊎ (Waits t (head + 1) (get_or (clause_at s k) p (pos 0)) ⊎ Rest x k (get_or x.heads.now code 0))

        at : (i : Waits t head (get_or (clause_at s k) p (pos 0))) → (i.0 ≡ head) ⊎ (i.0 ≡ head → ⊥) → Goal
        at i (inl q) =
            let g : Against (get_or t.literals.now head (pos 0)) (get_or (clause_at s k) p (pos 0)) = subst (λ (z : ℕ). Against (get_or t.literals.now z (pos 0)) (get_or (clause_at s k) p (pos 0))) q i.3 in
            let c : code_of (get_or (clause_at s k) p (pos 0)) ≡ code = against_code _ _ g ∙ sym is in
            inr (inr (subst (λ (z : ℕ). Listed x z k) c a.listed))
        at i (inr q) = inr (inl (i.0, omega (arith, i.1), i.2, i.3))

        go : (false_at xs (clause_at s k) p ≡ false) ⊎ (Waits t head (get_or (clause_at s k) p (pos 0)) ⊎ Rest x k 0) → Goal
        go (inl i) = inl i
        go (inr (inl i)) = at i (cases_eq i.0 head)
        go (inr (inr i)) = absurd (on_none x.next.now 0 i.0 refl i.1)

    row : (k : ℕ) → Guarded s x w xs t head 0 k → Guarded s x w xs t (head + 1) (get_or x.heads.now code 0) k
    row k (inl i) = inl i
    row k (inr i) = inr (record { apart = i.apart; first = watch k _ i.first; second = watch k _ i.second })

pub watchful_end : (s : Store) (x : Index) (w : List ℕ) (xs : List (Option Bool)) (t : Trail) (low link : ℕ) → link ≡ 0 → Watchful s x w xs t low link → Watchful s x w xs t low 0
watchful_end s x w xs t low link e h = rw e at h

-- with nothing left on the trail, no clause can make a step
pub watchful_quiet : (s : Store) (x : Index) (w : List ℕ) (ys : List (Option Bool)) (t : Trail) (head : ℕ) → Sound s → Watchful s x w ys t head 0 → Quiet s ys t head
watchful_quiet s x w ys t head ok h le = rows_settled s ys ok (λ k kc. row k (h.rows k kc))
  where
    open' : (k p : ℕ) → Watch s x ys t head 0 k p → false_at ys (clause_at s k) p ≡ false
    open' k p a = go a.good
      where
        go : (false_at ys (clause_at s k) p ≡ false) ⊎ (Waits t head (get_or (clause_at s k) p (pos 0)) ⊎ Rest x k 0) → false_at ys (clause_at s k) p ≡ false
        go (inl i) = i
        go (inr (inl i)) = absurd (omega (arith, i.1, i.2))
        go (inr (inr i)) = absurd (on_none x.next.now 0 i.0 refl i.1)

    row : (k : ℕ) → Guarded s x w ys t head 0 k → Settled (values_of ys) (clause_at s k)
    row k (inl i) = inl i
    row k (inr i) = pair_settled (values_of ys) (clause_at s k) _ _ i.apart i.first.within i.second.within (open' k _ i.first) (open' k _ i.second)

-- the rows below k are watched, and the others nowhere yet
pub record Begun (s : Store) (x₀ x : Index) (w : List ℕ) (xs ys : List (Option Bool)) (t u : Trail) (k : ℕ) : Type 0 where
  pub reached : Reached (held s) (values_of xs) (values_of ys)
  pub ready : Ready s ys u
  pub guards : Guards s x
  pub spots : Spotted s x.used ys w
  pub rows : (j : ℕ) → j < k → Guarded s x w ys u 0 0 j
  pub nowhere : (j : ℕ) → 2 * k ≤ j → j < 2 * s.count → get_or w j 0 ≡ 4294967295
  pub same : Same x₀ x
  pub room : length u.literals.now ≡ length t.literals.now

pub begun_more : (s : Store) (x₀ x y : Index) (w v : List ℕ) (xs ys zs : List (Option Bool)) (t u z : Trail) (k : ℕ) → k < s.count → Begun s x₀ x w xs ys t u k → Reached (held s) (values_of ys) (values_of zs) → Ready s zs z → Visited s k x y w v ys zs u z → length z.literals.now ≡ length u.literals.now → Begun s x₀ y v xs zs t z (k + 1)
begun_more s x₀ x y w v xs ys zs t u z k lt b r ready vis room =
    record {
      reached = reached_more (held s) (values_of xs) (values_of ys) (values_of zs) b.reached r;
      ready = ready;
      guards = vis.guards;
      spots = vis.spots;
      rows = below_more (λ j. Guarded s y v zs z 0 0 j) k (λ j jk. other_guarded s k x y w v ys zs u z ready.sound b.guards vis 0 0 0 (omega arith) j (omega arith) (λ e. omega arith) (λ i. absurd (on_none x.next.now 0 i.0 refl i.1)) (b.rows j jk)) (here_guarded s k x y w v ys zs u z ready.sound b.guards vis 0 0 0 (omega arith) (inr listed));
      nowhere = λ j le jc. vis.others j (λ e. omega arith) (λ e. omega arith) ∙ b.nowhere j (omega arith) jc;
      same = record { heads = vis.grown.same.heads ∙ b.same.heads; next = vis.grown.same.next ∙ b.same.next; owners = vis.grown.same.owners ∙ b.same.owners };
      room = room ∙ b.room;
    }
  where
    short : length (clause_at s k) < 2 ^ 32
    short = row_short s k (clause_at s k) refl lt ready.sound

    listed : (p : ℕ) → p < length (clause_at s k) → Joined s k p w y → Listed y (code_of (get_or (clause_at s k) p (pos 0))) k
    listed p pl (inl e) = absurd (omega (arith, b.nowhere (2 * k) (omega arith) (omega arith), short))
    listed p pl (inr (inl e)) = absurd (omega (arith, b.nowhere (2 * k + 1) (omega arith) (omega arith), short))
    listed p pl (inr (inr l)) = l

-- the row's two places were written
places_others : (w : List ℕ) (k p q : ℕ) (j : ℕ) → (j ≡ 2 * k → ⊥) → (j ≡ 2 * k + 1 → ⊥) → get_or (set (set w (2 * k) p) (2 * k + 1) q) j 0 ≡ get_or w j 0
places_others w k p q j a b = get_or-set_other (set w (2 * k) p) (2 * k + 1) j q 0 b ∙ get_or-set_other w (2 * k) j p 0 a

places_first : (w : List ℕ) (k p q : ℕ) → 2 * k + 1 < length w → get_or (set (set w (2 * k) p) (2 * k + 1) q) (2 * k) 0 ≡ p
places_first w k p q lt =
    let ne : 2 * k ≢ 2 * k + 1 = (λ e. omega arith) in
    get_or-set_other (set w (2 * k) p) (2 * k + 1) (2 * k) q 0 ne ∙ get_or-set_same w (2 * k) p 0 (omega arith)

places_second : (w : List ℕ) (k p q : ℕ) → 2 * k + 1 < length w → get_or (set (set w (2 * k) p) (2 * k + 1) q) (2 * k + 1) 0 ≡ q
places_second w k p q lt = get_or-set_same (set w (2 * k) p) (2 * k + 1) q 0 (simp length-set lt)

-- a place that is joined stays so as entries are added
joined_on : (s : Store) (k p : ℕ) (w : List ℕ) (x y : Index) → Sound s → Guards s x → k < s.count → p < length (clause_at s k) → Grown x y → Joined s k p w x → Joined s k p w y
joined_on s k p w x y ok g lt pl grown (inl e) = inl e
joined_on s k p w x y ok g lt pl grown (inr (inl e)) = inr (inl e)
joined_on s k p w x y ok g lt pl grown (inr (inr l)) = inr (inr (grown.listed _ k (code_listed s x k p ok g lt pl) l))

-- two places of row k are watched now, one after the other
module _ (s : Store) (k p q old other : ℕ) (w : List ℕ) (x y z : Index) (xs : List (Option Bool)) (t : Trail) (ok : Sound s) (lt : k < s.count) (wide : 2 * k + 1 < length w) (pair : Pair xs (clause_at s k) p q) (one : Enlisted s k p w x y) where
  first_there : get_or (set w (2 * k) p) (2 * k) 0 ≡ p
  first_there = get_or-set_same w (2 * k) p 0 (omega arith)

  second_there : get_or (set w (2 * k) p) (2 * k + 1) 0 ≡ get_or w (2 * k + 1) 0
  second_there = let ne : 2 * k + 1 ≢ 2 * k = (λ e. omega arith) in get_or-set_other w (2 * k) (2 * k + 1) p 0 ne

  pub first_spots : old ≡ get_or w (2 * k) 0 → (old < length (clause_at s k) → false_at xs (clause_at s k) old ≡ false → p ≡ old) → Spotted s x.used xs w → Spotted s y.used xs (set w (2 * k) p)
  first_spots is keep h = spots_more s k p x.used xs w ok lt pair.first pair.first_open h y.used (2 * k) _ one.uses refl (omega arith) (inl refl) drops
    where
      drops : (r : ℕ) → r < length (clause_at s k) → get_or w (2 * k) 0 ≡ r → (false_at xs (clause_at s k) r ≡ true) ⊎ Watches (set w (2 * k) p) k r
      drops r rl e = go (false_at xs (clause_at s k) r) refl
        where
          same : old ≡ r
          same = is ∙ e

          go : (b : Bool) → false_at xs (clause_at s k) r ≡ b → (false_at xs (clause_at s k) r ≡ true) ⊎ Watches (set w (2 * k) p) k r
          go true i = inl i
          go false i = inr (inl (first_there ∙ keep (rw same rl) (rw same i) ∙ same))

  pub second_spots : other ≡ get_or w (2 * k + 1) 0 → Kept xs (clause_at s k) other p q → Enlisted s k q (set w (2 * k) p) y z → Spotted s y.used xs (set w (2 * k) p) → Spotted s z.used xs (set (set w (2 * k) p) (2 * k + 1) q)
  second_spots is keep two h = spots_more s k q y.used xs (set w (2 * k) p) ok lt pair.second pair.second_open h z.used (2 * k + 1) _ two.uses refl (simp length-set wide) (inr refl) drops
    where
      drops : (r : ℕ) → r < length (clause_at s k) → get_or (set w (2 * k) p) (2 * k + 1) 0 ≡ r → (false_at xs (clause_at s k) r ≡ true) ⊎ Watches (set (set w (2 * k) p) (2 * k + 1) q) k r
      drops r rl e = go (false_at xs (clause_at s k) r) refl
        where
          same : other ≡ r
          same = is ∙ sym second_there ∙ e

          kept : (p ≡ other) ⊎ (q ≡ other) → Watches (set (set w (2 * k) p) (2 * k + 1) q) k r
          kept (inl i) = inl (places_first w k p q wide ∙ i ∙ same)
          kept (inr i) = inr (places_second w k p q wide ∙ i ∙ same)

          go : (b : Bool) → false_at xs (clause_at s k) r ≡ b → (false_at xs (clause_at s k) r ≡ true) ⊎ Watches (set (set w (2 * k) p) (2 * k + 1) q) k r
          go true i = inl i
          go false i = inr (kept (keep (rw same rl) (rw same i)))

  pub visited_pair : Enlisted s k q (set w (2 * k) p) y z → Spotted s z.used xs (set (set w (2 * k) p) (2 * k + 1) q) → Visited s k x z w (set (set w (2 * k) p) (2 * k + 1) q) xs xs t t
  visited_pair two spots =
      record {
        guards = two.guards;
        grown = grown_more x y z one.grown two.grown;
        others = places_others w k p q;
        moved = moved_none xs t;
        spots = spots;
        here = inr (record {
          pair = rw (places_first w k p q wide, places_second w k p q wide) pair;
          first = rw (places_first w k p q wide) (joined_on s k p w y z ok one.guards lt pair.first two.grown one.joined);
          second = rw (places_second w k p q wide) (back two.joined);
        });
      }
    where
      back : Joined s k q (set w (2 * k) p) z → Joined s k q w z
      back (inl e) = absurd (pair.apart (sym first_there ∙ e))
      back (inr (inl e)) = inr (inl (sym second_there ∙ e))
      back (inr (inr l)) = inr (inr l)

-- a clause with no two places open was looked at
pub visited_look : (s : Store) (k : ℕ) (w : List ℕ) (x : Index) (xs ys : List (Option Bool)) (t u : Trail) (cl : Clause) → cl ≡ clause_at s k → Guards s x → Spotted s x.used xs w → ((p : ℕ) × AllBut xs cl p) → Reached (held s) (values_of xs) (values_of ys) → Examined s k xs ys t u → Visited s k x x w w xs ys t u
visited_look s k w x xs ys t u cl is g spots none r e =
    record {
      guards = g;
      grown = grown_none x;
      others = λ j a b. refl;
      moved = moved_look s k xs ys t u r e;
      spots = spots_below s x.used xs ys w r.below spots;
      here = inl (look_satisfied xs ys (clause_at s k) none.0 r.below (subst (λ (c : Clause). AllBut xs c none.0) is none.1) e.here);
    }

pub same_none : (x : Index) → Same x x
same_none x = record { heads = refl; next = refl; owners = refl }

pub same_more : (x y z : Index) → Same x y → Same y z → Same x z
same_more x y z a b = record { heads = b.heads ∙ a.heads; next = b.next ∙ a.next; owners = b.owners ∙ a.owners }

pub same_of : (x y : Index) → length y.heads.now ≡ length x.heads.now → length y.next.now ≡ length x.next.now → length y.owners.now ≡ length x.owners.now → Same x y
same_of x y a b c = record { heads = a; next = b; owners = c }

pub visited_examine : {E : Type 0} (s : Store) (k : ℕ) (w : List ℕ) (x : Index) (xs ys : List (Option Bool)) (t u : Trail) (cl : Clause) (r : Result (Unit {0}) E) → cl ≡ clause_at s k → Guards s x → Spotted s x.used xs w → ((p : ℕ) × AllBut xs cl p) → Advanced (held s) xs ys (is_err r) → OnOk r (Examined s k xs ys t u) → OnOk r (Visited s k x x w w xs ys t u)
visited_examine s k w x xs ys t u cl (Err e) is g spots none goes examined = tt
visited_examine s k w x xs ys t u cl (Ok a) is g spots none goes examined = visited_look s k w x xs ys t u cl is g spots none goes examined

pub begun_none : (s : Store) (x₀ x : Index) (w : List ℕ) (xs : List (Option Bool)) (t : Trail) → Ready s xs t → Same x₀ x → Guards s x → x.used ≡ 0 → ((k : ℕ) → k < 2 * s.count → get_or w k 0 ≡ 4294967295) → Begun s x₀ x w xs xs t t 0
begun_none s x₀ x w xs t ready same g e h =
    record {
      reached = reached_none (held s) (values_of xs);
      ready = ready;
      guards = g;
      spots = spots_none s x.used xs w e;
      rows = λ j lt. absurd (omega arith);
      nowhere = λ j le lt. h j lt;
      same = same;
      room = refl;
    }
