-- A plan that beats the counts gives an assignment that makes every opening clause true.
use Rattle.std.proofs.Common.{◌≡◌, ℕ, zero, suc, ◌+◌, ◌-◌, ◌*◌, ◌<◌, ◌≤◌, Bool, true, false, cond, not, ◌||◌, T, ltb, leb, ◌⊎◌, List, [], ◌∷◌, ◌++◌, length, get_or, take, sym, refl, ap, ◌∙◌, subst, inl, inr, ⊎_elim, arith, ltb→lt, lt→ltb, leb→le}
use Rattle.std.proofs.lemmas.Bool.{cases_lt, cases_order}
use Rattle.std.proofs.lemmas.Nat.{mul-add-lt}
use Rattle.text.specs.Lists.{up_from, each, keep, some, how_many, Each}
use Rattle.problem.specs.Cudf.{Problem, Numbered, Chosen, PlanOverSets, names, installed_name, installed_names, versions_of, is_removed, is_changed, differs, removed_count, changed_count}
use Rattle.text.specs.Literals.{Clause, lit, neg, is_true, makes_true}
use Rattle.problem.specs.PlanClauses.{plan_clauses}
use Rattle.verdict.specs.Opening.{register, counter, first_removed, inputs, all_names, first_changed, choice, first_s, first_t, removed_clauses, changed_clauses, at_most_r, fewer_r, fewer_c, opening}
use Rattle.verdict.specs.Law.{Unbeaten}
use Rattle.text.proofs.Members.{each_weaker, each_append, each-each, each_from_every, or_cases, or_left, or_right, and_left, and_both, some_left, some_right}
use Rattle.verdict.proofs.Rup.{True}
use Rattle.verdict.proofs.Counters.{back, two_true, each_up_from, Registers, counter_true}
use Rattle.verdict.proofs.Laid.{laid, laid_1, laid_2, laid_3, laid_4, laid_5, laid_6, tally, tally_at, register_at, Reads, reads_from, reads_count, length_up_from, take_all, how_many_le, how_many-keep}
use Rattle.problem.proofs.Agreement.{plans_agree}
use Rattle.verdict.proofs.Ranges.{Between, versions_between, plan_within, all_same_true}

-- register (i, j) says that at least j of the first i members pass the test
abbrev Tallied : {X : Type 0} → Chosen → ℕ → ℕ → (X → Bool) → List X → Type 0
Tallied A base K p xs = (i j : ℕ) → i < length xs → j < K → A (register base K (suc i) (suc j)) ≡ leb (suc j) (how_many p (take (suc i) xs))

-- inputs that read the test from the variable v on
registers_from : {X : Type 0} (A : Chosen) (base K v : ℕ) (p : X → Bool) (xs : List X) → Reads A p v xs → Tallied A base K p xs → Registers A base K (up_from v (length xs))
registers_from A base K v p xs h t i j l u =
    t i j (omega (arith, length_up_from v (length xs))) u ∙ ap (leb (suc j)) (sym (reads_count A p v xs (suc i) h))

counted : {X : Type 0} (A : Chosen) (base K v : ℕ) (p : X → Bool) (xs : List X) → 1 ≤ base → 1 ≤ v → Reads A p v xs → Tallied A base K p xs → Each (True A) (counter base K 1 (up_from v (length xs)))
counted A base K v p xs b l h t =
    counter_true A base K (up_from v (length xs)) b (each_up_from (λ x. 1 ≤ x) v (length xs) (λ j d u. omega arith)) (registers_from A base K v p xs h t)

last_register : {X : Type 0} (A : Chosen) (base K : ℕ) (p : X → Bool) (xs : List X) → Tallied A base K p xs → (n j : ℕ) → n ≡ length xs → 1 ≤ n → j < K → T (A (register base K n (suc j))) → suc j ≤ how_many p xs
last_register A base K p xs t zero j e l u h = absurd (omega arith)
last_register {X} A base K p xs t (suc i) j e l u h =
    leb→le (suc j) (how_many p xs) (subst T (t i j (omega arith) u ∙ ap (λ (ys : List X). leb (suc j) (how_many p ys)) (ap (λ y. take y xs) e ∙ take_all xs)) h)

-- what an assignment has to read, for a plan that beats r and c
record Told (q : Problem) (r c : ℕ) (other A : Chosen) : Type 0 where
  stanza : (v : ℕ) → v ≤ length q.packages → A v ≡ other v
  removed : Reads A (is_removed q other) (first_removed q r c) (installed_names q)
  changed : Reads A (is_changed q other) (first_changed q r c) (names q)
  choose : A (choice q r c) ≡ ltb (removed_count q other) r
  removals : Tallied A (first_s q r c) (suc r) (is_removed q other) (installed_names q)
  changes : Tallied A (first_t q r c) c (is_changed q other) (names q)

told_by : Problem → ℕ → ℕ → Chosen → Chosen
told_by q r c other =
    laid (first_removed q r c) (inputs q r c) (all_names q r c) (inputs q r c * suc r) other (λ k. is_removed q other (get_or (installed_names q) k [])) (λ k. is_changed q other (get_or (names q) k []))
    (ltb (removed_count q other) r) (tally (is_removed q other) (installed_names q) (suc r)) (tally (is_changed q other) (names q) c)

module _ (q : Problem) (r c : ℕ) (other : Chosen) where
  told : Told q r c other (told_by q r c other)
  unfolding told_by
  told = record {
    stanza = λ v l. laid_1 F I N S other g h z s t v (omega arith);
    removed = reads_from A (is_removed q other) [] F (installed_names q) (λ k l. laid_2 F I N S other g h z s t k l);
    changed = reads_from A (is_changed q other) [] (F + I) (names q) (λ k l. laid_3 F I N S other g h z s t k l);
    choose = laid_4 F I N S other g h z s t;
    removals = λ i j l u. laid_5 F I N S other g h z s t (register (suc (F + I + N)) (suc r) (suc i) (suc j)) (i * suc r + j) (register_at (suc (F + I + N)) (suc r) i j) (omega (arith, mul-add-lt i (suc r) j I l u)) ∙ tally_at (is_removed q other) (installed_names q) (suc r) i j u;
    changes = λ i j l u. laid_6 F I N S other g h z s t (register (suc (F + I + N) + S) c (suc i) (suc j)) (i * c + j) (register_at (suc (F + I + N) + S) c i j) ∙ tally_at (is_changed q other) (names q) c i j u;
  }
    where
      F : ℕ
      F = first_removed q r c

      I : ℕ
      I = inputs q r c

      N : ℕ
      N = all_names q r c

      S : ℕ
      S = I * suc r

      g : ℕ → Bool
      g k = is_removed q other (get_or (installed_names q) k [])

      h : ℕ → Bool
      h k = is_changed q other (get_or (names q) k [])

      z : Bool
      z = ltb (removed_count q other) r

      s : ℕ → Bool
      s = tally (is_removed q other) (installed_names q) (suc r)

      t : ℕ → Bool
      t = tally (is_changed q other) (names q) c

      A : Chosen
      A = laid F I N S other g h z s t

one_false : (A : Chosen) (v : ℕ) → 1 ≤ v → (T (A v) → ⊥) → True A (neg v ∷ [])
one_false A v h f = subst (λ w. T (not (A w) || false)) (sym (back v h)) (denies (A v) f)
  where
    denies : (b : Bool) → (T b → ⊥) → T (not b || false)
    denies true f = f tt
    denies false f = tt

two_false : (A : Chosen) (u v : ℕ) → 1 ≤ u → 1 ≤ v → (T (A u) → T (A v) → ⊥) → True A (neg u ∷ neg v ∷ [])
two_false A u v h k f = subst (λ w. T (not (A w) || (not (A (suc (v - 1))) || false))) (sym (back u h)) (denies (A u) _ (λ t. one_false A v k (f t)))
  where
    denies : (b d : Bool) → (T b → T d) → T (not b || d)
    denies true d f = f tt
    denies false d f = tt

-- each member, with what its passing the test shows
each_some : {X : Type 0} (p : X → Bool) (P : X → Type 0) (xs : List X) → Each P xs → Each (λ x. P x × (T (p x) → T (some p xs))) xs
each_some p P [] h = tt
each_some p P (x ∷ xs) h = (
  (h.0, or_left (p x) (some p xs)),
  each_weaker (λ y. P y × (T (p y) → T (some p xs))) (λ y. P y × (T (p y) → T (p x || some p xs))) (λ y k. (k.0, λ t. or_right (p x) (some p xs) (k.1 t))) xs (each_some p P xs h.1),
)

keep_passes : {X : Type 0} (t : X → Bool) (xs : List X) → Each (λ x. T (t x)) (keep t xs)
keep_passes t [] = tt
keep_passes t (x ∷ xs) = pick (t x) refl (keep_passes t xs)
  where
    pick : (b : Bool) → t x ≡ b → Each (λ y. T (t y)) (keep t xs) → Each (λ y. T (t y)) (cond b (x ∷ keep t xs) (keep t xs))
    pick true e h = (subst T (sym e) tt, h)
    pick false e h = h

module _ (q : Problem) (r c : ℕ) (other A : Chosen) (told' : Told q r c other A) where
  versions_true : (xs : List Numbered) → Each (λ i. Between (length q.packages) i.number) xs → T (some (λ i. other i.number) xs) → T (some (is_true A) (each (λ i. lit i.number) xs))
  versions_true [] h t = t
  versions_true (i ∷ xs) h t =
      ⊎_elim (λ u. or_left (A i.number) _ (subst T (sym (told'.stanza i.number h.0.1)) u)) (λ u. or_right (A i.number) _ (versions_true xs h.1 u)) (or_cases (other i.number) _ t)

  removed_true : (v : ℕ) (ns : List (List ℕ)) → Reads A (is_removed q other) v ns → Each (λ n. T (installed_name q n)) ns → Each (True A) (removed_clauses q r c v ns)
  removed_true v [] h g = tt
  removed_true v (n ∷ ns) h g = (pick (some (λ i. other i.number) (versions_of q n)) refl, removed_true (suc v) ns h.1 g.1)
    where
      any : Clause
      any = each (λ i. lit i.number) (versions_of q n)

      pick : (b : Bool) → some (λ i. other i.number) (versions_of q n) ≡ b → True A (any ++ lit v ∷ [])
      pick true e = some_left (is_true A) any (lit v ∷ []) (versions_true (versions_of q n) (versions_between q n) (subst T (sym e) tt))
      pick false e = some_right (is_true A) any (lit v ∷ []) (or_left (A v) false (subst T (sym h.0) (and_both (installed_name q n) _ g.0 (subst (λ b. T (not b)) (sym e) tt))))

  kept_or : (x y : Bool) → (T (differs x true) → T y) → T (x || (y || false))
  kept_or true y f = tt
  kept_or false y f = or_left y false (f tt)

  came_or : (x y : Bool) → (T (differs x false) → T y) → T x → T y
  came_or true y f t = f tt
  came_or false y f t = absurd t

  changed_one : (v : ℕ) (i : Numbered) → Between (length q.packages) i.number → (T (differs (other i.number) i.stanza.installed) → T (A v)) →
      True A (cond i.stanza.installed (lit i.number) (neg i.number) ∷ lit v ∷ [])
  changed_one v i h f =
      (elim i.stanza.installed as (λ b. (T (differs (other i.number) b) → T (A v)) → True A (cond b (lit i.number) (neg i.number) ∷ lit v ∷ [])) [
        | true ↦ λ k. subst (λ x. T (x || (A v || false))) (sym e) (kept_or (other i.number) (A v) k)
        | false ↦ λ k. two_true A i.number v h.0 (λ t. came_or (other i.number) (A v) k (subst T e t))
      ]) f
    where
      e : A i.number ≡ other i.number
      e = told'.stanza i.number h.1

  changed_true : (v : ℕ) (ns : List (List ℕ)) → Reads A (is_changed q other) v ns → Each (True A) (changed_clauses q r c v ns)
  changed_true v [] h = tt
  changed_true v (n ∷ ns) h =
      each_append (True A) (each one (versions_of q n)) (changed_clauses q r c (suc v) ns)
      (each-each (True A) one (versions_of q n) (each_weaker P (λ i. True A (one i)) (λ i k. changed_one v i k.0 (λ t. subst T (sym h.0) (k.1 t))) (versions_of q n)
      (each_some differs' (λ i. Between (length q.packages) i.number) (versions_of q n) (versions_between q n))))
      (changed_true (suc v) ns h.1)
    where
      differs' : Numbered → Bool
      differs' i = differs (other i.number) i.stanza.installed

      P : Numbered → Type 0
      P i = Between (length q.packages) i.number × (T (differs' i) → T (some differs' (versions_of q n)))

      one : Numbered → Clause
      one i = cond i.stanza.installed (lit i.number) (neg i.number) ∷ lit v ∷ []

  removed_is : how_many (is_removed q other) (installed_names q) ≡ removed_count q other
  removed_is = how_many-keep (is_removed q other) (installed_name q) (λ n t. and_left (installed_name q n) _ t) (names q)

  last_removal : (m j : ℕ) → m ≡ inputs q r c → 1 ≤ m → j < suc r → T (A (register (first_s q r c) (suc r) m (suc j))) → suc j ≤ removed_count q other
  last_removal m j e l u t = omega (arith, removed_is, last_register A (first_s q r c) (suc r) (is_removed q other) (installed_names q) told'.removals m j e l u t)

  at_most_true : removed_count q other ≤ r → (m : ℕ) → m ≡ inputs q r c → Each (True A) (at_most_r q r c m)
  at_most_true b zero e = tt
  at_most_true b (suc m) e =
      (one_false A (register (first_s q r c) (suc r) (suc m) (suc r)) (omega arith) (λ t. omega (arith, last_removal (suc m) r e (omega arith) (omega arith) t)), tt)

  chosen : T (A (choice q r c)) → removed_count q other < r
  chosen t = ltb→lt (removed_count q other) r (subst T told'.choose t)

  choice_true : removed_count q other < r → T (A (choice q r c))
  choice_true l = subst T (sym told'.choose) (lt→ltb (removed_count q other) r l)

  fewer_r_true : r ≤ inputs q r c → (k : ℕ) → k ≡ r → True A (fewer_r q r c k)
  fewer_r_true b zero e = one_false A (choice q r c) (omega arith) (λ t. omega (arith, chosen t))
  fewer_r_true b (suc k) e =
      two_false A (choice q r c) (register (first_s q r c) (suc r) (inputs q r c) (suc k)) (omega arith) (omega arith)
      (λ t u. omega (arith, chosen t, last_removal (inputs q r c) k refl (omega arith) (omega arith) u))

  fewer_c_true : c ≤ all_names q r c → (removed_count q other < r) ⊎ (changed_count q other < c) → (k : ℕ) → k ≡ c → True A (fewer_c q r c k)
  fewer_c_true b (inl l) zero e = or_left (A (choice q r c)) _ (choice_true l)
  fewer_c_true b (inl l) (suc k) e = or_left (A (choice q r c)) _ (choice_true l)
  fewer_c_true b (inr l) zero e = absurd (omega arith)
  fewer_c_true b (inr l) (suc k) e =
      or_right (A (choice q r c)) _ (one_false A (register (first_t q r c) c (all_names q r c) (suc k)) (omega arith)
      (λ t. omega (arith, last_register A (first_t q r c) c (is_changed q other) (names q) told'.changes (all_names q r c) k refl (omega arith) (omega arith) t)))

  opening_made : PlanOverSets q other → r ≤ inputs q r c → c ≤ all_names q r c → removed_count q other ≤ r → (removed_count q other < r) ⊎ (changed_count q other < c) → Each (True A) (opening q r c)
  opening_made p br bc le beats =
      each_append (True A) (plan ++ rem ++ chg ++ cs ++ ct ++ top) (fewer_r q r c r ∷ fewer_c q r c c ∷ [])
      (each_append (True A) (plan ++ rem ++ chg ++ cs ++ ct) top
      (each_append (True A) (plan ++ rem ++ chg ++ cs) ct
      (each_append (True A) (plan ++ rem ++ chg) cs
      (each_append (True A) (plan ++ rem) chg
      (each_append (True A) plan rem
      (all_same_true A other (length q.packages) told'.stanza plan (plan_within q) (each_from_every (makes_true other) plan ((plans_agree.clauses q other).1 p)))
      (removed_true (first_removed q r c) (installed_names q) told'.removed (keep_passes (installed_name q) (names q))))
      (changed_true (first_changed q r c) (names q) told'.changed))
      (counted A (first_s q r c) (suc r) (first_removed q r c) (is_removed q other) (installed_names q) (omega arith) (omega arith) told'.removed told'.removals))
      (counted A (first_t q r c) c (first_changed q r c) (is_changed q other) (names q) (omega arith) (omega arith) told'.changed told'.changes))
      (at_most_true le (inputs q r c) refl))
      (fewer_r_true br r refl, (fewer_c_true bc beats c refl, tt))
    where
      plan : List Clause
      plan = plan_clauses q

      rem : List Clause
      rem = removed_clauses q r c (first_removed q r c) (installed_names q)

      chg : List Clause
      chg = changed_clauses q r c (first_changed q r c) (names q)

      cs : List Clause
      cs = counter (first_s q r c) (suc r) 1 (up_from (first_removed q r c) (inputs q r c))

      ct : List Clause
      ct = counter (first_t q r c) c 1 (up_from (first_changed q r c) (all_names q r c))

      top : List Clause
      top = at_most_r q r c (inputs q r c)

-- so where nothing makes them all true, no plan beats the counts
pub unbeaten : (q : Problem) (r c : ℕ) → r ≤ inputs q r c → c ≤ all_names q r c → ((A : Chosen) → Each (True A) (opening q r c) → ⊥) → Unbeaten q (record { removed = r; changed = c })
unbeaten q r c br bc none other p = by-removed (cases_order (removed_count q other) r)
  where
    beaten : removed_count q other ≤ r → (removed_count q other < r) ⊎ (changed_count q other < c) → ⊥
    beaten le b = none (told_by q r c other) (opening_made q r c other (told_by q r c other) (told q r c other) p br bc le b)

    by-changed : removed_count q other ≡ r → (changed_count q other < c) ⊎ (c ≤ changed_count q other) → c ≤ changed_count q other
    by-changed e (inl l) = absurd (beaten (omega arith) (inr l))
    by-changed e (inr l) = l

    by-removed : (removed_count q other ≡ r) ⊎ ((removed_count q other < r) ⊎ (r < removed_count q other)) → (r < removed_count q other) ⊎ ((removed_count q other ≡ r) × (c ≤ changed_count q other))
    by-removed (inl e) = inr (e, by-changed e (cases_lt (changed_count q other) c))
    by-removed (inr (inl l)) = absurd (beaten (omega arith) (inl l))
    by-removed (inr (inr l)) = inl l

-- the counts of a set are within the numbers of inputs
pub removed_bound : (q : Problem) (s : Chosen) → removed_count q s ≤ length (installed_names q)
removed_bound q s = omega (arith, how_many_le (is_removed q s) (installed_names q), how_many-keep (is_removed q s) (installed_name q) (λ n t. and_left (installed_name q n) _ t) (names q))

pub changed_bound : (q : Problem) (s : Chosen) → changed_count q s ≤ length (names q)
changed_bound q s = how_many_le (is_changed q s) (names q)
