-- Every clause of an opening has its literals by rising variable, from 1 to V; so it is well-formed.
use Rattle.std.proofs.Common.{◌≡◌, ℕ, zero, suc, ◌+◌, ◌-◌, ◌*◌, ◌<◌, ◌≤◌, Bool, true, false, cond, not, ◌||◌, T, eqb, ltb, leb, List, [], ◌∷◌, ◌++◌, length, pos, sym, refl, ap, subst, suc-mul, arith, le→leb, eqb→eq}
use lib.Dec.{eqb_refl}
use Rattle.std.proofs.lemmas.Bool.{ltb-true, ltb-false}
use Rattle.std.proofs.lemmas.Nat.{mul-add-lt}
use Rattle.text.specs.Lists.{up_from, each, each_all, keep, some, Each}
use Rattle.std.specs.Str.{bytes_eq}
use Rattle.problem.specs.Cudf.{Problem, Package, Constraint, Numbered, numbered, stanzas, satisfies, versions_of, names, installed_names, removed_count, changed_count}
use Rattle.text.specs.Literals.{Clause, lit, neg, variable_of}
use Rattle.problem.specs.PlanClauses.{put, needs, meeting, not_both, of_stanza, plan_clauses}
use Rattle.verdict.specs.Opening.{register, counter_input, counter, first_removed, inputs, all_names, first_changed, choice, first_s, first_t, variables, removed_clauses, changed_clauses, at_most_r, fewer_r, fewer_c, opening}
use Rattle.clauses.specs.ClauseBase.{well_formed}
use Rattle.verdict.specs.Session.{Answer, fail, set, opening_variables, opening_clauses}
use Rattle.text.proofs.Members.{and_both, each_since, each_weaker, each_append, each-each, each_each_all}
use Rattle.verdict.proofs.Counters.{each_up_from}
use Rattle.verdict.proofs.Laid.{register_at, length_up_from}
use Rattle.verdict.proofs.Ranges.{Between, stanzas_between, versions_between}
use Rattle.verdict.proofs.Better.{removed_bound, changed_bound}

-- each clause of an opening is well-formed
abbrev pub Formed : Problem → Answer → Type 0
Formed q a = Each (λ c. T (well_formed (opening_variables q a) c)) (opening_clauses q a)

-- the variables rise, from above lo up to hi
abbrev Rising : ℕ → ℕ → Clause → Type 0
Rising lo hi [] = Unit {0}
Rising lo hi (l ∷ ls) = (lo < variable_of l) × (variable_of l ≤ hi) × Rising (variable_of l) hi ls

no_later : (v lo hi : ℕ) (ls : Clause) → v ≤ lo → Rising lo hi ls → T (not (some (λ k. eqb (variable_of k) v) ls))
no_later v lo hi [] h r = tt
no_later v lo hi (l ∷ ls) h r = pick (eqb (variable_of l) v) refl (no_later v (variable_of l) hi ls (omega arith) r.2)
  where
    pick : (b : Bool) → eqb (variable_of l) v ≡ b → T (not (some (λ k. eqb (variable_of k) v) ls)) → T (not (b || some (λ k. eqb (variable_of k) v) ls))
    pick true e t = let same : variable_of l ≡ v = eqb→eq (variable_of l) v (subst T (sym e) tt) in absurd (omega arith)
    pick false e t = t

rising_formed : (lo hi : ℕ) (c : Clause) → Rising lo hi c → T (well_formed hi c)
rising_formed lo hi [] r = tt
rising_formed lo hi (l ∷ ls) r =
    and_both _ (well_formed hi ls)
    (and_both _ (not (some (λ k. eqb (variable_of k) (variable_of l)) ls))
    (and_both (leb 1 (variable_of l)) (leb (variable_of l) hi) (le→leb 1 (variable_of l) (omega arith)) (le→leb (variable_of l) hi r.1))
    (no_later (variable_of l) (variable_of l) hi ls (omega arith) r.2))
    (rising_formed (variable_of l) hi ls r.2)

-- room above
rising_more : (lo hi hi' : ℕ) (c : Clause) → hi ≤ hi' → Rising lo hi c → Rising lo hi' c
rising_more lo hi hi' [] h r = tt
rising_more lo hi hi' (l ∷ ls) h r = (r.0, omega arith, rising_more (variable_of l) hi hi' ls h r.2)

rising_last : (lo hi v V : ℕ) (c : Clause) → hi < v → lo < v → v ≤ V → Rising lo hi c → Rising lo V (c ++ lit v ∷ [])
rising_last lo hi v V [] h g u r = (g, u, tt)
rising_last lo hi v V (l ∷ ls) h g u r = (r.0, omega arith, rising_last (variable_of l) hi v V ls h (omega arith) u r.2)

-- numbers that rise
abbrev Up : ℕ → ℕ → List ℕ → Type 0
Up lo hi [] = Unit {0}
Up lo hi (j ∷ js) = (lo < j) × (j ≤ hi) × Up j hi js

kept_up : (t : Numbered → Bool) (lo hi k : ℕ) (ps : List Package) → lo < k → k + length ps ≤ suc hi → Up lo hi (each (λ i. i.number) (keep t (numbered k ps)))
kept_up t lo hi k [] h g = tt
kept_up t lo hi k (p ∷ ps) h g =
    elim (t (record { number = k; stanza = p })) as (λ b. Up lo hi (each (λ i. i.number) (cond b (record { number = k; stanza = p } ∷ keep t (numbered (suc k) ps)) (keep t (numbered (suc k) ps))))) [
      | true ↦ (h, omega arith, kept_up t k hi (suc k) ps (omega arith) (omega arith))
      | false ↦ kept_up t lo hi (suc k) ps (omega arith) (omega arith)
    ]

yes_rising : (lo hi : ℕ) (js : List ℕ) → Up lo hi js → Rising lo hi (each lit js)
yes_rising lo hi [] u = tt
yes_rising lo hi (j ∷ js) u = (u.0, u.1, yes_rising j hi js u.2)

yes_number : (lo hi : ℕ) (xs : List Numbered) → Up lo hi (each (λ i. i.number) xs) → Rising lo hi (each (λ i. lit i.number) xs)
yes_number lo hi [] u = tt
yes_number lo hi (x ∷ xs) u = (u.0, u.1, yes_number x.number hi xs u.2)

put_rising : (lo hi i : ℕ) (js : List ℕ) → lo < i → i ≤ hi → T (not (some (eqb i) js)) → Up lo hi js → Rising lo hi (put i js)
put_rising lo hi i [] l h n u = (omega arith, omega arith, tt)
put_rising lo hi i (j ∷ js) l h n u = pick (ltb i j) refl (eqb i j) refl n (λ g m. put_rising j hi i js g h m u.2)
  where
    pick : (b : Bool) → ltb i j ≡ b → (d : Bool) → eqb i j ≡ d → T (not (d || some (eqb i) js)) → (j < i → T (not (some (eqb i) js)) → Rising j hi (put i js)) →
        Rising lo hi (cond b (neg i ∷ each lit (j ∷ js)) (lit j ∷ put i js))
    pick true e d f n rec =
        let less : i < j = ltb-true i j e in
        (omega arith, omega arith, (omega arith, u.1, yes_rising j hi js u.2))
    pick false e true f n rec = absurd n
    pick false e false f n rec = (u.0, u.1, rec below n)
      where
        below : j < i
        below = apart (j - i) (i - j) refl refl
          where
            apart : (x y : ℕ) → j - i ≡ x → i - j ≡ y → j < i
            apart x zero p p' =
                let le : j ≤ i = ltb-false i j e in
                let same : i ≡ j = omega arith in
                absurd (subst T f (subst (λ z. T (eqb i z)) same (eqb_refl i)))
            apart x (suc y) p p' = omega arith

needs_rising : (hi i : ℕ) (js : List ℕ) → 0 < i → i ≤ hi → Up 0 hi js → Each (Rising 0 hi) (needs i js)
needs_rising hi i js l h u = pick (some (eqb i) js) refl
  where
    pick : (b : Bool) → some (eqb i) js ≡ b → Each (Rising 0 hi) (cond b [] (put i js ∷ []))
    pick true e = tt
    pick false e = (put_rising 0 hi i js l h (subst (λ y. T (not y)) (sym e) tt) u, tt)

not_both_rising : (hi i j : ℕ) → 0 < i → i ≤ hi → 0 < j → j ≤ hi → T (not (eqb i j)) → Rising 0 hi (not_both i j)
not_both_rising hi i j l h l' h' n = pick (ltb i j) refl
  where
    pick : (b : Bool) → ltb i j ≡ b → Rising 0 hi (cond b (neg i ∷ neg j ∷ []) (neg j ∷ neg i ∷ []))
    pick true e = let less : i < j = ltb-true i j e in (omega arith, omega arith, (omega arith, omega arith, tt))
    pick false e = (omega arith, omega arith, (apart (i - j) refl, omega arith, tt))
      where
        apart : (y : ℕ) → i - j ≡ y → suc (j - 1) < suc (i - 1)
        apart zero p =
            let le : j ≤ i = ltb-false i j e in
            let same : i ≡ j = omega arith in
            absurd (denies (eqb i j) n (subst (λ z. T (eqb i z)) same (eqb_refl i)))
          where
            denies : (b : Bool) → T (not b) → T b → ⊥
            denies true t u = t
            denies false t u = u
        apart (suc y) p = omega arith

module _ (q : Problem) where
  abbrev L : ℕ
  L = length q.packages

  meeting_up : (cs : List Constraint) → Up 0 L (meeting q cs)
  meeting_up cs = kept_up (λ k. some (λ c. satisfies c k.stanza) cs) 0 L 1 q.packages (omega arith) (omega arith)

  up_between : (lo : ℕ) (js : List ℕ) → Up lo L js → Each (λ j. (0 < j) × (j ≤ L)) js
  up_between lo [] u = tt
  up_between lo (j ∷ js) u = ((omega arith, u.1), up_between j js u.2)

  conflict_rising : (i : ℕ) → Between L i → (js : List ℕ) → Each (λ j. (0 < j) × (j ≤ L)) js → Each (Rising 0 L) (each (not_both i) (keep (λ j. not (eqb i j)) js))
  conflict_rising i b [] h = tt
  conflict_rising i b (j ∷ js) h = pick (not (eqb i j)) refl (conflict_rising i b js h.1)
    where
      pick : (t : Bool) → not (eqb i j) ≡ t → Each (Rising 0 L) (each (not_both i) (keep (λ j. not (eqb i j)) js)) →
          Each (Rising 0 L) (each (not_both i) (cond t (j ∷ keep (λ j. not (eqb i j)) js) (keep (λ j. not (eqb i j)) js)))
      pick true e r = (not_both_rising L i j b.0 b.1 h.0.0 h.0.1 (subst T (sym e) tt), r)
      pick false e r = r

  of_stanza_rising : (i : Numbered) → Between L i.number → Each (Rising 0 L) (of_stanza q i)
  of_stanza_rising i h =
      each_append (Rising 0 L) (each_all dep i.stanza.depends) (each_all con i.stanza.conflicts)
      (each_each_all (Rising 0 L) dep i.stanza.depends (each_since (λ cs. Each (Rising 0 L) (dep cs)) (λ cs. needs_rising L i.number (meeting q cs) h.0 h.1 (meeting_up cs)) i.stanza.depends))
      (each_each_all (Rising 0 L) con i.stanza.conflicts (each_since (λ c. Each (Rising 0 L) (con c)) (λ c. conflict_rising i.number h (meeting q (c ∷ [])) (up_between 0 (meeting q (c ∷ [])) (meeting_up (c ∷ [])))) i.stanza.conflicts))
    where
      dep : List Constraint → List Clause
      dep cs = needs i.number (meeting q cs)

      con : Constraint → List Clause
      con c = each (not_both i.number) (keep (λ j. not (eqb i.number j)) (meeting q (c ∷ [])))

  plan_rising : Each (Rising 0 L) (plan_clauses q)
  plan_rising =
      each_append (Rising 0 L) (each_all (of_stanza q) (stanzas q) ++ each inst q.install) (each_all rem q.remove)
      (each_append (Rising 0 L) (each_all (of_stanza q) (stanzas q)) (each inst q.install)
      (each_each_all (Rising 0 L) (of_stanza q) (stanzas q) (each_weaker (λ i. Between L i.number) (λ i. Each (Rising 0 L) (of_stanza q i)) of_stanza_rising (stanzas q) (stanzas_between q)))
      (each-each (Rising 0 L) inst q.install (each_since (λ c. Rising 0 L (inst c)) (λ c. yes_rising 0 L (meeting q (c ∷ [])) (meeting_up (c ∷ []))) q.install)))
      (each_each_all (Rising 0 L) rem q.remove (each_since (λ c. Each (Rising 0 L) (rem c))
      (λ c. each-each (Rising 0 L) (λ j. neg j ∷ []) (meeting q (c ∷ [])) (each_weaker (λ j. (0 < j) × (j ≤ L)) (λ j. Rising 0 L (neg j ∷ [])) (λ j g. (omega arith, omega arith, tt)) (meeting q (c ∷ [])) (up_between 0 (meeting q (c ∷ [])) (meeting_up (c ∷ []))))) q.remove))
    where
      inst : Constraint → Clause
      inst c = each lit (meeting q (c ∷ []))

      rem : Constraint → List Clause
      rem c = each (λ j. neg j ∷ []) (meeting q (c ∷ []))

-- the clauses of a counter, whose inputs lie below its registers
module _ (base k V : ℕ) (b : 1 ≤ base) where
  at_register : (n i j : ℕ) → base + n * suc k ≤ suc V → i < n → j < suc k → register base (suc k) (suc i) (suc j) ≤ V
  at_register n i j u h g = omega (arith, register_at base (suc k) i j, mul-add-lt i (suc k) j n h g)

  next_row : (i j j' : ℕ) → j ≤ j' → register base (suc k) (suc i) (suc j) < register base (suc k) (suc (suc i)) (suc j')
  next_row i j j' h = omega (arith, register_at base (suc k) i j, register_at base (suc k) (suc i) j', suc-mul i (suc k))

  input_rising : (n i x : ℕ) → base + n * suc k ≤ suc V → i < n → 1 ≤ x → x < base → Each (Rising 0 V) (counter_input base (suc k) (neg x) (suc i))
  input_rising n zero x u h l g = ((omega arith, omega (arith, at_register n 0 0 u h (omega arith)), (omega (arith, register_at base (suc k) 0 0), at_register n 0 0 u h (omega arith), tt)), tt)
  input_rising n (suc i) x u h l g =
      each_append (Rising 0 V) (head ++ each keeps (up_from 1 (suc k))) (each adds (up_from 1 k))
      (each_append (Rising 0 V) head (each keeps (up_from 1 (suc k))) (first, tt)
      (each-each (Rising 0 V) keeps (up_from 1 (suc k)) (each_up_from (λ j. Rising 0 V (keeps j)) 1 (suc k) keep_one)))
      (each-each (Rising 0 V) adds (up_from 1 k) (each_up_from (λ j. Rising 0 V (adds j)) 1 k add-one'))
    where
      s : ℕ → ℕ
      s j = register base (suc k) (suc i) j

      s' : ℕ → ℕ
      s' j = register base (suc k) (suc (suc i)) j

      head : List Clause
      head = (neg x ∷ pos (s' 1) ∷ []) ∷ []

      keeps : ℕ → Clause
      keeps j = neg (s j) ∷ pos (s' j) ∷ []

      adds : ℕ → Clause
      adds j = neg x ∷ neg (s j) ∷ pos (s' (suc j)) ∷ []

      first : Rising 0 V (neg x ∷ pos (s' 1) ∷ [])
      first = (omega arith, omega (arith, at_register n (suc i) 0 u h (omega arith)), (omega (arith, register_at base (suc k) (suc i) 0), at_register n (suc i) 0 u h (omega arith), tt))

      keep_one : (j : ℕ) → 1 ≤ j → j < 1 + suc k → Rising 0 V (keeps j)
      keep_one zero l' u' = absurd (omega arith)
      keep_one (suc j) l' u' =
          let v : register base (suc k) (suc (suc i)) (suc j) ≤ V = at_register n (suc i) j u h (omega arith) in
          let w : register base (suc k) (suc i) (suc j) < register base (suc k) (suc (suc i)) (suc j) = next_row i j j (omega arith) in
          (omega arith, omega arith, (omega arith, v, tt))

      add-one' : (j : ℕ) → 1 ≤ j → j < 1 + k → Rising 0 V (adds j)
      add-one' zero l' u' = absurd (omega arith)
      add-one' (suc j) l' u' =
          let v : register base (suc k) (suc (suc i)) (suc (suc j)) ≤ V = at_register n (suc i) (suc j) u h (omega arith) in
          let w : register base (suc k) (suc i) (suc j) < register base (suc k) (suc (suc i)) (suc (suc j)) = next_row i j (suc j) (omega arith) in
          let z : base ≤ register base (suc k) (suc i) (suc j) = omega (arith, register_at base (suc k) i j) in
          (omega arith, omega arith, (omega arith, omega arith, (omega arith, v, tt)))

  inputs_rising : (n i : ℕ) (xs : List ℕ) → base + n * suc k ≤ suc V → i + length xs ≤ n → Each (λ x. (1 ≤ x) × (x < base)) xs → Each (Rising 0 V) (counter base (suc k) (suc i) xs)
  inputs_rising n i [] u h g = tt
  inputs_rising n i (x ∷ xs) u h g =
      each_append (Rising 0 V) (counter_input base (suc k) (neg x) (suc i)) (counter base (suc k) (suc (suc i)) xs)
      (input_rising n i x u (omega arith) g.0.0 g.0.1) (inputs_rising n (suc i) xs u (omega arith) g.1)

counter_rising : (base K V n : ℕ) (xs : List ℕ) → 1 ≤ base → base + n * K ≤ suc V → length xs ≤ n → Each (λ x. (1 ≤ x) × (x < base)) xs → Each (Rising 0 V) (counter base K 1 xs)
counter_rising base zero V n xs b u h g = none 1 xs
  where
    none : (i : ℕ) (xs : List ℕ) → Each (Rising 0 V) (counter base 0 i xs)
    none i [] = tt
    none i (x ∷ xs) = none (suc i) xs
counter_rising base (suc k) V n xs b u h g = inputs_rising base k V b n 0 xs u (omega arith) g

module _ (q : Problem) (r c : ℕ) (rin : r ≤ length (installed_names q)) (cin : c ≤ length (names q)) where
  abbrev V : ℕ
  V = variables q r c

  abbrev packs : ℕ
  packs = length q.packages

  removed_rising : (v : ℕ) (ns : List (List ℕ)) → packs < v → v + length ns ≤ suc V → Each (Rising 0 V) (removed_clauses q r c v ns)
  removed_rising v [] h u = tt
  removed_rising v (n ∷ ns) h u = (
    rising_last 0 packs v V (each (λ i. lit i.number) (versions_of q n)) h (omega arith) (omega arith)
        (yes_number 0 packs (versions_of q n) (kept_up (λ i. bytes_eq n i.stanza.name) 0 packs 1 q.packages (omega arith) (omega arith))),
    removed_rising (suc v) ns (omega arith) (omega arith),
  )

  changed_rising : (v : ℕ) (ns : List (List ℕ)) → packs < v → v + length ns ≤ suc V → Each (Rising 0 V) (changed_clauses q r c v ns)
  changed_rising v [] h u = tt
  changed_rising v (n ∷ ns) h u =
      each_append (Rising 0 V) (each one (versions_of q n)) (changed_clauses q r c (suc v) ns)
      (each-each (Rising 0 V) one (versions_of q n) (each_weaker (λ i. Between packs i.number) (λ i. Rising 0 V (one i)) two (versions_of q n) (versions_between q n)))
      (changed_rising (suc v) ns (omega arith) (omega arith))
    where
      one : Numbered → Clause
      one i = cond i.stanza.installed (lit i.number) (neg i.number) ∷ lit v ∷ []

      two : (i : Numbered) → Between packs i.number → Rising 0 V (one i)
      two i g =
          elim i.stanza.installed as (λ b. Rising 0 V (cond b (lit i.number) (neg i.number) ∷ lit v ∷ [])) [
            | true ↦ (omega arith, omega arith, (omega arith, omega arith, tt))
            | false ↦ (omega arith, omega arith, (omega arith, omega arith, tt))
          ]

  at_most_rising : (n : ℕ) → n ≡ inputs q r c → Each (Rising 0 V) (at_most_r q r c n)
  at_most_rising zero e = tt
  at_most_rising (suc n) e =
      let v : register (first_s q r c) (suc r) (suc n) (suc r) ≤ V = at_register (first_s q r c) r V (omega arith) (inputs q r c) n r (omega arith) (omega arith) (omega arith) in
      ((omega arith, omega arith, tt), tt)

  fewer_r_rising : (n k : ℕ) → n ≡ inputs q r c → k ≡ r → Rising 0 V (fewer_r q r c k)
  fewer_r_rising n zero e f = (omega arith, omega arith, tt)
  fewer_r_rising zero (suc k) e f = absurd (omega arith)
  fewer_r_rising (suc n) (suc k) e f =
      let v : register (first_s q r c) (suc r) (suc n) (suc k) ≤ V = at_register (first_s q r c) r V (omega arith) (inputs q r c) n k (omega arith) (omega arith) (omega arith) in
      let z : first_s q r c ≤ register (first_s q r c) (suc r) (suc n) (suc k) = omega (arith, register_at (first_s q r c) (suc r) n k) in
      subst (λ y. Rising 0 V (neg (choice q r c) ∷ neg (register (first_s q r c) (suc r) y (suc k)) ∷ [])) e (omega arith, omega arith, (omega arith, omega arith, tt))

  fewer_c_rising : (n k : ℕ) → n ≡ all_names q r c → k ≡ c → Rising 0 V (fewer_c q r c k)
  fewer_c_rising n zero e f = (omega arith, omega arith, tt)
  fewer_c_rising zero (suc k) e f = absurd (omega arith)
  fewer_c_rising (suc n) (suc k) e f =
      subst (λ y. Rising 0 V (lit (choice q r c) ∷ neg (register (first_t q r c) c (all_names q r c) y) ∷ [])) refl
      (subst₂' e f)
    where
      subst₂' : suc n ≡ all_names q r c → suc k ≡ c → Rising 0 V (lit (choice q r c) ∷ neg (register (first_t q r c) c (all_names q r c) (suc k)) ∷ [])
      subst₂' e f =
          subst (λ y. Rising 0 V (lit (choice q r c) ∷ neg (register (first_t q r c) c y (suc k)) ∷ [])) e
          (let v : register (first_t q r c) c (suc n) (suc k) ≤ V = within in
          let z : first_t q r c ≤ register (first_t q r c) c (suc n) (suc k) = omega (arith, register_at (first_t q r c) c n k) in
          (omega arith, omega arith, (omega arith, omega arith, tt)))
        where
          within : register (first_t q r c) c (suc n) (suc k) ≤ V
          within = subst (λ y. register (first_t q r c) y (suc n) (suc k) ≤ V) f (at_register (first_t q r c) k V (omega arith) (all_names q r c) n k (omega (arith, ap (λ y. all_names q r c * y) f)) (omega arith) (omega arith))

  opening_rising : Each (Rising 0 V) (opening q r c)
  opening_rising =
      each_append (Rising 0 V) (plan ++ rem ++ chg ++ cs ++ ct ++ top) (fewer_r q r c r ∷ fewer_c q r c c ∷ [])
      (each_append (Rising 0 V) (plan ++ rem ++ chg ++ cs ++ ct) top
      (each_append (Rising 0 V) (plan ++ rem ++ chg ++ cs) ct
      (each_append (Rising 0 V) (plan ++ rem ++ chg) cs
      (each_append (Rising 0 V) (plan ++ rem) chg
      (each_append (Rising 0 V) plan rem
      (each_weaker (Rising 0 packs) (Rising 0 V) (λ d. rising_more 0 packs V d (omega arith)) plan (plan_rising q))
      (removed_rising (first_removed q r c) (installed_names q) (omega arith) (omega arith)))
      (changed_rising (first_changed q r c) (names q) (omega arith) (omega arith)))
      (counter_rising (first_s q r c) (suc r) V (inputs q r c) (up_from (first_removed q r c) (inputs q r c)) (omega arith) (omega arith) (omega (arith, length_up_from (first_removed q r c) (inputs q r c)))
      (each_up_from (λ x. (1 ≤ x) × (x < first_s q r c)) (first_removed q r c) (inputs q r c) (λ j l u. (omega arith, omega arith)))))
      (counter_rising (first_t q r c) c V (all_names q r c) (up_from (first_changed q r c) (all_names q r c)) (omega arith) (omega arith) (omega (arith, length_up_from (first_changed q r c) (all_names q r c)))
      (each_up_from (λ x. (1 ≤ x) × (x < first_t q r c)) (first_changed q r c) (all_names q r c) (λ j l u. (omega arith, omega arith)))))
      (at_most_rising (inputs q r c) refl))
      (fewer_r_rising (inputs q r c) r refl refl, (fewer_c_rising (all_names q r c) c refl refl, tt))
    where
      plan : List Clause
      plan = plan_clauses q

      rem : List Clause
      rem = removed_clauses q r c (first_removed q r c) (installed_names q)

      chg : List Clause
      chg = changed_clauses q r c (first_changed q r c) (names q)

      cs : List Clause
      cs = counter (first_s q r c) (suc r) 1 (up_from (first_removed q r c) (inputs q r c))

      ct : List Clause
      ct = counter (first_t q r c) c 1 (up_from (first_changed q r c) (all_names q r c))

      top : List Clause
      top = at_most_r q r c (inputs q r c)

pub opening_formed : (q : Problem) (a : Answer) → Formed q a
opening_formed q fail = each_weaker (Rising 0 (length q.packages)) (λ d. T (well_formed (length q.packages) d)) (λ d. rising_formed 0 (length q.packages) d) (plan_clauses q) (plan_rising q)
opening_formed q (set s) =
    each_weaker (Rising 0 (variables q r c)) (λ d. T (well_formed (variables q r c) d)) (λ d. rising_formed 0 (variables q r c) d) (opening q r c) (opening_rising q r c (removed_bound q s) (changed_bound q s))
  where
    r : ℕ
    r = removed_count q s

    c : ℕ
    c = changed_count q s
