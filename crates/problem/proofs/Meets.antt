-- The plan clauses of a problem in words, by tests on its rows.
use Rattle.std.proofs.Common.{◌≡◌, ℕ, suc, ◌+◌, ◌<◌, ◌≤◌, Bool, true, false, cond, List, [], ◌∷◌, ◌++◌, length, get_or, drop, Some, None, Ok, Err, sym, refl, ap, ◌∙◌, subst, arith}
use Rattle.std.specs.Result.{IsErr}
use Rattle.std.proofs.lemmas.List.{get_or-map, length-map}
use Rattle.std.proofs.lemmas.Bool.{true≢false, false≢true}
use Rattle.text.specs.Lists.{each, each_all, keep}
use Rattle.text.specs.Literals.{Clause, lit}
use Rattle.problem.specs.Cudf.{Numbered, numbered, satisfies_one, stanzas}
use Rattle.problem.specs.Feeding.{Fed, Left}
use Rattle.problem.specs.Meaning.{constraint_of, package_of, conjuncts, in_words, packages_in, constraints_in, problem_of}
use Rattle.problem.specs.PlanClauses.{needs, meeting, of_stanza, of_conflict, of_install, of_remove}
use Rattle.problem.specs.Rows.{span_in, no_package}
use Rattle.problem.specs.Stanzas.{row_satisfies, row_satisfies_one, passing, denials, stanza_at}
use Rattle.problem.specs.declared.rows.Span.{Span}
use Rattle.problem.specs.declared.rows.PackageRow.{PackageRow}
use Rattle.problem.specs.declared.rows.ConstraintRow.{ConstraintRow}
use Rattle.problem.specs.declared.sink.Stopped.{Stopped}
use Rattle.problem.specs.declared.view.Problem.{Problem as View}
use Rattle.problem.proofs.Feeds.{Taken, walk_more, walk_stop, walk_all}
use Rattle.problem.proofs.Numbers.{numbered_at, numbered-length}
use Rattle.problem.proofs.Walks.{some_of_each, or_none}

-- lists made from each member of a list that is made from each member
all_of_each : {X Y Z : Type 0} (f : Y → List Z) (g : X → Y) (h : X → List Z) → ((x : X) → f (g x) ≡ h x) → (xs : List X) → each_all f (each g xs) ≡ each_all h xs
all_of_each f g h e [] = refl
all_of_each f g h e (x ∷ xs) = ap (λ y. y ++ each_all f (each g xs)) (e x) ∙ ap (λ ys. h x ++ ys) (all_of_each f g h e xs)

each_of_each : {X Y Z : Type 0} (f : Y → Z) (g : X → Y) (h : X → Z) → ((x : X) → f (g x) ≡ h x) → (xs : List X) → each f (each g xs) ≡ each_all (λ x. h x ∷ []) xs
each_of_each f g h e [] = refl
each_of_each f g h e (x ∷ xs) = ap (λ y. y ∷ each f (each g xs)) (e x) ∙ ap (λ ys. h x ∷ ys) (each_of_each f g h e xs)

passing_same : (t u : PackageRow → Bool) → ((p : PackageRow) → t p ≡ u p) → (b : ℕ) (ps : List PackageRow) → passing t b ps ≡ passing u b ps
passing_same t u e b [] = refl
passing_same t u e b (p ∷ ps) =
    ap (λ y. cond y (suc b ∷ passing t (suc b) ps) (passing t (suc b) ps)) (e p) ∙ ap (λ js. cond (u p) (suc b ∷ js) js) (passing_same t u e (suc b) ps)

module _ (text : List ℕ) (cs : List ConstraintRow) where
  numbers : (group : List ConstraintRow) (b : ℕ) (ps : List PackageRow) →
      each (λ k. k.number) (keep (satisfies_one (each (constraint_of text) group)) (numbered (suc b) (each (package_of text cs) ps))) ≡ passing (row_satisfies_one text group) b ps
  numbers group b [] = refl
  numbers group b (p ∷ ps) = pick _ _ (some_of_each _ (constraint_of text) group) (numbers group (suc b) ps)
    where
      rest : List Numbered
      rest = keep (satisfies_one (each (constraint_of text) group)) (numbered (suc (suc b)) (each (package_of text cs) ps))

      pick : (x y : Bool) → x ≡ y → each (λ k. k.number) rest ≡ passing (row_satisfies_one text group) (suc b) ps →
          each (λ k. k.number) (cond x (record { number = suc b; stanza = package_of text cs p } ∷ rest) rest) ≡ cond y (suc b ∷ passing (row_satisfies_one text group) (suc b) ps) (passing (row_satisfies_one text group) (suc b) ps)
      pick true true e h = ap (λ js. suc b ∷ js) h
      pick false false e h = h
      pick true false e h = absurd (true≢false e)
      pick false true e h = absurd (false≢true e)

  module _ (ps : List PackageRow) (install remove : Span) where
    meets : (group : List ConstraintRow) → meeting (in_words text ps cs install remove) (each (constraint_of text) group) ≡ passing (row_satisfies_one text group) 0 ps
    meets group = numbers group 0 ps

    meets-one : (c : ConstraintRow) → meeting (in_words text ps cs install remove) (constraint_of text c ∷ []) ≡ passing (row_satisfies text c) 0 ps
    meets-one c = meets (c ∷ []) ∙ passing_same (row_satisfies_one text (c ∷ [])) (row_satisfies text c) (λ p. or_none (row_satisfies text c p)) 0 ps

    pub depends-clauses : (i : ℕ) (rows : List ConstraintRow) →
        each_all (λ ds. needs i (meeting (in_words text ps cs install remove) ds)) (each (each (constraint_of text)) (conjuncts rows)) ≡ each_all (λ g. needs i (passing (row_satisfies_one text g) 0 ps)) (conjuncts rows)
    depends-clauses i rows = all_of_each _ _ _ (λ g. ap (needs i) (meets g)) (conjuncts rows)

    pub conflicts-clauses : (place : ℕ) (rows : List ConstraintRow) →
        each_all (of_conflict (in_words text ps cs install remove) (suc place)) (each (constraint_of text) rows) ≡ each_all (λ c. denials (Some place) (passing (row_satisfies text c) 0 ps)) rows
    conflicts-clauses place rows = all_of_each _ _ _ (λ c. ap (denials (Some place)) (meets-one c)) rows

    pub install-clauses : (rows : List ConstraintRow) →
        each (of_install (in_words text ps cs install remove)) (each (constraint_of text) rows) ≡ each_all (λ c. each lit (passing (row_satisfies_one text (c ∷ [])) 0 ps) ∷ []) rows
    install-clauses rows = each_of_each _ _ _ (λ c. ap (each lit) (meets (c ∷ []))) rows

    pub remove-clauses : (rows : List ConstraintRow) →
        each_all (of_remove (in_words text ps cs install remove)) (each (constraint_of text) rows) ≡ each_all (λ c. denials None (passing (row_satisfies text c) 0 ps)) rows
    remove-clauses rows = all_of_each _ _ _ (λ c. ap (denials None) (meets-one c)) rows

pub stanzas-length : (v : View) → length (stanzas (problem_of v)) ≡ length (packages_in v)
stanzas-length v = numbered-length 1 _ ∙ length-map (packages_in v) _

stanza_at_place : (v : View) (i : ℕ) (d : Numbered) → i < length (packages_in v) → get_or (stanzas (problem_of v)) i d ≡ stanza_at v i
stanza_at_place v i d l =
    let f = package_of v.text.now (constraints_in v) in
    let n : 1 + i ≡ suc i = omega arith in
    let m : i < length (each f (packages_in v)) = omega (arith, length-map (packages_in v) f) in
    numbered_at 1 i (each f (packages_in v)) d (f no_package) m ∙ ap (λ k. record { number = k; stanza = get_or (each f (packages_in v)) i (f no_package) }) n
    ∙ ap (λ p. record { number = suc i; stanza = p }) (get_or-map f (packages_in v) i no_package (f no_package) l)

-- the same, of what the calls on a view give
module _ (v : View) (text : List ℕ) (ps : List PackageRow) (t : text ≡ v.text.now) (p : ps ≡ packages_in v) where
  pub depends_are : (i : ℕ) (rows : List ConstraintRow) → rows ≡ span_in (constraints_in v) (get_or (packages_in v) i no_package).depends →
      each_all (λ g. needs (suc i) (passing (row_satisfies_one text g) 0 ps)) (conjuncts rows) ≡ each_all (λ ds. needs (suc i) (meeting (problem_of v) ds)) (stanza_at v i).stanza.depends
  depends_are i rows r =
      ap (λ x. each_all (λ g. needs (suc i) (passing (row_satisfies_one x g) 0 ps)) (conjuncts rows)) t ∙ ap (λ x. each_all (λ g. needs (suc i) (passing (row_satisfies_one v.text.now g) 0 x)) (conjuncts rows)) p
      ∙ ap (λ x. each_all (λ g. needs (suc i) (passing (row_satisfies_one v.text.now g) 0 (packages_in v))) (conjuncts x)) r
      ∙ sym (depends-clauses v.text.now (constraints_in v) (packages_in v) v.install v.remove (suc i) (span_in (constraints_in v) (get_or (packages_in v) i no_package).depends))

  pub conflicts_are : (i : ℕ) (rows : List ConstraintRow) → rows ≡ span_in (constraints_in v) (get_or (packages_in v) i no_package).conflicts →
      each_all (λ c. denials (Some i) (passing (row_satisfies text c) 0 ps)) rows ≡ each_all (of_conflict (problem_of v) (suc i)) (stanza_at v i).stanza.conflicts
  conflicts_are i rows r =
      ap (λ x. each_all (λ c. denials (Some i) (passing (row_satisfies x c) 0 ps)) rows) t ∙ ap (λ x. each_all (λ c. denials (Some i) (passing (row_satisfies v.text.now c) 0 x)) rows) p
      ∙ ap (each_all (λ c. denials (Some i) (passing (row_satisfies v.text.now c) 0 (packages_in v)))) r
      ∙ sym (conflicts-clauses v.text.now (constraints_in v) (packages_in v) v.install v.remove i (span_in (constraints_in v) (get_or (packages_in v) i no_package).conflicts))

  pub install_are : (rows : List ConstraintRow) → rows ≡ span_in (constraints_in v) v.install →
      each_all (λ c. each lit (passing (row_satisfies_one text (c ∷ [])) 0 ps) ∷ []) rows ≡ each (of_install (problem_of v)) (problem_of v).install
  install_are rows r =
      ap (λ x. each_all (λ c. each lit (passing (row_satisfies_one x (c ∷ [])) 0 ps) ∷ []) rows) t ∙ ap (λ x. each_all (λ c. each lit (passing (row_satisfies_one v.text.now (c ∷ [])) 0 x) ∷ []) rows) p
      ∙ ap (each_all (λ c. each lit (passing (row_satisfies_one v.text.now (c ∷ [])) 0 (packages_in v)) ∷ [])) r
      ∙ sym (install-clauses v.text.now (constraints_in v) (packages_in v) v.install v.remove (span_in (constraints_in v) v.install))

  pub remove_are : (rows : List ConstraintRow) → rows ≡ span_in (constraints_in v) v.remove →
      each_all (λ c. denials None (passing (row_satisfies text c) 0 ps)) rows ≡ each_all (of_remove (problem_of v)) (problem_of v).remove
  remove_are rows r =
      ap (λ x. each_all (λ c. denials None (passing (row_satisfies x c) 0 ps)) rows) t ∙ ap (λ x. each_all (λ c. denials None (passing (row_satisfies v.text.now c) 0 x)) rows) p
      ∙ ap (each_all (λ c. denials None (passing (row_satisfies v.text.now c) 0 (packages_in v)))) r
      ∙ sym (remove-clauses v.text.now (constraints_in v) (packages_in v) v.install v.remove (span_in (constraints_in v) v.remove))

packages_count : (v : View) (n : ℕ) → n ≡ length (problem_of v).packages → n ≡ length (packages_in v)
packages_count v n e = e ∙ length-map (packages_in v) _

-- the walk over the stanzas
module _ {S : Type 0} (goes stops : S → Clause → S → Type 0) (v : View) (whole : List Clause) (start s t : S) (i n : ℕ) (e : n ≡ length (problem_of v).packages) where
  longs : length (stanzas (problem_of v)) ≡ n
  longs = stanzas-length v ∙ sym (packages_count v n e)

  no_stanza : Numbered
  no_stanza = stanza_at v 0

  module _ (l : i < n) (k : Left goes stops whole start (each_all (of_stanza (problem_of v)) (drop i (stanzas (problem_of v)))) s) where
    at : (r : Taken) → Fed goes stops (of_stanza (problem_of v) (stanza_at v i)) r s t → Fed goes stops (of_stanza (problem_of v) (get_or (stanzas (problem_of v)) i no_stanza)) r s t
    at r = subst (λ x. Fed goes stops (of_stanza (problem_of v) x) r s t) (sym (stanza_at_place v i no_stanza (omega (arith, packages_count v n e))))

    pub stanzas_more : Fed goes stops (of_stanza (problem_of v) (stanza_at v i)) (Ok tt) s t → Left goes stops whole start (each_all (of_stanza (problem_of v)) (drop (i + 1) (stanzas (problem_of v)))) t
    stanzas_more h = walk_more goes stops (of_stanza (problem_of v)) whole start s t (stanzas (problem_of v)) i no_stanza (omega (arith, longs)) k (at (Ok tt) h)

    pub stanzas_stop : (e : Stopped) (r : Taken) → IsErr r → Fed goes stops (of_stanza (problem_of v) (stanza_at v i)) (Err e) s t → Fed goes stops whole r start t
    stanzas_stop e r j h = walk_stop goes stops (of_stanza (problem_of v)) whole start s t (stanzas (problem_of v)) i no_stanza e r (omega (arith, longs)) k j (at (Err e) h)

  pub stanzas_all : n ≤ i → Left goes stops whole start (each_all (of_stanza (problem_of v)) (drop i (stanzas (problem_of v)))) s → Fed goes stops whole (Ok tt) start s
  stanzas_all l = walk_all goes stops (of_stanza (problem_of v)) whole start s (stanzas (problem_of v)) i (omega (arith, longs))
