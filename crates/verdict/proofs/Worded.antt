-- The indicators of rows, in words.
use Rattle.std.proofs.Common.{◌≡◌, ℕ, suc, Bool, true, false, cond, ◌&&◌, ◌||◌, List, [], ◌∷◌, ◌++◌, refl, ap, ◌∙◌}
use Rattle.std.specs.Str.{bytes_eq}
use Rattle.text.specs.Lists.{each, keep, some}
use Rattle.text.specs.Literals.{lit, neg}
use Rattle.text.specs.Word.{word_in}
use Rattle.problem.proofs.Names.{names_are}
use Rattle.problem.specs.Cudf.{Numbered, numbered, names, installed_name, installed_names, versions_of}
use Rattle.problem.specs.Meaning.{package_of, packages_in, constraints_in, problem_of}
use Rattle.problem.specs.Naming.{row_names}
use Rattle.problem.specs.Stanzas.{passing}
use Rattle.problem.specs.declared.rows.PackageRow.{PackageRow}
use Rattle.problem.specs.declared.rows.ConstraintRow.{ConstraintRow}
use Rattle.problem.specs.declared.view.Problem.{Problem as View}
use Rattle.verdict.specs.Indicators.{has_installed, listed, listed_from, changed_rows, of_names}
use Rattle.verdict.specs.Opening.{removed_clauses, changed_clauses}
use Rattle.verdict.specs.declared.names.Indicator.TheVariants.{Removed, Changed}

module _ (text : List ℕ) (cs : List ConstraintRow) (n : List ℕ) where
  abbrev versions : ℕ → List PackageRow → List Numbered
  versions b ps = keep (λ i. bytes_eq n i.stanza.name) (numbered (suc b) (each (package_of text cs) ps))

  installed_are : (b : ℕ) (ps : List PackageRow) → has_installed text n ps ≡ some (λ i. i.stanza.installed) (versions b ps)
  installed_are b [] = refl
  installed_are b (p ∷ ps) = ap (λ y. (bytes_eq n (word_in text p.name) && p.installed) || y) (installed_are (suc b) ps) ∙ picked (bytes_eq n (word_in text p.name)) (λ i. i.stanza.installed) _ _
    where
      picked : (x : Bool) (t : Numbered → Bool) (i : Numbered) (is : List Numbered) → ((x && t i) || some t is) ≡ some t (cond x (i ∷ is) is)
      picked true t i is = refl
      picked false t i is = refl

  numbers_are : (b : ℕ) (ps : List PackageRow) → each lit (passing (λ p. bytes_eq n (word_in text p.name)) b ps) ≡ each (λ i. lit i.number) (versions b ps)
  numbers_are b [] = refl
  numbers_are b (p ∷ ps) = picked (numbers_are (suc b) ps) (bytes_eq n (word_in text p.name))
    where
      picked : each lit (passing (λ q. bytes_eq n (word_in text q.name)) (suc b) ps) ≡ each (λ i. lit i.number) (versions (suc b) ps) → (x : Bool) → each lit (cond x (suc b ∷ passing (λ q. bytes_eq n (word_in text q.name)) (suc b) ps) (passing (λ q. bytes_eq n (word_in text q.name)) (suc b) ps)) ≡
          each (λ i. lit i.number) (cond x (record { number = suc b; stanza = package_of text cs p } ∷ versions (suc b) ps) (versions (suc b) ps))
      picked h true = ap (λ y. lit (suc b) ∷ y) h
      picked h false = h

  changed_are : (v b : ℕ) (ps : List PackageRow) → changed_rows text n v b ps ≡ each (λ i. cond i.stanza.installed (lit i.number) (neg i.number) ∷ lit v ∷ []) (versions b ps)
  changed_are v b [] = refl
  changed_are v b (p ∷ ps) = picked (changed_are v (suc b) ps) (bytes_eq n (word_in text p.name))
    where
      picked : changed_rows text n v (suc b) ps ≡ each (λ i. cond i.stanza.installed (lit i.number) (neg i.number) ∷ lit v ∷ []) (versions (suc b) ps) → (x : Bool) → cond x ((cond p.installed (lit (suc b)) (neg (suc b)) ∷ lit v ∷ []) ∷ changed_rows text n v (suc b) ps) (changed_rows text n v (suc b) ps) ≡
          each (λ i. cond i.stanza.installed (lit i.number) (neg i.number) ∷ lit v ∷ []) (cond x (record { number = suc b; stanza = package_of text cs p } ∷ versions (suc b) ps) (versions (suc b) ps))
      picked h true = ap (λ y. (cond p.installed (lit (suc b)) (neg (suc b)) ∷ lit v ∷ []) ∷ y) h
      picked h false = h

keep_alike : {X : Type 0} (t u : X → Bool) → ((x : X) → t x ≡ u x) → (xs : List X) → keep t xs ≡ keep u xs
keep_alike t u e [] = refl
keep_alike t u e (x ∷ xs) = ap (λ y. cond y (x ∷ keep t xs) (keep t xs)) (e x) ∙ ap (λ y. cond (u x) (x ∷ y) y) (keep_alike t u e xs)

keep_all : {X : Type 0} (xs : List X) → keep (λ x. true) xs ≡ xs
keep_all [] = refl
keep_all (x ∷ xs) = ap (λ y. x ∷ y) (keep_all xs)

module _ (v : View) (text : List ℕ) (ps : List PackageRow) (e : text ≡ v.text.now) (f : ps ≡ packages_in v) where
  pub removed_names_are : listed_from Removed text ps 0 ≡ installed_names (problem_of v)
  removed_names_are =
      ap (λ x. listed_from Removed x ps 0) e ∙ ap (λ x. listed_from Removed v.text.now x 0) f
      ∙ ap (keep (listed Removed v.text.now (packages_in v))) (names_are v.text.now (constraints_in v) [] (packages_in v))
      ∙ keep_alike _ (installed_name (problem_of v)) (λ n. installed_are v.text.now (constraints_in v) n 0 (packages_in v)) (names (problem_of v))

  pub all_names_are : listed_from Changed text ps 0 ≡ names (problem_of v)
  all_names_are =
      ap (λ x. listed_from Changed x ps 0) e ∙ ap (λ x. listed_from Changed v.text.now x 0) f ∙ keep_all (row_names v.text.now [] (packages_in v)) ∙ names_are v.text.now (constraints_in v) [] (packages_in v)

  module _ (r c : ℕ) where
    removed-by : (w : ℕ) (ns : List (List ℕ)) → of_names Removed v.text.now (packages_in v) w ns ≡ removed_clauses (problem_of v) r c w ns
    removed-by w [] = refl
    removed-by w (n ∷ ns) =
        ap (λ y. (y ++ lit w ∷ []) ∷ of_names Removed v.text.now (packages_in v) (suc w) ns) (numbers_are v.text.now (constraints_in v) n 0 (packages_in v))
        ∙ ap (λ y. (each (λ i. lit i.number) (versions_of (problem_of v) n) ++ lit w ∷ []) ∷ y) (removed-by (suc w) ns)

    changed-by : (w : ℕ) (ns : List (List ℕ)) → of_names Changed v.text.now (packages_in v) w ns ≡ changed_clauses (problem_of v) r c w ns
    changed-by w [] = refl
    changed-by w (n ∷ ns) =
        ap (λ y. y ++ of_names Changed v.text.now (packages_in v) (suc w) ns) (changed_are v.text.now (constraints_in v) n w 0 (packages_in v))
        ∙ ap (λ y. each (λ i. cond i.stanza.installed (lit i.number) (neg i.number) ∷ lit w ∷ []) (versions_of (problem_of v) n) ++ y) (changed-by (suc w) ns)

    pub removed-clauses-are : (w : ℕ) → of_names Removed text ps w (listed_from Removed text ps 0) ≡ removed_clauses (problem_of v) r c w (installed_names (problem_of v))
    removed-clauses-are w = ap (of_names Removed text ps w) removed_names_are ∙ ap (λ x. of_names Removed x ps w (installed_names (problem_of v))) e ∙ ap (λ x. of_names Removed v.text.now x w (installed_names (problem_of v))) f ∙ removed-by w (installed_names (problem_of v))

    pub changed-clauses-are : (w : ℕ) → of_names Changed text ps w (listed_from Changed text ps 0) ≡ changed_clauses (problem_of v) r c w (names (problem_of v))
    changed-clauses-are w = ap (of_names Changed text ps w) all_names_are ∙ ap (λ x. of_names Changed x ps w (names (problem_of v))) e ∙ ap (λ x. of_names Changed v.text.now x w (names (problem_of v))) f ∙ changed-by w (names (problem_of v))
