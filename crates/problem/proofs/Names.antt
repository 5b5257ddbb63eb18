-- The walk over the names of package rows, and what it comes to in words.
use Rattle.std.proofs.Common.{◌≡◌, ℕ, zero, suc, ◌+◌, ◌-◌, ◌<◌, ◌≤◌, Bool, true, false, cond, not, ◌&&◌, ◌||◌, List, [], ◌∷◌, ◌++◌, length, get_or, take, drop, sym, refl, ap, ◌∙◌, arith}
use Rattle.std.specs.List.{enumerate_from}
use Rattle.std.specs.Str.{bytes_eq}
use Rattle.std.proofs.lemmas.Slice.Eq.{bytes_eq-Decides}
use Rattle.std.proofs.lemmas.List.{drop_more, drop_all, map_more}
use Rattle.text.specs.Lists.{each, keep, some, how_many}
use Rattle.text.specs.Word.{word_in}
use Rattle.problem.specs.Cudf.{Numbered, numbered, differs, seen_in, names_from, names, versions_of, is_removed, is_changed, removed_count, changed_count}
use Rattle.problem.specs.Meaning.{package_of, packages_in, constraints_in, problem_of}
use Rattle.problem.specs.Naming.{some_version, removes, changes, named, counted, row_names}
use Rattle.problem.specs.Rows.{no_package}
use Rattle.problem.specs.Sets.{is_in, set_of}
use Rattle.problem.specs.declared.rows.PackageRow.{PackageRow}
use Rattle.problem.specs.declared.rows.ConstraintRow.{ConstraintRow}
use Rattle.problem.specs.declared.standing.Standing.{Standing}
use Rattle.problem.specs.declared.standing.Standing.TheVariants.{Unnamed}
use Rattle.problem.specs.declared.view.Problem.{Problem as View}
use Rattle.problem.proofs.Walks.{some_of_each}

-- the versions of a name, each with its place
module _ (text : List ℕ) (set : List Standing) (m : Bool → Bool → Bool) (n : List ℕ) where
  abbrev pub is_version : ℕ × PackageRow → Bool
  is_version x = bytes_eq n (word_in text x.1.name) && m (is_in (get_or set x.0 Unnamed)) x.1.installed

  pub versions_by_place : (b : ℕ) (ps : List PackageRow) → some is_version (enumerate_from b ps) ≡ some_version text set m n b ps
  versions_by_place b [] = refl
  versions_by_place b (p ∷ ps) =
      let z : b + 1 ≡ suc b = omega arith in
      ap (λ y. is_version (b, p) || y) (ap (λ k. some is_version (enumerate_from k ps)) z ∙ versions_by_place (suc b) ps)

-- names that are seen alike
pub names_alike : (text : List ℕ) (a b : List (List ℕ)) → ((m : List ℕ) → seen_in m a ≡ seen_in m b) → (ps : List PackageRow) → row_names text a ps ≡ row_names text b ps
names_alike text a b h [] = refl
names_alike text a b h (p ∷ ps) =
    let n = word_in text p.name in
    ap (λ y. cond y (row_names text a ps) (n ∷ row_names text (n ∷ a) ps)) (h n) ∙ ap (λ y. cond (seen_in n b) y (n ∷ row_names text (n ∷ a) ps)) (names_alike text a b h ps)
    ∙ ap (λ y. cond (seen_in n b) (row_names text b ps) (n ∷ y)) (names_alike text (n ∷ a) (n ∷ b) (λ m. ap (λ y. bytes_eq m n || y) (h m)) ps)

pub seen_pushed : (m n : List ℕ) (a : List (List ℕ)) → seen_in m (a ++ n ∷ []) ≡ (bytes_eq m n || seen_in m a)
seen_pushed m n [] = refl
seen_pushed m n (x ∷ a) = ap (λ y. bytes_eq m x || y) (seen_pushed m n a) ∙ turned (bytes_eq m x) (bytes_eq m n) (seen_in m a)
  where
    turned : (x y z : Bool) → (x || (y || z)) ≡ (y || (x || z))
    turned true true z = refl
    turned true false z = refl
    turned false y z = refl

-- a name that was seen, seen once more
pub seen_again : (m n : List ℕ) (a : List (List ℕ)) → seen_in n a ≡ true → seen_in m (a ++ n ∷ []) ≡ seen_in m a
seen_again m n a h = seen_pushed m n a ∙ pick (bytes_eq m n) refl
  where
    pick : (b : Bool) → bytes_eq m n ≡ b → (b || seen_in m a) ≡ seen_in m a
    pick true e = sym (ap (λ k. seen_in k a) ((bytes_eq-Decides m n).0 e) ∙ h)
    pick false e = refl

-- the walk over the names
module _ (text : List ℕ) (ps : List PackageRow) (i : ℕ) (d : PackageRow) (l : i < length ps) where
  abbrev name_of : PackageRow → List ℕ
  name_of p = word_in text p.name

  abbrev name : List ℕ
  name = name_of (get_or ps i d)

  abbrev seen : ℕ → List (List ℕ)
  seen k = each name_of (take k ps)

  abbrev rest : ℕ → List (List ℕ)
  rest k = row_names text (seen k) (drop k ps)

  pub rows_step : rest i ≡ cond (named text name (take i ps)) (rest (i + 1)) (name ∷ rest (i + 1))
  rows_step =
      ap (row_names text (seen i)) (drop_more ps i d l)
      ∙ ap (λ y. cond y (row_names text (seen i) (drop (i + 1) ps)) (name ∷ row_names text (name ∷ seen i) (drop (i + 1) ps))) (some_of_each (bytes_eq name) name_of (take i ps)) ∙ pick (named text name (take i ps)) refl
    where
      pick : (b : Bool) → named text name (take i ps) ≡ b → cond b (row_names text (seen i) (drop (i + 1) ps)) (name ∷ row_names text (name ∷ seen i) (drop (i + 1) ps)) ≡ cond b (rest (i + 1)) (name ∷ rest (i + 1))
      pick true h =
          names_alike text (seen i) (seen (i + 1))
          (λ m. sym (ap (seen_in m) (map_more name_of ps i d l) ∙ seen_again m name (seen i) (some_of_each (bytes_eq name) name_of (take i ps) ∙ h))) (drop (i + 1) ps)
      pick false h = ap (λ ns. name ∷ ns) (names_alike text (name ∷ seen i) (seen (i + 1)) (λ m. sym (ap (seen_in m) (map_more name_of ps i d l) ∙ seen_pushed m name (seen i))) (drop (i + 1) ps))

-- the names, counted at their first rows
module _ (text : List ℕ) (t : List ℕ → Bool) (ps : List PackageRow) where
  abbrev pub is_first : ℕ × PackageRow → Bool
  is_first x = counted text t ps x.0 x.1

  firsts_from : (n i : ℕ) → i + n ≡ length ps → length (keep is_first (enumerate_from i (drop i ps))) ≡ how_many t (row_names text (each (λ p. word_in text p.name) (take i ps)) (drop i ps))
  firsts_from zero i e =
      let l : length ps ≤ i = omega arith in
      ap (λ xs. length (keep is_first (enumerate_from i xs))) (drop_all i ps l) ∙ sym (ap (λ xs. how_many t (row_names text (each (λ p. word_in text p.name) (take i ps)) xs)) (drop_all i ps l))
  firsts_from (suc n) i e =
      let l : i < length ps = omega arith in
      let p = get_or ps i no_package in
      ap (λ xs. length (keep is_first (enumerate_from i xs))) (drop_more ps i no_package l) ∙ pick (is_first (i, p)) (keep is_first (enumerate_from (i + 1) (drop (i + 1) ps)))
      ∙ ap (λ k. cond (is_first (i, p)) (suc k) k) (firsts_from n (i + 1) (omega arith)) ∙ sym (ap (how_many t) (rows_step text ps i no_package l) ∙ met (named text (word_in text p.name) (take i ps)))
    where
      pick : (r : Bool) (xs : List (ℕ × PackageRow)) → length (cond r ((i, get_or ps i no_package) ∷ xs) xs) ≡ cond r (suc (length xs)) (length xs)
      pick true xs = refl
      pick false xs = refl

      names : List (List ℕ)
      names = row_names text (each (λ p. word_in text p.name) (take (i + 1) ps)) (drop (i + 1) ps)

      met : (b : Bool) → how_many t (cond b names (word_in text (get_or ps i no_package).name ∷ names)) ≡ cond (not b && t (word_in text (get_or ps i no_package).name)) (suc (how_many t names)) (how_many t names)
      met true = refl
      met false = refl

  pub firsts_are : length (keep is_first (enumerate_from 0 ps)) ≡ how_many t (row_names text [] ps)
  firsts_are = firsts_from (length ps) 0 (omega arith)

-- in words
pub names_are : (text : List ℕ) (cs : List ConstraintRow) (seen : List (List ℕ)) (ps : List PackageRow) → row_names text seen ps ≡ names_from seen (each (package_of text cs) ps)
names_are text cs seen [] = refl
names_are text cs seen (p ∷ ps) =
    let n = word_in text p.name in
    ap (λ y. cond (seen_in n seen) y (n ∷ row_names text (n ∷ seen) ps)) (names_are text cs seen ps) ∙ ap (λ y. cond (seen_in n seen) (names_from seen (each (package_of text cs) ps)) (n ∷ y)) (names_are text cs (n ∷ seen) ps)

module _ (text : List ℕ) (cs : List ConstraintRow) (set : List Standing) (n : List ℕ) where
  version_is : (m : Bool → Bool → Bool) (b : ℕ) (ps : List PackageRow) →
      some_version text set m n b ps ≡ some (λ i. m (set_of set i.number) i.stanza.installed) (keep (λ i. bytes_eq n i.stanza.name) (numbered (suc b) (each (package_of text cs) ps)))
  version_is m b [] = refl
  version_is m b (p ∷ ps) =
      let z : b ≡ suc b - 1 = omega arith in
      ap (λ k. (bytes_eq n (word_in text p.name) && m (is_in (get_or set k Unnamed)) p.installed) || some_version text set m n (suc b) ps) z
      ∙ ap (λ y. (bytes_eq n (word_in text p.name) && m (set_of set (suc b)) p.installed) || y) (version_is m (suc b) ps)
      ∙ picked (bytes_eq n (word_in text p.name)) _ _ _
    where
      picked : (x : Bool) (t : Numbered → Bool) (i : Numbered) (is : List Numbered) → ((x && t i) || some t is) ≡ some t (cond x (i ∷ is) is)
      picked true t i is = refl
      picked false t i is = refl

how_many_same : {X : Type 0} (t u : X → Bool) → ((x : X) → t x ≡ u x) → (xs : List X) → how_many t xs ≡ how_many u xs
how_many_same t u e [] = refl
how_many_same t u e (x ∷ xs) = ap (λ y. cond y (suc (how_many t xs)) (how_many t xs)) (e x) ∙ ap (λ k. cond (u x) (suc k) k) (how_many_same t u e xs)

-- the same, of what the calls on a view give
module _ (v : View) (set : List Standing) (text : List ℕ) (ps : List PackageRow) (e : text ≡ v.text.now) (f : ps ≡ packages_in v) where
  in_words : (u : List ℕ → List PackageRow → List ℕ → Bool) (t : List ℕ → Bool) → ((n : List ℕ) → u v.text.now (packages_in v) n ≡ t n) → how_many (u text ps) (row_names text [] ps) ≡ how_many t (names (problem_of v))
  in_words u t h =
      ap (λ x. how_many (u x ps) (row_names x [] ps)) e ∙ ap (λ x. how_many (u v.text.now x) (row_names v.text.now [] x)) f
      ∙ how_many_same _ t h (row_names v.text.now [] (packages_in v)) ∙ ap (how_many t) (names_are v.text.now (constraints_in v) [] (packages_in v))

  pub removed_are : how_many (removes text set ps) (row_names text [] ps) ≡ removed_count (problem_of v) (set_of set)
  removed_are =
      in_words (λ x qs. removes x set qs) (is_removed (problem_of v) (set_of set))
      (λ n. ap (λ x. x && not (some_version v.text.now set (λ chosen installed. chosen) n 0 (packages_in v))) (version_is v.text.now (constraints_in v) set n (λ chosen installed. installed) 0 (packages_in v))
      ∙ ap (λ x. some (λ i. i.stanza.installed) (versions_of (problem_of v) n) && not x) (version_is v.text.now (constraints_in v) set n (λ chosen installed. chosen) 0 (packages_in v)))

  pub changed_are : how_many (changes text set ps) (row_names text [] ps) ≡ changed_count (problem_of v) (set_of set)
  changed_are = in_words (λ x qs. changes x set qs) (is_changed (problem_of v) (set_of set)) (λ n. version_is v.text.now (constraints_in v) set n differs 0 (packages_in v))
