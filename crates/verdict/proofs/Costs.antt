-- A set removes and changes no more names than there are stanzas.
use Rattle.std.proofs.Common.{ℕ, suc, ◌≤◌, Bool, true, false, cond, List, [], ◌∷◌, length, arith}
use Rattle.std.proofs.lemmas.List.{length-map, length-take-le}
use Rattle.problem.specs.Cudf.{Package, Chosen, names, names_from, seen_in, is_removed, is_changed, removed_count, changed_count}
use Rattle.problem.specs.Meaning.{package_of, packages_in, constraints_in, problem_of}
use Rattle.problem.specs.declared.view.Problem.{Problem as View}
use Rattle.verdict.proofs.Laid.{how_many_le}

names_few : (seen : List (List ℕ)) (ps : List Package) → length (names_from seen ps) ≤ length ps
names_few seen [] = omega arith
names_few seen (p ∷ ps) = pick (names_few seen ps) (names_few (p.name ∷ seen) ps) (seen_in p.name seen)
  where
    pick : length (names_from seen ps) ≤ length ps → length (names_from (p.name ∷ seen) ps) ≤ length ps → (b : Bool) → length (cond b (names_from seen ps) (p.name ∷ names_from (p.name ∷ seen) ps)) ≤ suc (length ps)
    pick h k true = omega (arith, h)
    pick h k false = omega (arith, k)

module _ (v : View) (s : Chosen) where
  few : length (names (problem_of v)) ≤ 256
  few = omega (arith, names_few [] (problem_of v).packages, length-map (packages_in v) (package_of v.text.now (constraints_in v)), length-take-le v.count v.packages.now v.packages_held, v.packages_few)

  pub removed_few : removed_count (problem_of v) s ≤ 256
  removed_few = omega (arith, few, how_many_le (is_removed (problem_of v) s) (names (problem_of v)))

  pub changed_few : changed_count (problem_of v) s ≤ 256
  changed_few = omega (arith, few, how_many_le (is_changed (problem_of v) s) (names (problem_of v)))
