-- The problem that a view means.
-- constraint_of, package_of: a row in words, by the document
-- conjuncts: constraint rows as conjuncts, each ended by a row that is marked as last
-- packages_in, constraints_in: the rows of a view; problem_of: all of it in words
use Rattle.std.specs.Prelude.{ℕ, cond, List, [], ◌∷◌, take}
use Rattle.text.specs.Lists.{each}
use Rattle.text.specs.Word.{word_in}
use Rattle.problem.specs.Cudf.{Constraint, Package, Problem}
use Rattle.problem.specs.Rows.{span_in}
use Rattle.problem.specs.declared.rows.Span.{Span}
use Rattle.problem.specs.declared.rows.PackageRow.{PackageRow}
use Rattle.problem.specs.declared.rows.ConstraintRow.{ConstraintRow}
use Rattle.problem.specs.declared.view.Problem.{Problem as View}

abbrev pub constraint_of : List ℕ → ConstraintRow → Constraint
constraint_of text c = record { name = word_in text c.name; relation = c.relation; bound = c.version }

-- a row in front of the first group
abbrev pub front : {X : Type 0} → X → List (List X) → List (List X)
front x [] = (x ∷ []) ∷ []
front x (g ∷ gs) = (x ∷ g) ∷ gs

abbrev pub conjuncts : List ConstraintRow → List (List ConstraintRow)
conjuncts [] = []
conjuncts (c ∷ cs) = cond c.last ((c ∷ []) ∷ conjuncts cs) (front c (conjuncts cs))

abbrev pub list_of : List ℕ → List ConstraintRow → Span → List Constraint
list_of text cs s = each (constraint_of text) (span_in cs s)

abbrev pub conjuncts_of : List ℕ → List ConstraintRow → Span → List (List Constraint)
conjuncts_of text cs s = each (each (constraint_of text)) (conjuncts (span_in cs s))

abbrev pub package_of : List ℕ → List ConstraintRow → PackageRow → Package
package_of text cs p = record { name = word_in text p.name; version = p.version; installed = p.installed; depends = conjuncts_of text cs p.depends; conflicts = list_of text cs p.conflicts }

abbrev pub packages_in : View → List PackageRow
packages_in v = take v.count v.packages.now

abbrev pub constraints_in : View → List ConstraintRow
constraints_in v = take v.asked v.constraints.now

abbrev pub in_words : List ℕ → List PackageRow → List ConstraintRow → Span → Span → Problem
in_words text ps cs install remove = record { packages = each (package_of text cs) ps; install = list_of text cs install; remove = list_of text cs remove }

abbrev pub problem_of : View → Problem
problem_of v = in_words v.text.now (packages_in v) (constraints_in v) v.install v.remove
