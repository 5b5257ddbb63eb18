-- The plan clauses of rows, by tests on the rows.
-- row_satisfies, row_satisfies_one: whether a package row satisfies a constraint row, or one of some, by the document
-- passing: the numbers of the package rows that pass a test; so many rows stand before them
-- stanza_at: the stanza at a place, with its number
-- denials: of each of some numbers the clause "not j", or beside a place i "not i, or not j", with i itself left out
use Rattle.std.specs.Prelude.{ℕ, suc, Bool, cond, not, ◌&&◌, List, [], ◌∷◌, Some, None, Option, ◌==◌, slice_index_or}
use Rattle.std.specs.Str.{bytes_eq}
use Rattle.text.specs.Lists.{each, keep, some}
use Rattle.text.specs.Literals.{Clause, neg}
use Rattle.text.specs.Word.{word_in}
use Rattle.problem.specs.Cudf.{Numbered, holds}
use Rattle.problem.specs.Meaning.{package_of, packages_in, constraints_in}
use Rattle.problem.specs.PlanClauses.{not_both}
use Rattle.problem.specs.Rows.{no_package}
use Rattle.problem.specs.declared.view.Problem.{Problem as View}
use Rattle.problem.specs.declared.rows.PackageRow.{PackageRow}
use Rattle.problem.specs.declared.rows.ConstraintRow.{ConstraintRow}

abbrev pub row_satisfies : List ℕ → ConstraintRow → PackageRow → Bool
row_satisfies text c p = bytes_eq (word_in text c.name) (word_in text p.name) && holds c.relation p.version c.version

abbrev pub row_satisfies_one : List ℕ → List ConstraintRow → PackageRow → Bool
row_satisfies_one text cs p = some (λ c. row_satisfies text c p) cs

abbrev pub passing : (PackageRow → Bool) → ℕ → List PackageRow → List ℕ
passing t before [] = []
passing t before (p ∷ ps) = cond (t p) (suc before ∷ passing t (suc before) ps) (passing t (suc before) ps)

abbrev pub denials : Option ℕ → List ℕ → List Clause
denials None js = each (λ j. neg j ∷ []) js
denials (Some i) js = each (not_both (suc i)) (keep (λ j. not (suc i == j)) js)

abbrev pub stanza_at : View → ℕ → Numbered
stanza_at v i = record { number = suc i; stanza = package_of v.text.now (constraints_in v) (slice_index_or (packages_in v) i no_package) }
