-- The rows of a problem.
-- no_package, no_constraint: what stands in a place without a row
-- span_in: the rows of a run; Spanned: the run lies among so many rows
-- same_stanza: two rows with the same name and version; stands_twice: whether some two rows are so
-- PackageOk, ConstraintOk: what holds of each row of a problem: its name lies in the document, its numbers are within the limits, its runs among the rows
use Rattle.std.specs.Prelude.{ℕ, ◌+◌, ◌≤◌, Bool, false, ◌&&◌, ◌||◌, List, [], ◌∷◌, take, drop, ◌==◌}
use Rattle.std.specs.Str.{bytes_eq}
use Rattle.text.specs.Lists.{some}
use Rattle.text.specs.Word.{word_in, Inside}
use Rattle.problem.specs.declared.rows.Relation.TheVariants.{Any}
use Rattle.problem.specs.declared.rows.Span.{Span}
use Rattle.problem.specs.declared.rows.PackageRow.{PackageRow}
use Rattle.problem.specs.declared.rows.ConstraintRow.{ConstraintRow}

abbrev pub no_package : PackageRow
no_package = record { line = 0; name = record { start = 0; len = 0 }; version = 0; installed = false; depends = record { first = 0; len = 0 }; conflicts = record { first = 0; len = 0 } }

abbrev pub no_constraint : ConstraintRow
no_constraint = record { name = record { start = 0; len = 0 }; relation = Any; version = 0; last = false }

abbrev pub span_in : {X : Type 0} → List X → Span → List X
span_in xs s = take s.len (drop s.first xs)

abbrev pub Spanned : ℕ → Span → Type 0
Spanned n s = s.first + s.len ≤ n

abbrev pub same_stanza : List ℕ → PackageRow → PackageRow → Bool
same_stanza text a b = bytes_eq (word_in text a.name) (word_in text b.name) && a.version == b.version

abbrev pub stands_twice : List ℕ → List PackageRow → Bool
stands_twice text [] = false
stands_twice text (p ∷ ps) = some (same_stanza text p) ps || stands_twice text ps

pub record PackageOk (bytes constraints : ℕ) (p : PackageRow) : Type 0 where
  pub name : Inside bytes p.name
  pub least : 1 ≤ p.version
  pub most : p.version ≤ 999999
  pub depends : Spanned constraints p.depends
  pub conflicts : Spanned constraints p.conflicts

pub record ConstraintOk (bytes : ℕ) (c : ConstraintRow) : Type 0 where
  pub name : Inside bytes c.name
  pub most : c.version ≤ 999999
