-- The first row whose name and version an earlier one has.
use Rattle.std.specs.Prelude.{ℕ, cond, List, [], ◌∷◌, ◌++◌, Some, None, Option}
use Rattle.text.specs.Lists.{some}
use Rattle.problem.specs.Rows.{same_stanza}
use Rattle.problem.specs.declared.rows.PackageRow.{PackageRow}

-- the line of the first that repeats one of those before it
abbrev pub repeated_in : List ℕ → List PackageRow → List PackageRow → Option ℕ
repeated_in text before [] = None
repeated_in text before (x ∷ xs) = cond (some (λ y. same_stanza text y x) before) (Some x.line) (repeated_in text (before ++ x ∷ []) xs)
