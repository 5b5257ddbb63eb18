-- The end of a problem document.
use Rattle.std.proofs.Common.{◌≡◌, ℕ, List, [], ◌∷◌, map, Some, None, Ok, Err, Option, unwrap_or, sym, refl, ap, ◌∙◌}
use Rattle.std.specs.Option.{option_map}
use Rattle.text.specs.Doc.{Doc}
use Rattle.text.specs.Lists.{each}
use Rattle.problem.specs.Drafts.{sought_of}
use Rattle.problem.specs.Meaning.{package_of, list_of}
use Rattle.problem.specs.Reading.{Limits, start, run, closed, distinct_only, read_doc}
use Rattle.problem.specs.Reads.{problem_in}
use Rattle.problem.specs.Repeats.{repeated_in}
use Rattle.problem.specs.Sections.{given_of, state_of}
use Rattle.problem.specs.declared.fault.ProblemFault.TheVariants.{Twice}
use Rattle.problem.specs.declared.rows.ConstraintRow.{ConstraintRow}
use Rattle.problem.specs.declared.rows.PackageRow.{PackageRow}
use Rattle.problem.specs.declared.rows.Span.{Span}
use Rattle.problem.specs.declared.section.Progress.{Progress}
use Rattle.problem.specs.declared.wanted.Wanted.{Wanted}
use Rattle.problem.proofs.Again.{repeated_words}

-- a list that was not given is empty
abbrev no_span : Span
no_span = record { first = 0; len = 0 }

list_given : (text : List ℕ) (cs : List ConstraintRow) (o : Option Span) → list_of text cs (unwrap_or o no_span) ≡ unwrap_or (option_map (list_of text cs) o) []
list_given text cs None = refl
list_given text cs (Some s) = refl

module _ (text : List ℕ) (d : Doc) (k : Limits) (ps qs : List PackageRow) (cs : List ConstraintRow) (p last : Progress) (w : Wanted) where
  read_at : Ok (state_of text ps cs p) ≡ run k 0 start d → Ok (state_of text qs cs last) ≡ closed k.packages (state_of text ps cs p) → last.request ≡ Some w → read_doc k d ≡ distinct_only (state_of text qs cs last) (sought_of text cs w) (repeated_in text [] qs)
  read_at a b e = rw (← a, ← b, e, repeated_words text cs [] qs) refl

  pub read_twice : (n : ℕ) → Ok (state_of text ps cs p) ≡ run k 0 start d → Ok (state_of text qs cs last) ≡ closed k.packages (state_of text ps cs p) → last.request ≡ Some w → Some n ≡ repeated_in text [] qs → Err (Twice n) ≡ read_doc k d
  read_twice n a b e h = sym (read_at a b e ∙ ap (distinct_only (state_of text qs cs last) (sought_of text cs w)) (sym h))

  packages_in_words : (rows : List PackageRow) → each (λ g. g.package') (map (given_of text cs) rows) ≡ each (package_of text cs) rows
  packages_in_words [] = refl
  packages_in_words (x ∷ rows) = ap (λ t. package_of text cs x ∷ t) (packages_in_words rows)

  pub read_whole : Ok (state_of text ps cs p) ≡ run k 0 start d → Ok (state_of text qs cs last) ≡ closed k.packages (state_of text ps cs p) → last.request ≡ Some w → None ≡ repeated_in text [] qs → Ok (problem_in text qs cs w) ≡ read_doc k d
  read_whole a b e h =
      rw (list_given text cs w.install, list_given text cs w.remove, ← packages_in_words qs) refl
      ∙ sym (read_at a b e ∙ ap (distinct_only (state_of text qs cs last) (sought_of text cs w)) (sym h))
