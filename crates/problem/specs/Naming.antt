-- The names of package rows, and what a set does to them.
-- TestsNames, Marks: a closure that answers what a test does: of a name, and of whether a version is in the set and was installed
-- some_version: whether a name has a version with a mark; so many rows stand before those that are asked
-- removes, changes: whether a set leaves no version of a name that had some, and whether it leaves other versions
-- named: whether some row has a name
-- counted: whether the name of a row passes a test, and no row before its place has that name
-- row_names: the names of rows, each once, without those seen before
use Rattle.std.specs.Prelude.{◌≡◌, ℕ, suc, Bool, false, cond, not, ◌&&◌, ◌||◌, List, [], ◌∷◌, take, slice_index_or}
use Rattle.std.specs.Fn.{FnReturnsAt}
use Rattle.std.specs.Str.{bytes_eq}
use Rattle.text.specs.Lists.{some}
use Rattle.text.specs.Word.{word_in}
use Rattle.problem.specs.Cudf.{differs, seen_in}
use Rattle.problem.specs.Sets.{is_in}
use Rattle.problem.specs.declared.rows.PackageRow.{PackageRow}
use Rattle.problem.specs.declared.standing.Standing.{Standing}
use Rattle.problem.specs.declared.standing.Standing.TheVariants.{Unnamed}
use denote.Param.Members.{Shared}
use denote.Ref.{Bor}

abbrev pub TestsNames : {F : Type 0} → Shared F (Bor (List ℕ) × Unit {0}) Bool → F → (List ℕ → Bool) → Type 0
TestsNames g f t = (n : List ℕ) (r : Bool) → FnReturnsAt g f n r → r ≡ t n

abbrev pub Marks : (Bool → Bool → Bool → Type 0) → (Bool → Bool → Bool) → Type 0
Marks post m = (chosen installed r : Bool) → post chosen installed r → r ≡ m chosen installed

abbrev pub some_version : List ℕ → List Standing → (Bool → Bool → Bool) → List ℕ → ℕ → List PackageRow → Bool
some_version text set m n before [] = false
some_version text set m n before (p ∷ ps) = (bytes_eq n (word_in text p.name) && m (is_in (slice_index_or set before Unnamed)) p.installed) || some_version text set m n (suc before) ps

abbrev pub removes : List ℕ → List Standing → List PackageRow → List ℕ → Bool
removes text set ps n = some_version text set (λ chosen installed. installed) n 0 ps && not (some_version text set (λ chosen installed. chosen) n 0 ps)

abbrev pub changes : List ℕ → List Standing → List PackageRow → List ℕ → Bool
changes text set ps n = some_version text set differs n 0 ps

abbrev pub row_names : List ℕ → List (List ℕ) → List PackageRow → List (List ℕ)
row_names text seen [] = []
row_names text seen (p ∷ ps) = cond (seen_in (word_in text p.name) seen) (row_names text seen ps) (word_in text p.name ∷ row_names text (word_in text p.name ∷ seen) ps)

abbrev pub named : List ℕ → List ℕ → List PackageRow → Bool
named text n ps = some (λ p. bytes_eq n (word_in text p.name)) ps

abbrev pub counted : List ℕ → (List ℕ → Bool) → List PackageRow → ℕ → PackageRow → Bool
counted text t ps i p = not (named text (word_in text p.name) (take i ps)) && t (word_in text p.name)
