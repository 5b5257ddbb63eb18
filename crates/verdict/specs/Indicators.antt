-- The names that have an indicator variable, and the clauses of these variables, by package rows.
-- has_installed: whether a name has an installed version
-- listed: whether a name has an indicator; listed_at: whether the name of a row has, and no row before its place has that name
-- listed_from: the names with an indicator whose first row stands at a place or after it
-- changed_rows: what makes a changed variable true, for each version of a name; so many rows stand before them
-- of_name, of_names: the clauses of a name's indicator, and those of names one after the other
use Rattle.std.specs.Prelude.{ℕ, suc, Bool, true, cond, ◌&&◌, List, [], ◌∷◌, ◌++◌, take, drop}
use Rattle.std.specs.Str.{bytes_eq}
use Rattle.text.specs.Lists.{each, keep, some}
use Rattle.text.specs.Literals.{Clause, lit, neg}
use Rattle.text.specs.Word.{word_in}
use Rattle.problem.specs.Naming.{counted, row_names}
use Rattle.problem.specs.Stanzas.{passing}
use Rattle.problem.specs.declared.rows.PackageRow.{PackageRow}
use Rattle.verdict.specs.declared.names.Indicator.{Indicator}
use Rattle.verdict.specs.declared.names.Indicator.TheVariants.{Removed, Changed}

abbrev pub has_installed : List ℕ → List ℕ → List PackageRow → Bool
has_installed text n ps = some (λ p. bytes_eq n (word_in text p.name) && p.installed) ps

abbrev pub listed : Indicator → List ℕ → List PackageRow → List ℕ → Bool
listed Removed text ps n = has_installed text n ps
listed Changed text ps n = true

abbrev pub listed_at : Indicator → List ℕ → List PackageRow → ℕ → PackageRow → Bool
listed_at k text ps i p = counted text (listed k text ps) ps i p

abbrev pub listed_from : Indicator → List ℕ → List PackageRow → ℕ → List (List ℕ)
listed_from k text ps i = keep (listed k text ps) (row_names text (each (λ p. word_in text p.name) (take i ps)) (drop i ps))

abbrev pub changed_rows : List ℕ → List ℕ → ℕ → ℕ → List PackageRow → List Clause
changed_rows text n v before [] = []
changed_rows text n v before (p ∷ ps) = cond (bytes_eq n (word_in text p.name)) ((cond p.installed (lit (suc before)) (neg (suc before)) ∷ lit v ∷ []) ∷ changed_rows text n v (suc before) ps) (changed_rows text n v (suc before) ps)

abbrev pub of_name : Indicator → List ℕ → List PackageRow → ℕ → List ℕ → List Clause
of_name Removed text ps v n = (each lit (passing (λ p. bytes_eq n (word_in text p.name)) 0 ps) ++ lit v ∷ []) ∷ []
of_name Changed text ps v n = changed_rows text n v 0 ps

abbrev pub of_names : Indicator → List ℕ → List PackageRow → ℕ → List (List ℕ) → List Clause
of_names k text ps v [] = []
of_names k text ps v (n ∷ ns) = of_name k text ps v n ++ of_names k text ps (suc v) ns
