-- What the code's values say of a document that is being read.
-- place_of, given_of, state_of: the same in words; limits_of: how many rows there can be
-- place_at: a place, with how many constraints there are
-- row_of: the row of a package stanza that was read to its end
-- package_limit: how many package rows there can be, 256 at most; Files: what putting one more does
-- SectionOk, Sound: names lie in the document, runs among the rows, and there are not too many packages
use Rattle.std.specs.Prelude.{◌≡◌, ℕ, ◌<◌, ◌≤◌, min, false, ◌⊎◌, List, [], ◌∷◌, ◌++◌, map, length, IfSome, Some, None, Ok, Err, Option, Result}
use Rattle.std.specs.Option.{option_map, unwrap_or}
use Rattle.text.specs.Lists.{Each}
use Rattle.text.specs.Rows.{room}
use Rattle.text.specs.declared.rows.Rows.{Rows}
use Rattle.problem.specs.ConstraintLists.{limit_of}
use Rattle.problem.specs.Drafts.{draft_of, sought_of, DraftOk, WantedOk}
use Rattle.problem.specs.Meaning.{package_of}
use Rattle.problem.specs.Reading.{Limits, Place, between, in_package, in_request, Given, State}
use Rattle.problem.specs.Rows.{PackageOk}
use Rattle.problem.specs.declared.draft.Draft.{Draft}
use Rattle.problem.specs.declared.fault.ProblemFault.{ProblemFault}
use Rattle.problem.specs.declared.fault.ProblemFault.TheVariants.{Property, TooMany}
use Rattle.problem.specs.declared.rows.ConstraintRow.{ConstraintRow}
use Rattle.problem.specs.declared.rows.PackageRow.{PackageRow}
use Rattle.problem.specs.declared.section.Section.{Section}
use Rattle.problem.specs.declared.section.Section.TheVariants.{Between, Package, Request}
use Rattle.problem.specs.declared.section.Progress.{Progress}

abbrev pub place_of : List ℕ → List ConstraintRow → Section → Place
place_of text cs Between = between
place_of text cs (Package d) = in_package (draft_of text cs d)
place_of text cs (Request w) = in_request (sought_of text cs w)

abbrev pub given_of : List ℕ → List ConstraintRow → PackageRow → Given
given_of text cs p = record { line = p.line; package' = package_of text cs p }

abbrev pub state_of : List ℕ → List PackageRow → List ConstraintRow → Progress → State
state_of text ps cs p = record { place = place_of text cs p.section; request = option_map (sought_of text cs) p.request; done = map (given_of text cs) ps; asked = length cs }

abbrev pub row_of : Draft → Option ℕ → Result PackageRow ProblemFault
row_of d None = Err (Property d.head.line)
row_of d (Some v) = Ok (record { line = d.head.line; name = d.head.name; version = v; installed = unwrap_or d.head.installed false; depends = unwrap_or d.depends (record { first = 0; len = 0 }); conflicts = unwrap_or d.conflicts (record { first = 0; len = 0 }) })

abbrev pub package_limit : Rows PackageRow → ℕ
package_limit r = min 256 (room r)

abbrev pub limits_of : Rows PackageRow → Rows ConstraintRow → Limits
limits_of ps cs = record { packages = package_limit ps; constraints = limit_of cs }

-- a place, and how many constraints there are
abbrev pub place_at : List ℕ → List ConstraintRow → Section → Place × ℕ
place_at text cs s = (place_of text cs s, length cs)

-- the rows after a package stanza was read to its end
abbrev pub Files : {U : Type 0} → ℕ → List PackageRow → Draft → List PackageRow → Result U ProblemFault → Type 0
Files limit ps d qs (Ok u) = (row : PackageRow) × (row_of d d.head.version ≡ Ok row) × (length ps < limit) × (qs ≡ ps ++ row ∷ [])
Files limit ps d qs (Err f) = (qs ≡ ps) × ((row_of d d.head.version ≡ Err f) ⊎ ((row : PackageRow) × (row_of d d.head.version ≡ Ok row) × (limit ≤ length ps) × (f ≡ TooMany row.line)))

abbrev pub SectionOk : ℕ → ℕ → Section → Type 0
SectionOk bytes n Between = Unit {0}
SectionOk bytes n (Package d) = DraftOk bytes n d
SectionOk bytes n (Request w) = WantedOk n w

pub record Sound (bytes n : ℕ) (ps : List PackageRow) (p : Progress) : Type 0 where
  pub packages : Each (PackageOk bytes n) ps
  pub section : SectionOk bytes n p.section
  pub request : IfSome p.request (WantedOk n)
  pub few : length ps ≤ 256
