-- What reading a problem comes to.
-- problem_in: the problem that the rows and the request mean
-- RowsOk: what holds of the rows of every problem
-- Held: so many rows stand first in memory, zeros after them; Made: the view that is made of rows
-- Read: what reading a problem answers and shows: the problem of the text, or its first fault and no rows at all
use Rattle.std.specs.Prelude.{◌≡◌, ℕ, ◌-◌, ◌≤◌, false, List, length, take, drop, replicate, IfErr, Result}
use Rattle.std.specs.Option.{unwrap_or}
use Rattle.text.specs.Lists.{Each}
use Rattle.problem.specs.Cudf.{Problem, no_problem}
use Rattle.problem.specs.Drafts.{WantedOk}
use Rattle.problem.specs.Growth.{ok_mapped}
use Rattle.problem.specs.Meaning.{in_words, problem_of}
use Rattle.problem.specs.Reading.{read_problem}
use Rattle.problem.specs.Rows.{no_package, no_constraint, PackageOk, ConstraintOk, stands_twice}
use Rattle.problem.specs.declared.fault.ProblemFault.{ProblemFault}
use Rattle.problem.specs.declared.rows.ConstraintRow.{ConstraintRow}
use Rattle.problem.specs.declared.rows.PackageRow.{PackageRow}
use Rattle.problem.specs.declared.rows.Span.{Span}
use Rattle.problem.specs.declared.view.Problem.{Problem as View}
use Rattle.problem.specs.declared.wanted.Wanted.{Wanted}

abbrev no_span : Span
no_span = record { first = 0; len = 0 }

abbrev pub problem_in : List ℕ → List PackageRow → List ConstraintRow → Wanted → Problem
problem_in text ps cs w = in_words text ps cs (unwrap_or w.install no_span) (unwrap_or w.remove no_span)

pub record RowsOk (text : List ℕ) (ps : List PackageRow) (cs : List ConstraintRow) (w : Wanted) : Type 0 where
  pub packages : Each (PackageOk (length text) (length cs)) ps
  pub constraints : Each (ConstraintOk (length text)) cs
  pub request : WantedOk (length cs) w
  pub once : stands_twice text ps ≡ false
  pub few : length ps ≤ 256
  pub asked : length cs ≤ 1024

pub record Held {T : Type 0} (z : T) (memory : List T) (n : ℕ) : Type 0 where
  pub within : n ≤ length memory
  pub blank : drop n memory ≡ replicate (length memory - n) z

pub record Made (bytes : List ℕ) (ps : List PackageRow) (count : ℕ) (cs : List ConstraintRow) (asked : ℕ) (w : Wanted) (v : View) : Type 0 where
  pub text : v.text.now ≡ bytes
  pub packages : v.packages.now ≡ ps
  pub constraints : v.constraints.now ≡ cs
  pub problem : problem_of v ≡ problem_in bytes (take count ps) (take asked cs) w

pub record Read (bytes : List ℕ) (room room' : ℕ) (r : Result (Unit {0}) ProblemFault) (v : View) : Type 0 where
  pub text : v.text.now ≡ bytes
  pub packages : length v.packages.now ≡ room
  pub constraints : length v.constraints.now ≡ room'
  pub answer : ok_mapped (λ _. problem_of v) r ≡ read_problem room room' bytes
  pub refused : IfErr r (λ _. (problem_of v ≡ no_problem) × (v.packages.now ≡ replicate room no_package) × (v.constraints.now ≡ replicate room' no_constraint))
