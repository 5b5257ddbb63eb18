-- The stanzas of a problem, line by line.
-- Drafted: a package stanza so far; Sought: a request stanza so far
-- draft_of, sought_of: the same of the code's values; draft_at, sought_at: with how many constraints there are
-- extended, requested: after a further line
-- DraftOk, WantedOk: the runs lie among so many rows
use Rattle.std.specs.Prelude.{ℕ, List, length, IfSome, Some, None, Ok, Err, Option, Result}
use Rattle.std.specs.Option.{option_map}
use Rattle.problem.specs.ConstraintLists.{once, constraint_list, conjunct_list, listed, conjoined}
use Rattle.problem.specs.Cudf.{Constraint}
use Rattle.problem.specs.Heads.{Begun, head_of, versioned, marked, HeadOk}
use Rattle.problem.specs.Keys.{package_key, request_key, truth}
use Rattle.problem.specs.Meaning.{list_of, conjuncts_of}
use Rattle.problem.specs.Rows.{Spanned}
use Rattle.problem.specs.Words.{version}
use Rattle.problem.specs.declared.draft.Draft.{Draft}
use Rattle.problem.specs.declared.wanted.Wanted.{Wanted}
use Rattle.problem.specs.declared.fault.ProblemFault.{ProblemFault}
use Rattle.problem.specs.declared.fault.ProblemFault.TheVariants.{Property}
use Rattle.problem.specs.declared.keys.PackageKey.{PackageKey}
use Rattle.problem.specs.declared.keys.PackageKey.TheVariants.{Version, Depends, Conflicts, Installed}
use Rattle.problem.specs.declared.keys.RequestKey.{RequestKey}
use Rattle.problem.specs.declared.keys.RequestKey.TheVariants.{Install, Remove}
use Rattle.problem.specs.declared.rows.ConstraintRow.{ConstraintRow}

pub record Drafted : Type 0 where
  pub head : Begun
  pub depends : Option (List (List Constraint))
  pub conflicts : Option (List Constraint)

pub record Sought : Type 0 where
  pub install : Option (List Constraint)
  pub remove : Option (List Constraint)

abbrev pub draft_of : List ℕ → List ConstraintRow → Draft → Drafted
draft_of text cs d = record { head = head_of text d.head; depends = option_map (conjuncts_of text cs) d.depends; conflicts = option_map (list_of text cs) d.conflicts }

abbrev pub sought_of : List ℕ → List ConstraintRow → Wanted → Sought
sought_of text cs w = record { install = option_map (list_of text cs) w.install; remove = option_map (list_of text cs) w.remove }

abbrev pub draft_at : List ℕ → List ConstraintRow → Draft → Drafted × ℕ
draft_at text cs d = (draft_of text cs d, length cs)

abbrev pub sought_at : List ℕ → List ConstraintRow → Wanted → Sought × ℕ
sought_at text cs w = (sought_of text cs w, length cs)

abbrev pub then : {X Y F : Type 0} → Result X F → (X → Result Y F) → Result Y F
then (Err e) f = Err e
then (Ok x) f = f x

abbrev pub extended_by : ℕ → ℕ → Drafted × ℕ → List ℕ → Option PackageKey → Result (Drafted × ℕ) ProblemFault
extended_by limit n s v (Some Version) = then (versioned n s.0.head s.0.head.version (version v)) (λ h. Ok (record { head = h; depends = s.0.depends; conflicts = s.0.conflicts }, s.1))
extended_by limit n s v (Some Installed) = then (marked n s.0.head s.0.head.installed (truth v)) (λ h. Ok (record { head = h; depends = s.0.depends; conflicts = s.0.conflicts }, s.1))
extended_by limit n s v (Some Depends) = once n s.0.depends (then (conjoined limit s.1 n (conjunct_list v)) (λ p. Ok (record { head = s.0.head; depends = Some p.0; conflicts = s.0.conflicts }, p.1)))
extended_by limit n s v (Some Conflicts) = once n s.0.conflicts (then (listed limit s.1 n (constraint_list v)) (λ p. Ok (record { head = s.0.head; depends = s.0.depends; conflicts = Some p.0 }, p.1)))
extended_by limit n s v None = Err (Property n)

abbrev pub extended : ℕ → ℕ → Drafted × ℕ → List ℕ × List ℕ → Result (Drafted × ℕ) ProblemFault
extended limit n s p = extended_by limit n s p.1 (package_key p.0)

abbrev pub requested_by : ℕ → ℕ → Sought × ℕ → List ℕ → Option RequestKey → Result (Sought × ℕ) ProblemFault
requested_by limit n s v (Some Install) = once n s.0.install (then (listed limit s.1 n (constraint_list v)) (λ p. Ok (record { install = Some p.0; remove = s.0.remove }, p.1)))
requested_by limit n s v (Some Remove) = once n s.0.remove (then (listed limit s.1 n (constraint_list v)) (λ p. Ok (record { install = s.0.install; remove = Some p.0 }, p.1)))
requested_by limit n s v None = Err (Property n)

abbrev pub requested : ℕ → ℕ → Sought × ℕ → List ℕ × List ℕ → Result (Sought × ℕ) ProblemFault
requested limit n s p = requested_by limit n s p.1 (request_key p.0)

pub record DraftOk (bytes constraints : ℕ) (d : Draft) : Type 0 where
  pub head : HeadOk bytes d.head
  pub depends : IfSome d.depends (Spanned constraints)
  pub conflicts : IfSome d.conflicts (Spanned constraints)

pub record WantedOk (constraints : ℕ) (w : Wanted) : Type 0 where
  pub install : IfSome w.install (Spanned constraints)
  pub remove : IfSome w.remove (Spanned constraints)
