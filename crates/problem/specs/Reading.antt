-- A problem document, line by line, and the problem that it says.
-- Place: between stanzas, or in one; State: all that was read so far
-- opened, closed: at the first line of a stanza, at its end
-- placed: the place after a line that has a property, and how many constraints there are then; step: over one line
-- repeated: the line of the first stanza whose name and version an earlier one has
-- concluded: at the end of the text; run: over all lines; read_problem: the problem of a text, or its first fault
use Rattle.std.specs.Prelude.{ℕ, ◌+◌, min, Bool, false, cond, not, ◌&&◌, List, [], ◌∷◌, ◌++◌, length, Some, None, Ok, Err, Option, Result, ◌==◌, nat_lt}
use Rattle.std.specs.Option.{unwrap_or}
use Rattle.std.specs.Str.{bytes_eq}
use Rattle.text.specs.Doc.{Doc, end, broken, line, doc, count}
use Rattle.text.specs.Lists.{each, some}
use Rattle.text.specs.Pieces.{property}
use Rattle.text.specs.declared.fault.TextFault.TheVariants.{Form}
use Rattle.problem.specs.Cudf.{Package, Problem}
use Rattle.problem.specs.Drafts.{Drafted, Sought, then, extended, requested}
use Rattle.problem.specs.Heads.{begun}
use Rattle.problem.specs.Keys.{first_key}
use Rattle.problem.specs.declared.fault.ProblemFault.{ProblemFault}
use Rattle.problem.specs.declared.fault.ProblemFault.TheVariants.{Text, Property, Twice, TooMany}
use Rattle.problem.specs.declared.keys.FirstKey.{FirstKey}
use Rattle.problem.specs.declared.keys.FirstKey.TheVariants.{Package as APackage, Request}

-- how many stanzas and how many constraints there may be
pub record Limits : Type 0 where
  pub packages : ℕ
  pub constraints : ℕ

-- a stanza that was read to its end, and its first line
pub record Given : Type 0 where
  pub line : ℕ
  pub package' : Package

pub data Place : Type 0 where
  between : Place
  in_package : Drafted → Place
  in_request : Sought → Place

pub record State : Type 0 where
  pub place : Place
  pub request : Option Sought
  pub done : List Given
  pub asked : ℕ

abbrev pub no_list : {X : Type 0} → Option (List X)
no_list = None

abbrev pub opened_by : ℕ → Bool → List ℕ → Option FirstKey → Result Place ProblemFault
opened_by n full v (Some APackage) = then (begun n full v) (λ h. Ok (in_package (record { head = h; depends = no_list; conflicts = no_list })))
opened_by n full v (Some Request) = Ok (in_request (record { install = no_list; remove = no_list }))
opened_by n full v None = Err (Property n)

-- nothing stands after the request
abbrev pub opened : ℕ → Bool → Option Sought → List ℕ × List ℕ → Result Place ProblemFault
opened n full (Some w) p = Err (Property n)
opened n full None p = opened_by n full p.1 (first_key p.0)

abbrev pub filed : Drafted → Option ℕ → Result Given ProblemFault
filed d None = Err (Property d.head.line)
filed d (Some v) = Ok (record { line = d.head.line; package' = record { name = d.head.name; version = v; installed = unwrap_or d.head.installed false; depends = unwrap_or d.depends []; conflicts = unwrap_or d.conflicts [] } })

abbrev pub closed_at : ℕ → State → Place → Result State ProblemFault
closed_at limit s between = Ok (record { place = between; request = s.request; done = s.done; asked = s.asked })
closed_at limit s (in_request w) = Ok (record { place = between; request = Some w; done = s.done; asked = s.asked })
closed_at limit s (in_package d) =
    then (filed d d.head.version)
    (λ g. cond (nat_lt (length s.done) limit) (Ok (record { place = between; request = s.request; done = s.done ++ g ∷ []; asked = s.asked })) (Err (TooMany d.head.line)))

abbrev pub closed : ℕ → State → Result State ProblemFault
closed limit s = closed_at limit s s.place

abbrev pub moved : State → Place → ℕ → State
moved s p n = record { place = p; request = s.request; done = s.done; asked = n }

-- the place after a line that has a property
abbrev pub placed : ℕ → ℕ → Bool → Option Sought → ℕ → List ℕ × List ℕ → Place → Result (Place × ℕ) ProblemFault
placed limit n full request asked p between = then (opened n full request p) (λ q. Ok (q, asked))
placed limit n full request asked p (in_package d) = then (extended limit n (d, asked) p) (λ q. Ok (in_package q.0, q.1))
placed limit n full request asked p (in_request w) = then (requested limit n (w, asked) p) (λ q. Ok (in_request q.0, q.1))

-- a line that is not empty, with its property if it has one
abbrev pub taken : Limits → ℕ → State → Option (List ℕ × List ℕ) → Result State ProblemFault
taken k n s None = Err (Text (Form n))
taken k n s (Some p) = then (placed k.constraints n (not (nat_lt (length s.done) k.packages)) s.request s.asked p s.place) (λ q. Ok (moved s q.0 q.1))

abbrev pub step : Limits → ℕ → State → List ℕ → Result State ProblemFault
step k n s l = cond (length l == 0) (closed k.packages s) (taken k n s (property l))

abbrev pub same_given : Given → Given → Bool
same_given a b = bytes_eq a.package'.name b.package'.name && a.package'.version == b.package'.version

abbrev pub repeated : List Given → List Given → Option ℕ
repeated before [] = None
repeated before (x ∷ xs) = cond (some (λ y. same_given y x) before) (Some x.line) (repeated (before ++ x ∷ []) xs)

abbrev pub distinct_only : State → Sought → Option ℕ → Result Problem ProblemFault
distinct_only s w (Some n) = Err (Twice n)
distinct_only s w None = Ok (record { packages = each (λ g. g.package') s.done; install = unwrap_or w.install []; remove = unwrap_or w.remove [] })

-- after n lines
abbrev pub concluded : ℕ → State → Option Sought → Result Problem ProblemFault
concluded n s None = Err (Property (n + 1))
concluded n s (Some w) = distinct_only s w (repeated [] s.done)

abbrev pub run : Limits → ℕ → State → Doc → Result State ProblemFault
run k n s end = Ok s
run k n s broken = Err (Text (Form (n + 1)))
run k n s (line l d) = then (step k (n + 1) s l) (λ t. run k (n + 1) t d)

abbrev pub start : State
start = record { place = between; request = None; done = []; asked = 0 }

abbrev pub read_doc : Limits → Doc → Result Problem ProblemFault
read_doc k d = then (run k 0 start d) (λ s. then (closed k.packages s) (λ t. concluded (count d) t t.request))

abbrev pub read_problem : ℕ → ℕ → List ℕ → Result Problem ProblemFault
read_problem packages constraints text = read_doc (record { packages = min 256 packages; constraints = min 1024 constraints }) (doc text)
