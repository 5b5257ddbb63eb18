-- An answer document, line by line, and what it says of the stanzas of a problem.
-- Answered: no plan is claimed to exist, or what is said of each stanza
-- stanza_in: the place of the package with a name and version
-- Answering: the stanza whose lines are being read, how many were begun, and what was said so far
-- begun_by, extended_answer: after the first line of a stanza, after a further one
-- settled_at: what a stanza that was read to its end says; closed_answer: at its end; step_answer: over one line
-- run_answer: over all lines; read_answer: the answer of a text, or its first fault
use Rattle.std.specs.Prelude.{ℕ, ◌+◌, Bool, false, cond, ◌&&◌, List, [], ◌∷◌, ◌++◌, length, replicate, Some, None, Ok, Err, codes, Option, Result, ◌==◌, nat_le, nat_lt, slice_index_or, slice_set}
use Rattle.std.specs.Option.{option_map, unwrap_or}
use Rattle.std.specs.Str.{bytes_eq}
use Rattle.text.specs.Doc.{Doc, end, broken, line, doc}
use Rattle.text.specs.Pieces.{property}
use Rattle.text.specs.declared.fault.TextFault.TheVariants.{Form}
use Rattle.problem.specs.Cudf.{Package}
use Rattle.problem.specs.Drafts.{then}
use Rattle.problem.specs.Heads.{Begun, begun, versioned, marked}
use Rattle.problem.specs.Keys.{first_key, answer_key, truth}
use Rattle.problem.specs.Sets.{is_unnamed, standing}
use Rattle.problem.specs.Words.{version}
use Rattle.problem.specs.declared.fault.AnswerFault.{AnswerFault}
use Rattle.problem.specs.declared.fault.AnswerFault.TheVariants.{Document, Unknown}
use Rattle.problem.specs.declared.fault.ProblemFault.{ProblemFault}
use Rattle.problem.specs.declared.fault.ProblemFault.TheVariants.{Text, Property, TooMany}
use Rattle.problem.specs.declared.keys.AnswerKey.{AnswerKey}
use Rattle.problem.specs.declared.keys.AnswerKey.TheVariants.{Version, Installed}
use Rattle.problem.specs.declared.keys.FirstKey.{FirstKey}
use Rattle.problem.specs.declared.keys.FirstKey.TheVariants.{Package as APackage, Request}
use Rattle.problem.specs.declared.standing.Standing.{Standing}
use Rattle.problem.specs.declared.standing.Standing.TheVariants.{Unnamed}

pub data Answered : Type 0 where
  failed : Answered
  given : List Standing → Answered

pub record Answering : Type 0 where
  pub draft : Option Begun
  pub begun : ℕ
  pub table : List Standing

abbrev pub in_answer : {X : Type 0} → Result X ProblemFault → Result X AnswerFault
in_answer (Ok x) = Ok x
in_answer (Err f) = Err (Document f)

abbrev pub begun_by : ℕ → Bool → List ℕ → Option FirstKey → Result Begun ProblemFault
begun_by n full v (Some APackage) = begun n full v
begun_by n full v (Some Request) = Err (Property n)
begun_by n full v None = Err (Property n)

abbrev pub extended_answer : ℕ → Begun → List ℕ → Option AnswerKey → Result Begun ProblemFault
extended_answer n b v (Some Version) = versioned n b b.version (version v)
extended_answer n b v (Some Installed) = marked n b b.installed (truth v)
extended_answer n b v None = Err (Property n)

abbrev pub drafted : ℕ → Bool → Option Begun → List ℕ × List ℕ → Result Begun ProblemFault
drafted n full None p = begun_by n full p.1 (first_key p.0)
drafted n full (Some b) p = extended_answer n b p.1 (answer_key p.0)

abbrev pub next_begun : Option Begun → ℕ → ℕ
next_begun None n = n + 1
next_begun (Some b) n = n

abbrev pub stanza_in : List ℕ → ℕ → List Package → Option ℕ
stanza_in name v [] = None
stanza_in name v (p ∷ ps) = cond (bytes_eq name p.name && v == p.version) (Some 0) (option_map (λ k. k + 1) (stanza_in name v ps))

-- at a place that the problem has: it was not given before, and memory has it
abbrev pub settled_at : ℕ → List Standing → Bool → Option ℕ → Result (List Standing) AnswerFault
settled_at at table installed None = Err (Unknown at)
settled_at at table installed (Some j) =
    cond (is_unnamed (slice_index_or table j Unnamed))
    (cond (nat_lt j (length table)) (Ok (slice_set table j (standing installed))) (Err (Document (TooMany at))))
    (Err (Unknown at))

abbrev pub filed_answer : List Package → List Standing → Begun → Option ℕ → Result (List Standing) AnswerFault
filed_answer ps table b None = Err (Document (Property b.line))
filed_answer ps table b (Some v) = settled_at b.line table (unwrap_or b.installed false) (stanza_in b.name v ps)

abbrev pub closed_answer : List Package → List Standing → Option Begun → Result (List Standing) AnswerFault
closed_answer ps table None = Ok table
closed_answer ps table (Some b) = filed_answer ps table b b.version

abbrev pub taken_answer : ℕ → Answering → Option (List ℕ × List ℕ) → Result Answering AnswerFault
taken_answer n s None = Err (Document (Text (Form n)))
taken_answer n s (Some p) = then (in_answer (drafted n (nat_le 256 s.begun) s.draft p)) (λ b. Ok (record { draft = Some b; begun = next_begun s.draft s.begun; table = s.table }))

abbrev pub step_answer : List Package → ℕ → Answering → List ℕ → Result Answering AnswerFault
step_answer ps n s l =
    cond (length l == 0) (then (closed_answer ps s.table s.draft) (λ t. Ok (record { draft = None; begun = s.begun; table = t }))) (taken_answer n s (property l))

abbrev pub run_answer : List Package → ℕ → Answering → Doc → Result (List Standing) AnswerFault
run_answer ps n s end = closed_answer ps s.table s.draft
run_answer ps n s broken = Err (Document (Text (Form (n + 1))))
run_answer ps n s (line l d) = then (step_answer ps (n + 1) s l) (λ t. run_answer ps (n + 1) t d)

abbrev pub nothing_said : ℕ → Answering
nothing_said room = record { draft = None; begun = 0; table = replicate room Unnamed }

-- the bytes FAIL and a line end
abbrev pub is_fail : List ℕ → Bool
is_fail text = bytes_eq text (codes "FAIL" ++ 10 ∷ [])

abbrev pub read_answer : List Package → ℕ → List ℕ → Result Answered AnswerFault
read_answer ps room text = cond (is_fail text) (Ok failed) (then (run_answer ps 0 (nothing_said room) (doc text)) (λ t. Ok (given t)))
