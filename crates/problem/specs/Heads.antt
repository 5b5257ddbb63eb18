-- What problems and answers share of a stanza, line by line.
-- Begun: what the lines so far say; head_of: the same of the code's value
-- begun: after the first line, if its value is a name and there is a place left
-- valued: what was read of a value, if it is a good one
-- versioned, marked: with a version, with whether it is installed, unless there is one already
-- HeadOk: its name lies in the document, and its version is within the limits
use Rattle.std.specs.Prelude.{ℕ, ◌≤◌, Bool, cond, List, IfSome, Some, None, Ok, Err, Option, Result}
use Rattle.text.specs.Word.{word_in, Inside}
use Rattle.problem.specs.ConstraintLists.{once}
use Rattle.problem.specs.Growth.{ok_mapped}
use Rattle.problem.specs.Words.{is_name}
use Rattle.problem.specs.declared.fault.ProblemFault.{ProblemFault}
use Rattle.problem.specs.declared.fault.ProblemFault.TheVariants.{Value, TooMany}
use Rattle.problem.specs.declared.head.Head.{Head}

pub record Begun : Type 0 where
  pub line : ℕ
  pub name : List ℕ
  pub version : Option ℕ
  pub installed : Option Bool

abbrev pub head_of : List ℕ → Head → Begun
head_of text h = record { line = h.line; name = word_in text h.name; version = h.version; installed = h.installed }

abbrev pub begun : ℕ → Bool → List ℕ → Result Begun ProblemFault
begun n full v = cond (is_name v) (cond full (Err (TooMany n)) (Ok (record { line = n; name = v; version = None; installed = None }))) (Err (Value n))

abbrev pub valued : {X : Type 0} → ℕ → Option X → Result X ProblemFault
valued n None = Err (Value n)
valued n (Some x) = Ok x

-- what there is, and what was read
abbrev pub versioned : ℕ → Begun → Option ℕ → Option ℕ → Result Begun ProblemFault
versioned n d w o = ok_mapped (λ v. record { line = d.line; name = d.name; version = Some v; installed = d.installed }) (once n w (valued n o))

abbrev pub marked : ℕ → Begun → Option Bool → Option Bool → Result Begun ProblemFault
marked n d w o = ok_mapped (λ b. record { line = d.line; name = d.name; version = d.version; installed = Some b }) (once n w (valued n o))

pub record HeadOk (bytes : ℕ) (h : Head) : Type 0 where
  pub name : Inside bytes h.name
  pub version : IfSome h.version (λ v. (1 ≤ v) × (v ≤ 999999))
