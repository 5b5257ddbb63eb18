-- What the calls that read an answer promise, by the code's values.
-- draft_in: a stanza that is being read, in words
-- answering_of: where the reading stands, in words
-- table_after: the table, if the call was not refused
-- Answers: what reading an answer answers and leaves in its table
use Rattle.std.specs.Prelude.{◌≡◌, ℕ, List, replicate, Ok, Err, Option, Result}
use Rattle.std.specs.Option.{option_map}
use Rattle.problem.specs.Answers.{Answering, read_answer, failed, given}
use Rattle.problem.specs.Cudf.{Package}
use Rattle.problem.specs.Heads.{Begun, head_of}
use Rattle.problem.specs.declared.answer.Answer.{Answer}
use Rattle.problem.specs.declared.answer.Answer.TheVariants.{Fail, Set}
use Rattle.problem.specs.declared.answer_lines.Reading.{Reading}
use Rattle.problem.specs.declared.fault.AnswerFault.{AnswerFault}
use Rattle.problem.specs.declared.head.Head.{Head}
use Rattle.problem.specs.declared.standing.Standing.{Standing}
use Rattle.problem.specs.declared.standing.Standing.TheVariants.{Unnamed}

abbrev pub draft_in : List ℕ → Option Head → Option Begun
draft_in text o = option_map (head_of text) o

abbrev pub answering_of : List ℕ → List Standing → Reading → Answering
answering_of text table r = record { draft = draft_in text r.draft; begun = r.begun; table = table }

abbrev pub table_after : {X F : Type 0} → List Standing → Result X F → Result (List Standing) F
table_after table (Ok x) = Ok table
table_after table (Err f) = Err f

abbrev pub Answers : List Package → ℕ → List ℕ → Result Answer AnswerFault → List Standing → Type 0
Answers ps room text (Ok Fail) table = (read_answer ps room text ≡ Ok failed) × (table ≡ replicate room Unnamed)
Answers ps room text (Ok Set) table = read_answer ps room text ≡ Ok (given table)
Answers ps room text (Err f) table = (read_answer ps room text ≡ Err f) × (table ≡ replicate room Unnamed)
