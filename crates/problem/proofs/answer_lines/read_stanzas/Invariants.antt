use Rattle.std.proofs.Common.{◌≡◌, ◌≤◌, length, IfSome}
use Rattle.text.specs.Doc.{doc, count}
use Rattle.text.specs.Steps.{todo}
use Rattle.problem.specs.AnswerCalls.{answering_of}
use Rattle.problem.specs.Answers.{run_answer, nothing_said}
use Rattle.problem.specs.Heads.{HeadOk}
use Rattle.problem.specs.Meaning.{problem_of}
use Rattle.problem.proofs.answer_lines.read_stanzas.Given as goal

abbrev pub invariant-loop-line : goal.invariant-loop-line
invariant-loop-line l =
    (run_answer (problem_of l.problem).packages l.lines.number (answering_of l.text l.table l.reading) (todo l.lines) ≡ run_answer (problem_of l.problem).packages 0 (nothing_said (length l.initial.table)) (doc l.text))
    × (l.lines.text.now ≡ l.text)
    × IfSome l.reading.draft (HeadOk (length l.text))
    × (l.reading.begun ≤ l.lines.number)

abbrev pub decreases-loop-line : goal.decreases-loop-line
decreases-loop-line l = count (todo l.lines)
