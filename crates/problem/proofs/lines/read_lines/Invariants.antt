use Rattle.std.proofs.Common.{◌≡◌, ◌+◌, ◌≤◌, length}
use Rattle.text.specs.Doc.{doc, count}
use Rattle.text.specs.Rows.{items, Same}
use Rattle.text.specs.Steps.{todo}
use Rattle.problem.specs.ConstraintLists.{limit_of}
use Rattle.problem.specs.Growth.{Grown}
use Rattle.problem.specs.Reading.{run, start}
use Rattle.problem.specs.Sections.{limits_of, state_of, Sound}
use Rattle.problem.proofs.lines.read_lines.Given as goal

abbrev pub invariant-loop-line : goal.invariant-loop-line
invariant-loop-line l =
    (run (limits_of l.initial.packages l.initial.constraints) l.lines.number (state_of l.text (items l.packages) (items l.constraints) l.progress) (todo l.lines) ≡ run (limits_of l.initial.packages l.initial.constraints) 0 start (doc l.text))
    × (l.lines.number + count (todo l.lines) ≡ count (doc l.text))
    × (l.lines.text.now ≡ l.text)
    × Sound (length l.text) (length (items l.constraints)) (items l.packages) l.progress
    × (length (items l.constraints) ≤ limit_of l.constraints)
    × Grown l.text l.initial.constraints l.constraints
    × Same l.initial.packages l.packages

abbrev pub decreases-loop-line : goal.decreases-loop-line
decreases-loop-line l = count (todo l.lines)
