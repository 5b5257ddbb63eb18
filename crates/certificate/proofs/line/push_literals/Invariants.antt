use Rattle.text.specs.Left.{left}
use Rattle.text.specs.Pieces.{pieces}
use Rattle.text.specs.Rows.{items, room, Same}
use Rattle.certificate.proofs.Spelling.{SoFar}
use Rattle.certificate.proofs.line.push_literals.Given as goal

abbrev pub invariant-loop-count : goal.invariant-loop-count
invariant-loop-count l =
    SoFar (pieces 32 l.line) (left l.parts) (room l.initial.rows) l.count (items l.rows)
    × Same l.initial.rows l.rows
