use Rattle.std.proofs.Common.{◌≡◌, ◌++◌, length}
use Rattle.text.specs.Lists.{each}
use Rattle.text.specs.Rows.{items, Same}
use Rattle.certificate.specs.Hinted.{words}
use Rattle.certificate.proofs.words.push_words.Given as goal

abbrev pub invariant-loop-rest : goal.invariant-loop-rest
invariant-loop-rest g l =
    (items l.rows ++ each g.T.Word.meant (words l.rest) ≡ items l.initial.rows ++ each g.T.Word.meant (words l.bytes))
    × Same l.initial.rows l.rows

abbrev pub decreases-loop-rest : goal.decreases-loop-rest
decreases-loop-rest g l = length l.rest
