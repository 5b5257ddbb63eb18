use Rattle.std.proofs.Common.{◌≡◌, ◌+◌, ◌≤◌, ◌++◌, length, drop}
use Rattle.std.specs.Str.{bytes_eq}
use Rattle.text.specs.Lists.{each}
use Rattle.text.specs.Literals.{lit}
use Rattle.text.specs.Rows.{items, room}
use Rattle.text.specs.Word.{word_in}
use Rattle.problem.specs.Stanzas.{passing}
use Rattle.verdict.proofs.indicators.write_versions.Given as goal

abbrev pub invariant-loop-i : goal.invariant-loop-i
invariant-loop-i l =
    (items l.clause ++ each lit (passing (λ p. bytes_eq l.name (word_in l.stanzas.text.now p.name)) (0 + l.i) (drop l.i l.stanzas.rows.now)) ≡
    items l.initial.clause ++ each lit (passing (λ p. bytes_eq l.name (word_in l.stanzas.text.now p.name)) 0 l.stanzas.rows.now))
    × (length (items l.clause) ≤ length (items l.initial.clause) + l.i) × (room l.clause ≡ room l.initial.clause)
