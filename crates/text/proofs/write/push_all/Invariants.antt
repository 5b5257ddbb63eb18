use Rattle.std.proofs.Common.{◌≡◌, ◌++◌, take}
use Rattle.text.specs.Rows.{items, Same}
use Rattle.text.proofs.write.push_all.Given as goal

abbrev pub invariant-loop-row : goal.invariant-loop-row
invariant-loop-row g l = (items l.out ≡ items l.initial.out ++ take l.row-index l.rows) × Same l.initial.out l.out
