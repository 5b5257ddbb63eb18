-- What writing after the rows of a bounded list does.
-- Appends: the rows go after the others; it is refused only where there is no room for all of them
use Rattle.std.specs.Prelude.{◌≡◌, ◌+◌, ◌<◌, List, ◌++◌, length, Ok, Err, Result}
use Rattle.text.specs.Rows.{items, room}
use Rattle.text.specs.declared.rows.Rows.{Rows}

abbrev pub Appends : {T U F : Type 0} → Rows T → List T → Result U F → Rows T → Type 0
Appends r xs (Ok u) s = items s ≡ items r ++ xs
Appends r xs (Err e) s = room r < length (items r) + length xs
