-- The room that lent memory gives.
-- widest: the most rows and literals that links reach
-- lent_room: by the lengths of rows, literals, values, trail, heads, next, owners, and for how many rows the rest serves
-- counting_room, watched_room: the same with a counter for each row, with two watched places for each row
use Rattle.std.specs.Prelude.{ℕ, ◌-◌, ◌/◌, min}
use Rattle.clauses.specs.declared.room.Room.{Room}

abbrev pub widest : ℕ
widest = 4294967295

abbrev pub lent_room : ℕ → ℕ → ℕ → ℕ → ℕ → ℕ → ℕ → ℕ → Room
lent_room rows literals values trail heads next owners served =
    record { variables = min (min values trail) (heads / 2) - 1; clauses = min (min rows served) widest; literals = min (min (min literals next) owners) widest }

abbrev pub counting_room : ℕ → ℕ → ℕ → ℕ → ℕ → ℕ → ℕ → ℕ → Room
counting_room rows literals values trail heads next owners left = lent_room rows literals values trail heads next owners left

abbrev pub watched_room : ℕ → ℕ → ℕ → ℕ → ℕ → ℕ → ℕ → ℕ → Room
watched_room rows literals values trail heads next owners places = lent_room rows literals values trail heads next owners (places / 2)
