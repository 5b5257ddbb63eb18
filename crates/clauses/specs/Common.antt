-- What the part that every base holds means.
-- trial_of: the trial at a phase, over these cells; room_of: the room that memory gives
-- meaning_of: its meaning; Steady: its memory is as long as before
use Rattle.std.specs.Prelude.{◌≡◌, ◌-◌, Bool, List, length, Option}
use Rattle.clauses.specs.Cells.{values_of}
use Rattle.clauses.specs.ClauseBase.{Meaning, Trial, idle, running, answered}
use Rattle.clauses.specs.Stored.{held}
use Rattle.clauses.specs.declared.common.Common.{Common}
use Rattle.clauses.specs.declared.phase.Phase.{Phase}
use Rattle.clauses.specs.declared.phase.Phase.TheVariants.{Idle, Open, Answered}
use Rattle.clauses.specs.declared.room.Room.{Room}

abbrev pub trial_of : Phase → List (Option Bool) → Trial
trial_of Idle xs = idle
trial_of Open xs = running (values_of xs)
trial_of Answered xs = answered

abbrev pub room_of : Common → Room
room_of c = record { variables = length c.values.cells.now - 1; clauses = length c.store.rows.now; literals = length c.store.literals.now }

abbrev pub meaning_of : Common → Meaning
meaning_of c = record { variables = c.store.variables; live = held c.store; next = c.store.next; room = room_of c; trial = trial_of c.phase c.values.cells.now }

pub record Steady (c d : Common) : Type 0 where
  pub rows : length d.store.rows.now ≡ length c.store.rows.now
  pub literals : length d.store.literals.now ≡ length c.store.literals.now
  pub cells : length d.values.cells.now ≡ length c.values.cells.now
  pub trail : length d.trail.literals.now ≡ length c.trail.literals.now
