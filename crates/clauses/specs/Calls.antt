-- What each call of a clause base answers and leaves, by cases over the answer.
-- A refused call leaves the base as it was; a trial in the way goes before all other faults.
use Rattle.std.specs.Prelude.{◌≡◌, ℕ, Bool, true, false, not, T, List, ℤ, Ok, Err, Result, ◌≢◌, nat_le}
use Rattle.text.specs.Literals.{Clause}
use Rattle.clauses.specs.Propagation.{Held, denied, HeldAt, set_true, all_false, Unit', Refuted}
use Rattle.clauses.specs.ClauseBase.{Meaning, Trial, idle, running, answered, fits, is_live, well_formed, cleared, with_added, with_deleted, with_trial}
use Rattle.clauses.specs.declared.fault.BaseFault.{BaseFault}
use Rattle.clauses.specs.declared.fault.BaseFault.TheVariants.{Malformed, NotLive, NoRoom, InTrial}
use Rattle.clauses.specs.declared.fault.Hinted.{Hinted}
use Rattle.clauses.specs.declared.fault.Hinted.TheVariants.{Conflict, Useless, Unit as OneLeft}

abbrev pub Clears : Meaning → ℕ → Result (Unit {0}) BaseFault → Meaning → Type 0
Clears m V (Ok u) m' = (m.trial ≡ idle) × T (nat_le V m.room.variables) × (m' ≡ cleared m V)
Clears m V (Err InTrial) m' = (m.trial ≢ idle) × (m' ≡ m)
Clears m V (Err NoRoom) m' = (m.trial ≡ idle) × T (not (nat_le V m.room.variables)) × (m' ≡ m)
Clears m V (Err Malformed) m' = ⊥
Clears m V (Err NotLive) m' = ⊥

abbrev pub Adds : Meaning → Clause → Result ℕ BaseFault → Meaning → Type 0
Adds m c (Ok n) m' = (m.trial ≡ idle) × T (well_formed m.variables c) × T (fits m c) × (n ≡ m.next) × (m' ≡ with_added m c)
Adds m c (Err InTrial) m' = (m.trial ≢ idle) × (m' ≡ m)
Adds m c (Err Malformed) m' = (m.trial ≡ idle) × T (not (well_formed m.variables c)) × (m' ≡ m)
Adds m c (Err NoRoom) m' = (m.trial ≡ idle) × T (well_formed m.variables c) × T (not (fits m c)) × (m' ≡ m)
Adds m c (Err NotLive) m' = ⊥

abbrev pub Deletes : Meaning → ℕ → Result (Unit {0}) BaseFault → Meaning → Type 0
Deletes m n (Ok u) m' = (m.trial ≡ idle) × T (is_live m.live n) × (m' ≡ with_deleted m n)
Deletes m n (Err InTrial) m' = (m.trial ≢ idle) × (m' ≡ m)
Deletes m n (Err NotLive) m' = (m.trial ≡ idle) × T (not (is_live m.live n)) × (m' ≡ m)
Deletes m n (Err Malformed) m' = ⊥
Deletes m n (Err NoRoom) m' = ⊥

-- a trial of a clause: its literals are false, all else unset
abbrev pub Starts : {M : Type 0} → Meaning → Clause → Result M BaseFault → Meaning → Type 0
Starts m c (Ok u) m' = (m.trial ≡ idle) × T (well_formed m.variables c) × (m' ≡ with_trial m (running (denied c)))
Starts m c (Err InTrial) m' = (m.trial ≢ idle) × (m' ≡ m)
Starts m c (Err Malformed) m' = (m.trial ≡ idle) × T (not (well_formed m.variables c)) × (m' ≡ m)
Starts m c (Err NotLive) m' = ⊥
Starts m c (Err NoRoom) m' = ⊥

abbrev pub NotRunning : Trial → Type 0
NotRunning idle = Unit {0}
NotRunning (running f) = ⊥
NotRunning answered = Unit {0}

-- what a live clause with this number says under the trial's values, and the trial after it
abbrev pub Says : Trial → List Held → ℕ → Hinted → Trial → Type 0
Says (running f) live n OneLeft t = (c : Clause) × (l : ℤ) × (HeldAt live n c × Unit' f c l × (t ≡ running (set_true f l)))
Says (running f) live n Conflict t = (c : Clause) × (HeldAt live n c × T (all_false f c) × (t ≡ answered))
Says (running f) live n Useless t = (c : Clause) × (HeldAt live n c × (T (all_false f c) → ⊥) × ((l : ℤ) → Unit' f c l → ⊥) × (t ≡ running f))
Says idle live n h t = ⊥
Says answered live n h t = ⊥

abbrev pub Hints : Meaning → ℕ → Result Hinted BaseFault → Meaning → Type 0
Hints m n (Ok h) m' = Says m.trial m.live n h m'.trial × (m' ≡ with_trial m m'.trial)
Hints m n (Err InTrial) m' = NotRunning m.trial × (m' ≡ m)
Hints m n (Err NotLive) m' = (NotRunning m.trial → ⊥) × T (not (is_live m.live n)) × (m' ≡ m)
Hints m n (Err Malformed) m' = ⊥
Hints m n (Err NoRoom) m' = ⊥

-- yes just if there is a chain from the values that the trial has
abbrev pub Chained : Trial → List Held → Bool → Type 0
Chained (running f) live true = Refuted live f
Chained (running f) live false = Refuted live f → ⊥
Chained idle live b = ⊥
Chained answered live b = ⊥

abbrev pub Runs : Meaning → Result Bool BaseFault → Meaning → Type 0
Runs m (Ok b) m' = Chained m.trial m.live b × (m' ≡ with_trial m answered)
Runs m (Err InTrial) m' = NotRunning m.trial × (m' ≡ m)
Runs m (Err Malformed) m' = ⊥
Runs m (Err NotLive) m' = ⊥
Runs m (Err NoRoom) m' = ⊥

-- the trial's end takes its mark back
abbrev pub Finishes : Meaning → Meaning → Type 0
Finishes m m' = m' ≡ with_trial m idle
