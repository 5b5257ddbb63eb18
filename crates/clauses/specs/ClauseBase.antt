-- What a clause base means.
-- Trial: none, open with a value for each variable, or answered
-- Meaning: variables, live clauses by rising numbers, the next number, room, trial
-- literal_count: how many literals the live clauses have; is_live, without: by a clause's number
-- well_formed: each literal a variable from 1 to V or its negative, no variable twice
-- fits: whether an addition stays within the room; highest: the last number that a clause can have
-- cleared, with_added, with_deleted, with_trial: the meaning after a call
-- value_in: the value that a variable has in an open trial
-- fresh: the meaning of a new base with this room
use Rattle.std.specs.Prelude.{ℕ, suc, ◌+◌, Bool, true, not, ◌&&◌, List, [], ◌∷◌, ◌++◌, length, None, Option, ◌==◌, nat_eq, nat_le}
use Rattle.text.specs.Lists.{keep, some}
use Rattle.text.specs.Literals.{Clause, variable_of}
use Rattle.clauses.specs.Propagation.{Held, Values}
use Rattle.clauses.specs.declared.room.Room.{Room}

pub data Trial : Type 0 where
  idle : Trial
  running : Values → Trial
  answered : Trial

pub record Meaning : Type 0 where
  pub variables : ℕ
  pub live : List Held
  pub next : ℕ
  pub room : Room
  pub trial : Trial

abbrev pub literal_count : List Held → ℕ
literal_count [] = 0
literal_count (h ∷ hs) = length h.literals + literal_count hs

abbrev pub is_live : List Held → ℕ → Bool
is_live hs n = some (λ h. nat_eq h.number n) hs

abbrev pub without : List Held → ℕ → List Held
without hs n = keep (λ h. not (h.number == n)) hs

abbrev pub well_formed : ℕ → Clause → Bool
well_formed V [] = true
well_formed V (l ∷ ls) = nat_le 1 (variable_of l) && nat_le (variable_of l) V && not (some (λ k. nat_eq (variable_of k) (variable_of l)) ls) && well_formed V ls

abbrev pub highest : ℕ
highest = 1000000

abbrev pub fits : Meaning → Clause → Bool
fits m c = nat_le m.variables m.room.variables && nat_le (suc (length m.live)) m.room.clauses && nat_le (literal_count m.live + length c) m.room.literals && nat_le m.next highest

abbrev pub cleared : Meaning → ℕ → Meaning
cleared m V = record { variables = V; live = []; next = 1; room = m.room; trial = idle }

abbrev pub with_added : Meaning → Clause → Meaning
with_added m c = record { variables = m.variables; live = m.live ++ record { number = m.next; literals = c } ∷ []; next = suc m.next; room = m.room; trial = m.trial }

abbrev pub with_deleted : Meaning → ℕ → Meaning
with_deleted m n = record { variables = m.variables; live = without m.live n; next = m.next; room = m.room; trial = m.trial }

abbrev pub with_trial : Meaning → Trial → Meaning
with_trial m t = record { variables = m.variables; live = m.live; next = m.next; room = m.room; trial = t }

abbrev pub value_in : Trial → ℕ → Option Bool
value_in idle v = None
value_in (running f) v = f v
value_in answered v = None

abbrev pub fresh : Room → Meaning
fresh r = record { variables = 0; live = []; next = 1; room = r; trial = idle }
