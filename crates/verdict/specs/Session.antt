-- A session by its meaning: what each call of it answers and leaves.
-- Desk: an open session with its base and its source
-- formed, Dead, Shown, has_room: a step that is well-formed, names a clause that is not live, is borne out, fits the room
-- DeadHint: the first bad hint is a number that is not live
-- after: the base after an accepted step; is_empty_addition: whether a step adds the empty clause
-- Refused, Fine: why a step is refused, and when it is not
-- Asked: one step asked of a session; Run: any number of them, one after the other
-- Answer: no plan is claimed to exist, or a set; IsPlanOrFail: what it takes for a session to open on it
-- opening_variables, opening_clauses: what a session opens on; opens: the base after it; opening_fits: whether it fits
-- desk_on: a session just opened
use Rattle.std.specs.Prelude.{◌≡◌, ℕ, Bool, true, false, not, ◌&&◌, ◌||◌, T, ◌⊎◌, List, [], ◌∷◌, length, ℤ, Some, None, ◌≢◌, nat_le}
use Rattle.problem.specs.Cudf.{Problem, Chosen, PlanOverSets, removed_count, changed_count}
use Rattle.text.specs.Literals.{Clause}
use Rattle.problem.specs.PlanClauses.{plan_clauses}
use Rattle.verdict.specs.Opening.{opening, variables}
use Rattle.clauses.specs.Propagation.{Held, Values, Chain, Follows, denied, HeldAt, set_true, Unit'}
use Rattle.clauses.specs.ClauseBase.{Meaning, idle, fits, is_live, well_formed, cleared, with_added, with_deleted}
use Rattle.verdict.specs.declared.reply.StepFault.{StepFault}
use Rattle.verdict.specs.declared.reply.StepFault.TheVariants.{Form, Malformed, NotLive, NotShown, TooMany, NoRoom, InTrial}
use Rattle.verdict.specs.declared.reply.Reply.{Reply}
use Rattle.verdict.specs.declared.reply.Reply.TheVariants.{Taken, Nothing, Refused as Turned}
use Rattle.certificate.specs.Reading.{Memory, in_memory}
use Rattle.certificate.specs.Stream.{Step, add, delete, Placed, Ending, finished, broken, Stream}

-- an open session with its base and its source
pub record Desk : Type 0 where
  pub base : Meaning
  pub source : Stream
  pub emptied : Bool
  pub accepted : ℕ

abbrev pub formed : Meaning → Step → Bool
formed m (add c h) = well_formed m.variables c
formed m (delete n) = true

-- every hint before the first bad one is a unit; the first bad one is a number that is not live
abbrev pub DeadHint : List Held → Values → List ℕ → Type 0
DeadHint live f [] = ⊥
DeadHint live f (n ∷ ns) = T (not (is_live live n)) ⊎ ((c : Clause) × (l : ℤ) × (HeldAt live n c × Unit' f c l × DeadHint live (set_true f l) ns))

-- a step that names a clause which is not live
abbrev pub Dead : List Held → Step → Type 0
Dead live (add c None) = ⊥
Dead live (add c (Some hints)) = DeadHint live (denied c) hints
Dead live (delete n) = T (not (is_live live n))

-- A step that the live clauses bear out. The hints, where there are any, are a chain: all of them, its conflict at the last alone.
abbrev pub Shown : List Held → Step → Type 0
Shown live (add c None) = Follows live c
Shown live (add c (Some hints)) = Chain live (denied c) hints
Shown live (delete n) = T (is_live live n)

abbrev pub has_room : Meaning → Step → Bool
has_room m (add c h) = fits m c
has_room m (delete n) = true

abbrev pub after : Meaning → Step → Meaning
after m (add c h) = with_added m c
after m (delete n) = with_deleted m n

-- The refusal of a step: the first of these that applies, in this order. A step to which none applies is accepted.
abbrev pub Refused : Memory → Meaning → Step → StepFault → Type 0
Refused k m s TooMany = T (not (in_memory k s))
Refused k m s InTrial = T (in_memory k s) × (m.trial ≢ idle)
Refused k m s Malformed = T (in_memory k s) × (m.trial ≡ idle) × T (not (formed m s))
Refused k m s NotLive = T (in_memory k s) × (m.trial ≡ idle) × T (formed m s) × Dead m.live s
Refused k m s NotShown = T (in_memory k s) × (m.trial ≡ idle) × T (formed m s) × (Dead m.live s → ⊥) × (Shown m.live s → ⊥)
Refused k m s NoRoom = T (in_memory k s) × (m.trial ≡ idle) × T (formed m s) × Shown m.live s × T (not (has_room m s))
Refused k m s Form = ⊥

-- a step that is well-formed, borne out, and fits
abbrev pub Fine : Memory → Meaning → Step → Type 0
Fine k m s = T (in_memory k s) × T (formed m s) × Shown m.live s × T (has_room m s)

abbrev pub is_empty_addition : Step → Bool
is_empty_addition (add [] h) = true
is_empty_addition (add (l ∷ ls) h) = false
is_empty_addition (delete n) = false

abbrev pub passed : Desk → List Placed → Desk
passed d ps = record { base = d.base; source = record { steps = ps; ending = d.source.ending }; emptied = d.emptied; accepted = d.accepted }

abbrev pub advanced : Desk → Placed → List Placed → Desk
advanced d p ps = record { base = after d.base p.step; source = record { steps = ps; ending = d.source.ending }; emptied = d.emptied || is_empty_addition p.step; accepted = p.place }

-- the first step asked of a session
abbrev pub Judged : Memory → Desk → Placed → List Placed → Reply → Desk → Type 0
Judged k d p ps Taken d' = (d.base.trial ≡ idle) × Fine k d.base p.step × (d' ≡ advanced d p ps)
Judged k d p ps (Turned f at) d' = Refused k d.base p.step f × (at ≡ p.place) × (d' ≡ passed d ps)
Judged k d p ps Nothing d' = ⊥

-- one step asked of a session, by what its source still has: what it replies, and what it leaves
abbrev pub AskedOf : Memory → Desk → List Placed → Ending → Reply → Desk → Type 0
AskedOf k d (p ∷ ps) e r d' = Judged k d p ps r d'
AskedOf k d [] (broken p) r d' = (r ≡ Turned Form p) × (d' ≡ d)
AskedOf k d [] finished r d' = (r ≡ Nothing) × (d' ≡ d)

abbrev pub Asked : Memory → Desk → Reply → Desk → Type 0
Asked k d r d' = AskedOf k d d.source.steps d.source.ending r d'

-- any number of steps asked one after the other
abbrev pub Run : Memory → Desk → List Reply → Desk → Type 0
Run k d [] d' = d' ≡ d
Run k d (r ∷ rs) d' = (next : Desk) × (Asked k d r next × Run k next rs d')

-- an answer: no plan is claimed to exist, or this set is handed over
pub data Answer : Type 0 where
  fail : Answer
  set : Chosen → Answer

abbrev pub opening_variables : Problem → Answer → ℕ
opening_variables q fail = length q.packages
opening_variables q (set s) = variables q (removed_count q s) (changed_count q s)

abbrev pub opening_clauses : Problem → Answer → List Clause
opening_clauses q fail = plan_clauses q
opening_clauses q (set s) = opening q (removed_count q s) (changed_count q s)

-- the base after an opening
abbrev pub added_all : Meaning → List Clause → Meaning
added_all m [] = m
added_all m (c ∷ cs) = added_all (with_added m c) cs

abbrev pub fit_all : Meaning → List Clause → Bool
fit_all m [] = true
fit_all m (c ∷ cs) = fits m c && fit_all (with_added m c) cs

abbrev pub opens : Meaning → Problem → Answer → Meaning
opens m q a = added_all (cleared m (opening_variables q a)) (opening_clauses q a)

abbrev pub opening_fits : Meaning → Problem → Answer → Bool
opening_fits m q a = nat_le (opening_variables q a) m.room.variables && fit_all (cleared m (opening_variables q a)) (opening_clauses q a)

abbrev pub IsPlanOrFail : Problem → Answer → Type 0
IsPlanOrFail q fail = Unit {0}
IsPlanOrFail q (set s) = PlanOverSets q s

abbrev pub desk_on : Meaning → Stream → Desk
desk_on m s = record { base = m; source = s; emptied = false; accepted = 0 }
