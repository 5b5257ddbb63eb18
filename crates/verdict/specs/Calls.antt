-- What each call of a session answers and leaves, by cases over the answer.
-- Tells: whether the clauses held show a clause, by hints or by any chain; Follow: what hints say of a trial's values
-- Tries: one step tried on a base; Tried: the same, whatever memory holds it; LeavesAfter: what memory holds after so many steps asked
use Rattle.std.specs.Prelude.{◌≡◌, ℕ, zero, suc, Bool, true, false, not, T, List, drop, ℤ, Ok, Err, Option, Result, ◌≢◌}
use Rattle.text.specs.Literals.{Clause}
use Rattle.clauses.specs.Propagation.{Held, Chain}
use Rattle.clauses.specs.ClauseBase.{Meaning, Trial, idle, running, answered, well_formed}
use Rattle.clauses.specs.declared.fault.BaseFault.{BaseFault}
use Rattle.clauses.specs.declared.fault.BaseFault.TheVariants.{Malformed, NotLive, NoRoom, InTrial}
use Rattle.certificate.specs.Stream.{Step, add, Placed}
use Rattle.certificate.specs.Reading.{Memory, in_memory, Leaves}
use Rattle.verdict.specs.Session.{Shown, DeadHint, Dead, Fine, Refused, after, is_empty_addition}
use Rattle.verdict.specs.declared.reply.StepFault.{StepFault}

-- whether the clauses held show a clause, by these hints or by any chain: the base is as it was
abbrev pub Tells : Meaning → Clause → Option (List ℕ) → Result Bool BaseFault → Meaning → Type 0
Tells m c h (Ok true) m' = (m.trial ≡ idle) × T (well_formed m.variables c) × Shown m.live (add c h) × (m' ≡ m)
Tells m c h (Ok false) m' = (m.trial ≡ idle) × T (well_formed m.variables c) × (Dead m.live (add c h) → ⊥) × (Shown m.live (add c h) → ⊥) × (m' ≡ m)
Tells m c h (Err InTrial) m' = (m.trial ≢ idle) × (m' ≡ m)
Tells m c h (Err Malformed) m' = (m.trial ≡ idle) × T (not (well_formed m.variables c)) × (m' ≡ m)
Tells m c h (Err NotLive) m' = (m.trial ≡ idle) × T (well_formed m.variables c) × Dead m.live (add c h) × (m' ≡ m)
Tells m c h (Err NoRoom) m' = ⊥

-- what hints say of a trial's values, and that nothing but the trial changes
abbrev pub Follow : List Held → Trial → List ℕ → Result Bool BaseFault → Type 0
Follow live (running f) hs (Ok true) = Chain live f hs
Follow live (running f) hs (Ok false) = (DeadHint live f hs → ⊥) × (Chain live f hs → ⊥)
Follow live (running f) hs (Err NotLive) = DeadHint live f hs
Follow live (running f) hs (Err InTrial) = ⊥
Follow live (running f) hs (Err Malformed) = ⊥
Follow live (running f) hs (Err NoRoom) = ⊥
Follow live idle hs r = Unit {0}
Follow live answered hs r = Unit {0}

-- one step tried on a base: taken, and whether it was the empty clause; or refused
abbrev pub Tries : Memory → Meaning → Step → Result Bool StepFault → Meaning → Type 0
Tries k m s (Ok b) m' = (m.trial ≡ idle) × Fine k m s × (b ≡ is_empty_addition s) × (m' ≡ after m s)
Tries k m s (Err f) m' = Refused k m s f × (m' ≡ m)

abbrev pub Tried : Meaning → Step → Result Bool StepFault → Meaning → Type 0
Tried m s r m' = (k : Memory) → T (in_memory k s) → Tries k m s r m'

-- what memory holds after n steps asked
abbrev pub LeavesAfter : Memory → List Placed → ℕ → List ℤ → List ℕ → List ℤ → List ℕ → Type 0
LeavesAfter k ps zero ls hs ls' hs' = (ls' ≡ ls) × (hs' ≡ hs)
LeavesAfter k ps (suc n) ls hs ls' hs' = Leaves k (drop n ps) ls' hs'
