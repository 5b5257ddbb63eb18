-- The number of each refusal of a session.
-- step_number, open_number, session_number: of a step, of an opening, of a whole session
-- of_base: the refusal of a step that a refusal of the base is
use Rattle.std.specs.Prelude.{ℕ}
use Rattle.clauses.specs.declared.fault.BaseFault.{BaseFault}
use Rattle.clauses.specs.declared.fault.BaseFault.TheVariants.{Malformed, NotLive, NoRoom, InTrial}
use Rattle.verdict.specs.declared.reply.StepFault.{StepFault}
use Rattle.verdict.specs.declared.reply.StepFault.TheVariants.{Form, NotShown, TooMany, Malformed as malformed, NotLive as is_not_live, NoRoom as no_room, InTrial as in_trial}
use Rattle.verdict.specs.declared.outcome.OpenFault.{OpenFault}
use Rattle.verdict.specs.declared.outcome.OpenFault.TheVariants.{NotPlan, NoRoom as open_no_room, InTrial as open_in_trial}
use Rattle.verdict.specs.declared.outcome.SessionFault.{SessionFault}
use Rattle.verdict.specs.declared.outcome.SessionFault.TheVariants.{Opening, Unclosed}

abbrev pub step_number : StepFault → ℕ
step_number Form = 21
step_number malformed = 22
step_number is_not_live = 23
step_number NotShown = 24
step_number TooMany = 31
step_number no_room = 32
step_number in_trial = 33

abbrev pub of_base : BaseFault → StepFault
of_base Malformed = malformed
of_base NotLive = is_not_live
of_base NoRoom = no_room
of_base InTrial = in_trial

abbrev pub open_number : OpenFault → ℕ
open_number (NotPlan n) = 13
open_number open_no_room = 32
open_number open_in_trial = 33

abbrev pub session_number : SessionFault → ℕ
session_number (Opening f) = open_number f
session_number (Unclosed p) = 25
