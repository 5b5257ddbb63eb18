-- The file, the place and the number of each refusal; a fault from below keeps its place and number.
-- refused_run: of a session; refused: of a whole run from the files
use Rattle.problem.specs.Refusal.{refusal, answer_refusal}
use Rattle.verdict.specs.Numbers.{step_number, open_number}
use Rattle.verdict.specs.declared.fault.VerdictFault.{VerdictFault}
use Rattle.verdict.specs.declared.fault.VerdictFault.TheVariants.{TooLong, Problem, Answer, NoPlan, Session}
use Rattle.verdict.specs.declared.line.File.TheVariants.{Problem as InProblem, Answer as InAnswer, Certificate as InCertificate}
use Rattle.verdict.specs.declared.line.Refusal.{Refusal}
use Rattle.verdict.specs.declared.outcome.OpenFault.TheVariants.{NotPlan, NoRoom, InTrial}
use Rattle.verdict.specs.declared.outcome.RunFault.{RunFault}
use Rattle.verdict.specs.declared.outcome.RunFault.TheVariants.{Session as InSession, Step}
use Rattle.verdict.specs.declared.outcome.SessionFault.TheVariants.{Opening, Unclosed}

abbrev pub refused_run : RunFault → Refusal
refused_run (InSession (Opening (NotPlan n))) = record { file = InAnswer; place = n; number = 13 }
refused_run (InSession (Opening NoRoom)) = record { file = InCertificate; place = 0; number = open_number NoRoom }
refused_run (InSession (Opening InTrial)) = record { file = InCertificate; place = 0; number = open_number InTrial }
refused_run (InSession (Unclosed p)) = record { file = InCertificate; place = p; number = 25 }
refused_run (Step f p) = record { file = InCertificate; place = p; number = step_number f }

abbrev pub refused : VerdictFault → Refusal
refused (TooLong file) = record { file = file; place = 0; number = 34 }
refused (Problem f) = record { file = InProblem; place = (refusal f).place; number = (refusal f).number }
refused (Answer f) = record { file = InAnswer; place = (answer_refusal f).place; number = (answer_refusal f).number }
refused (NoPlan f) = record { file = InAnswer; place = f.clause; number = 13 }
refused (Session f) = refused_run f
