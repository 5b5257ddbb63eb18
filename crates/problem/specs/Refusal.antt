-- The place and the number of each fault of a problem and of an answer. A text's fault keeps its own.
use Rattle.text.specs.Refusal as text
use Rattle.text.specs.Refusal.{Refusal}
use Rattle.problem.specs.declared.fault.ProblemFault.{ProblemFault}
use Rattle.problem.specs.declared.fault.ProblemFault.TheVariants.{Text, Property, Value, Twice, TooMany}
use Rattle.problem.specs.declared.fault.AnswerFault.{AnswerFault}
use Rattle.problem.specs.declared.fault.AnswerFault.TheVariants.{Document, Unknown}

abbrev pub refusal : ProblemFault → Refusal
refusal (Text f) = text.refusal f
refusal (Property line) = record { place = line; number = 2 }
refusal (Value line) = record { place = line; number = 3 }
refusal (Twice line) = record { place = line; number = 4 }
refusal (TooMany line) = record { place = line; number = 31 }

-- in an answer, every fault of form has one number
abbrev pub formed : ProblemFault → Refusal
formed (Text f) = record { place = (text.refusal f).place; number = 11 }
formed (Property line) = record { place = line; number = 11 }
formed (Value line) = record { place = line; number = 11 }
formed (Twice line) = record { place = line; number = 12 }
formed (TooMany line) = record { place = line; number = 31 }

abbrev pub answer_refusal : AnswerFault → Refusal
answer_refusal (Document f) = formed f
answer_refusal (Unknown line) = record { place = line; number = 12 }
