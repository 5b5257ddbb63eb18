-- refusal: the place and the number of each refusal of a source.
use Rattle.text.specs.Refusal.{Refusal}
use Rattle.certificate.specs.declared.fault.SourceFault.{SourceFault}
use Rattle.certificate.specs.declared.fault.SourceFault.TheVariants.{Form, TooMany}

abbrev pub refusal : SourceFault → Refusal
refusal (Form p) = record { place = p; number = 21 }
refusal (TooMany p) = record { place = p; number = 31 }
