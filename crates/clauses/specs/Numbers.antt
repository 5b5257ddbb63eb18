-- The number of each refusal of a clause base.
use Rattle.std.specs.Prelude.{ℕ}
use Rattle.clauses.specs.declared.fault.BaseFault.{BaseFault}
use Rattle.clauses.specs.declared.fault.BaseFault.TheVariants.{Malformed, NotLive, NoRoom, InTrial}

abbrev pub fault_number : BaseFault → ℕ
fault_number Malformed = 22
fault_number NotLive = 23
fault_number NoRoom = 32
fault_number InTrial = 33
