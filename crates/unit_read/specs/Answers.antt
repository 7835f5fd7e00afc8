-- What came back, seen as what reading gives.
use Rattle.std.specs.Prelude.{Bool, true, false, Result, Ok, Err}
use Rattle.kd_base.specs.FirstFaults.{GivesUnless}
use Rattle.unit_read.specs.declared.fault.UnitFault.{UnitFault}
use Rattle.unit_read.specs.declared.fault.UnitFault.TheVariants.{Memory}

abbrev pub is_memory : UnitFault → Bool
is_memory Memory = true
is_memory _ = false

abbrev pub Gives : {X : Type 0} → Result X UnitFault → Result X UnitFault → Type 0
Gives answer read = GivesUnless is_memory answer read

-- a change that came back, as the value after it
abbrev pub after : {X R : Type 0} → Result R UnitFault → X → Result X UnitFault
after (Ok r) x = Ok x
after (Err e) x = Err e
