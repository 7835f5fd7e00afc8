-- The fault of a statement for a cause; the line and the name of a fault.
use Rattle.std.specs.Prelude.{ℕ, Bool, true, false, List, codes}
use Rattle.kdcdef_read.specs.declared.fault.Cause.{Cause}
use Rattle.kdcdef_read.specs.declared.fault.Cause.TheVariants as causes
use Rattle.kdcdef_read.specs.declared.fault.ReadFault.{ReadFault}
use Rattle.kdcdef_read.specs.declared.fault.ReadFault.TheVariants as faults

-- the fault with this cause in the statement at this line
abbrev pub at_line : ℕ → Cause → ReadFault
at_line line causes.OperandTwice = faults.OperandTwice line
at_line line causes.OperandMissing = faults.OperandMissing line
at_line line causes.BadName = faults.BadName line
at_line line causes.BadNumber = faults.BadNumber line
at_line line causes.OutOfRange = faults.OutOfRange line
at_line line causes.BadChoice = faults.BadChoice line
at_line line causes.NotInProfile = faults.NotInProfile line

abbrev pub is_memory : ReadFault → Bool
is_memory faults.Memory = true
is_memory fault = false

-- the line of a fault
abbrev pub line_of : ReadFault → ℕ
line_of (faults.UnknownStatement line) = line
line_of (faults.OperandTwice line) = line
line_of (faults.OperandMissing line) = line
line_of (faults.BadName line) = line
line_of (faults.BadNumber line) = line
line_of (faults.OutOfRange line) = line
line_of (faults.BadChoice line) = line
line_of (faults.NotInProfile line) = line
line_of (faults.AfterEnd line) = line
line_of (faults.NoEnd line) = line
line_of faults.Memory = 0

-- the name by which it is printed
abbrev pub name_of : ReadFault → List ℕ
name_of (faults.UnknownStatement line) = codes "UnknownStatement"
name_of (faults.OperandTwice line) = codes "OperandTwice"
name_of (faults.OperandMissing line) = codes "OperandMissing"
name_of (faults.BadName line) = codes "BadName"
name_of (faults.BadNumber line) = codes "BadNumber"
name_of (faults.OutOfRange line) = codes "OutOfRange"
name_of (faults.BadChoice line) = codes "BadChoice"
name_of (faults.NotInProfile line) = codes "NotInProfile"
name_of (faults.AfterEnd line) = codes "AfterEnd"
name_of (faults.NoEnd line) = codes "NoEnd"
name_of faults.Memory = codes "Memory"
