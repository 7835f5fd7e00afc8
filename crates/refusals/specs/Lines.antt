-- The lines of refusals.
use Rattle.std.specs.Prelude.{ℕ, List, [], ◌∷◌, ◌++◌, codes}
use Rattle.std.specs.Fmt.{decimal}
use Rattle.hex.specs.Hex.{encode_lower}
use Rattle.application_read.specs.declared.fault.ApplicationFault.{ApplicationFault}
use Rattle.application_read.specs.Faults.{text_of, line_of, name_of}
use Rattle.script_read.specs.declared.fault.ScriptFault.{ScriptFault}
use Rattle.script_read.specs.declared.fault.ScriptFault.TheVariants.{BadLine, OutOfRange, TooLong, Memory}
use Rattle.audit_trail.specs.declared.fault.TrailFault.{TrailFault}
use Rattle.audit_trail.specs.declared.fault.TrailFault.TheVariants as trail
use Rattle.refusals.specs.declared.error.FileRefusal.{FileRefusal}
use Rattle.refusals.specs.declared.error.FileRefusal.TheVariants.{NotKdcfile, OtherGeneration, OtherBlksize, SmallerPool, TooManyGssbs, TooLarge, SequenceSpent, TwoCopies, Differs}
use Rattle.refusals.specs.declared.error.Refusal.{Refusal}
use Rattle.refusals.specs.declared.error.Refusal.TheVariants.{Application, Double, Script, Trail}

-- status 2: the text, the line of the fault in it, and its name
abbrev pub application_line : ApplicationFault → List ℕ
application_line fault = text_of fault ++ (codes " " ++ (decimal (line_of fault) ++ codes " ")) ++ name_of fault ++ 10 ∷ []

-- status 2: the line of the statement that says DOUBLE
abbrev pub double_line : ℕ → List ℕ
double_line line = codes "DEF " ++ (decimal line ++ codes " NotInProfile\n")

-- status 3: the line of the fault, and its name; want of memory is no fault of a script
abbrev pub fault_line : ScriptFault → List ℕ
fault_line (BadLine line) = codes "SCRIPT " ++ (decimal line ++ codes " BadLine\n")
fault_line (OutOfRange line) = codes "SCRIPT " ++ (decimal line ++ codes " OutOfRange\n")
fault_line TooLong = codes "SCRIPT 0 TooLong\n"
fault_line Memory = []

-- status 3: the line of the fault in the trail, and its name; want of memory is no fault of a trail
abbrev pub trail_line : TrailFault → List ℕ
trail_line (trail.BadLine line) = codes "TRAIL " ++ (decimal line ++ codes " BadLine\n")
trail_line trail.TooLong = codes "TRAIL 0 TooLong\n"
trail_line (trail.OtherGeneration line) = codes "TRAIL " ++ (decimal line ++ codes " OtherGeneration\n")
trail_line (trail.NotSuited line) = codes "TRAIL " ++ (decimal line ++ codes " NotSuited\n")
trail_line trail.Memory = []

-- the line that says why texts are refused
abbrev pub refusal_line : Refusal → List ℕ
refusal_line (Application fault) = application_line fault
refusal_line (Double line) = double_line line
refusal_line (Script fault) = fault_line fault
refusal_line (Trail fault) = trail_line fault

-- the file was made with other texts, which have this fingerprint; each of its bytes as two digits
abbrev pub other_generation_line : List ℕ → List ℕ
other_generation_line stored = codes "KDCFILE OTHER GENERATION " ++ encode_lower stored ++ 10 ∷ []

-- status 4: why the file is refused; status 8: which entry of the trail is the first that does not hold
abbrev pub file_line : FileRefusal → List ℕ
file_line NotKdcfile = codes "KDCFILE NOT A KDCFILE\n"
file_line (OtherGeneration stored) = other_generation_line stored
file_line (OtherBlksize n) = codes "KDCFILE OTHER BLKSIZE " ++ (decimal n ++ codes "\n")
file_line (SmallerPool n) = codes "KDCFILE SMALLER POOL " ++ (decimal n ++ codes "\n")
file_line (TooManyGssbs n) = codes "KDCFILE TOO MANY GSSBS " ++ (decimal n ++ codes "\n")
file_line (TooLarge n) = codes "KDCFILE TABLES TOO LARGE " ++ (decimal n ++ codes "\n")
file_line SequenceSpent = codes "KDCFILE SEQUENCE SPENT\n"
file_line TwoCopies = codes "KDCFILE IS DOUBLE\n"
file_line (Differs n) = codes "AUDIT " ++ (decimal n ++ codes "\n")
