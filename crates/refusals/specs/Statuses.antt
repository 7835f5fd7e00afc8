-- Statuses of a call.
use Rattle.std.specs.Prelude.{ℕ, nat_eq, IsTrue, List}
use Rattle.std.specs.List.{list_any}
use Rattle.refusals.specs.declared.error.Refusal.{Refusal}
use Rattle.refusals.specs.declared.error.Refusal.TheVariants.{Application, Double, Script, Trail}
use Rattle.refusals.specs.declared.error.FileRefusal.{FileRefusal}
use Rattle.refusals.specs.declared.error.FileRefusal.TheVariants.{NotKdcfile, OtherGeneration, OtherBlksize, SmallerPool, TooManyGssbs, TooLarge, SequenceSpent, TwoCopies, Differs}

-- the status is one of these
abbrev pub IsOneOf : List ℕ → ℕ → Type 0
IsOneOf codes code = IsTrue (list_any (λ k. nat_eq code k) codes)

-- the status of texts that are refused
abbrev pub status_of : Refusal → ℕ
status_of (Application fault) = 2
status_of (Double line) = 2
status_of (Script fault) = 3
status_of (Trail fault) = 3

-- the status of a file that is refused, and that of a trail an entry of which does not hold
abbrev pub status_of_file : FileRefusal → ℕ
status_of_file NotKdcfile = 4
status_of_file (OtherGeneration stored) = 4
status_of_file (OtherBlksize n) = 4
status_of_file (SmallerPool n) = 4
status_of_file (TooManyGssbs n) = 4
status_of_file (TooLarge n) = 4
status_of_file SequenceSpent = 4
status_of_file TwoCopies = 4
status_of_file (Differs n) = 8
