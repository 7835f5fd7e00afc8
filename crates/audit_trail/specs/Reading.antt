-- What the readers of a trail answer.
use Rattle.std.specs.Prelude.{ℕ, Bool, true, false, List, [], Option, Some, None, Result, Ok, Err}
use Rattle.kd_base.specs.FirstFaults.{GivesUnless}
use Rattle.audit_trail.specs.declared.fault.TrailFault.{TrailFault}
use Rattle.audit_trail.specs.declared.fault.TrailFault.TheVariants.{BadLine, Memory}
use Rattle.audit_trail.specs.Lines.{words}

-- the words of what is left of a line, if anything is
abbrev pub words_after : Option (List ℕ) → List (List ℕ)
words_after None = []
words_after (Some rest) = words rest

abbrev pub is_memory : TrailFault → Bool
is_memory Memory = true
is_memory _ = false

-- what was found at the line with this number, or its fault
abbrev pub at_line : {A : Type 0} → ℕ → Option A → Result A TrailFault
at_line number None = Err (BadLine number)
at_line number (Some found) = Ok found

-- what came back is what the text says, unless memory ran out
abbrev pub Gives : {A : Type 0} → Result A TrailFault → Result A TrailFault → Type 0
Gives answer says = GivesUnless is_memory answer says
