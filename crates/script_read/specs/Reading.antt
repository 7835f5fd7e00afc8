-- Reading a script, line by line.
use Rattle.std.specs.Prelude.{ℕ, Bool, true, false, List, ◌++◌, Option, Some, None, Result, Ok, Err}
use Rattle.std.specs.Str.Lines.{lines}
use Rattle.kd_base.specs.FirstFaults.{GivesUnless}
use Rattle.script_read.specs.declared.fault.ScriptFault.{ScriptFault}
use Rattle.script_read.specs.declared.fault.ScriptFault.TheVariants.{BadLine, OutOfRange, Memory}
use Rattle.script_read.specs.Script.{Line, Nothing, Says, IsBad, IsOutOfRange, script_from}

abbrev pub is_memory : ScriptFault → Bool
is_memory Memory = true
is_memory _ = false

-- the command of a line with this number, if it has one, or its fault
abbrev pub line_result : {C : Type 0} → ℕ → Line C → Result (Option C) ScriptFault
line_result number Nothing = Ok None
line_result number (Says command) = Ok (Some command)
line_result number IsBad = Err (BadLine number)
line_result number IsOutOfRange = Err (OutOfRange number)

-- what was found in a line that is not passed over
abbrev pub found_of : {C : Type 0} → Result C ScriptFault → Result (Option C) ScriptFault
found_of (Ok command) = Ok (Some command)
found_of (Err fault) = Err fault

-- what came back is what the text says, unless memory ran out
abbrev pub Gives : {A : Type 0} → Result A ScriptFault → Result A ScriptFault → Type 0
Gives answer says = GivesUnless is_memory answer says

-- the commands of a text of any length
abbrev pub commands_of : {C : Type 0} → (List ℕ → Line C) → List ℕ → Result (List C) ScriptFault
commands_of reads text = script_from reads 1 (lines text)

-- commands before those that follow
abbrev pub onto : {C : Type 0} → List C → Result (List C) ScriptFault → Result (List C) ScriptFault
onto front (Ok commands) = Ok (front ++ commands)
onto front (Err fault) = Err fault
