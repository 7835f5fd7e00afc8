-- The commands of a typed line that is one of a script, and the line of its refusal.
use Rattle.std.specs.Prelude.{ℕ, Bool, true, false, ◌&&◌, List, [], ◌∷◌, ◌++◌, codes, Result, Ok, Err}
use Rattle.std.specs.List.{list_any}
use Rattle.std.specs.Fmt.{decimal}
use Rattle.application_types.specs.Generation.{Generated}
use Rattle.abstract_monitor.specs.declared.command.Command.{Command}
use Rattle.abstract_monitor.specs.declared.command.Command.TheVariants.{Input, Tick, Run, Turn, Drop, Print, PrintLast, Restart}
use Rattle.script_read.specs.Commands.{script_in}
use Rattle.script_read.specs.declared.fault.ScriptFault.{ScriptFault}
use Rattle.script_read.specs.declared.fault.ScriptFault.TheVariants.{BadLine, OutOfRange, TooLong, Memory}

abbrev pub is_input : Command → Bool
is_input (Input pterm text) = true
is_input (Tick ticks) = false
is_input (Run turns) = false
is_input (Turn task) = false
is_input (Drop pterm) = false
is_input (Print pterm) = false
is_input (PrintLast pterm) = false
is_input Restart = false

abbrev pub run_behind : (works : Bool) → List Command
run_behind true = Run 1000000 ∷ []
run_behind false = []

-- after an input the tasks work, unless they are not to
abbrev pub with_turns : (auto : Bool) → List Command → List Command
with_turns auto commands = commands ++ run_behind (auto && list_any is_input commands)

abbrev pub turns_added : (auto : Bool) → Result (List Command) ScriptFault → Result (List Command) ScriptFault
turns_added auto (Ok commands) = Ok (with_turns auto commands)
turns_added auto (Err fault) = Err fault

-- the commands of a line, or its fault: those that a script of this line alone says, and the turns behind them
abbrev pub commands_in : Generated → (auto : Bool) → List ℕ → Result (List Command) ScriptFault
commands_in g auto line = turns_added auto (script_in g line)

-- the line of a refusal, with the number of the typed line; want of memory is no fault of a line
abbrev pub refused_line : (number : ℕ) → ScriptFault → List ℕ
refused_line number (BadLine line) = codes "SCRIPT " ++ (decimal number ++ codes " BadLine\n")
refused_line number (OutOfRange line) = codes "SCRIPT " ++ (decimal number ++ codes " OutOfRange\n")
refused_line number TooLong = codes "SCRIPT " ++ (decimal number ++ codes " TooLong\n")
refused_line number Memory = []
