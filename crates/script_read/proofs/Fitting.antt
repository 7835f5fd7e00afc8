-- The PTERMs and tasks of the commands that are read are those of the generation.
use Rattle.std.proofs.Common.{◌≡◌, ℕ, Bool, List, [], ◌∷◌, Option, Result, Ok, Err, refl, ap}
use Rattle.std.specs.Prelude.{IfOk, IsTrue, is_some}
use Rattle.std.specs.List.{All}
use Rattle.std.specs.Global.{Vec}
use Rattle.std.specs.Str.Lines.{lines}
use Rattle.std.proofs.lemmas.List.Elements.{All-nil, All-cons, All-append, All-same}
use Rattle.kd_base.specs.FirstFaults.{items_of}
use Rattle.application_types.specs.declared.kdcdef_types.entry.PtermEntry.{PtermEntry}
use Rattle.application_types.specs.Generation.{Generated}
use Rattle.abstract_monitor.specs.declared.command.Command.{Command}
use Rattle.abstract_monitor.specs.declared.command.Command.TheVariants.{Input, Turn, Drop, Print, PrintLast}
use Rattle.script_read.specs.declared.fault.ScriptFault.{ScriptFault}
use Rattle.script_read.specs.Script.{Line, Says}
use Rattle.script_read.specs.Reading.{Gives, commands_of}
use Rattle.abstract_monitor.specs.CommandsOf.{is_pterm, IsCommandOf}
use Rattle.script_read.specs.Commands.{line_in}
use Rattle.script_read.specs.Spelling.{IsPterm, IsSpelled}
use Rattle.script_read.specs.Laws.{said, all_said}
use Rattle.script_read.proofs.Spelled.{commands_only}
use Rattle.script_read.proofs.FirstFaults.{says_all}

known : {printer : Bool} (g : Generated) (name : List ℕ) → IsPterm g printer name → IsTrue (is_pterm g name)
known g name is = ap (λ (o : Option PtermEntry). is_some o) is.is_pterm

pub of_spelled : (g : Generated) (c : Command) (line : List ℕ) → IsSpelled g c line → IsCommandOf g c
of_spelled g (Input name text) line s = known g name s.dialogue
of_spelled g (Turn n) line s = s.1.range
of_spelled g (Drop name) line s = known g name s.0
of_spelled g (Print name) line s = known g name s.0
of_spelled g (PrintLast name) line s = known g name s.0
of_spelled g _ line s = tt

of_line : (g : Generated) (line : List ℕ) (x : Line Command) → line_in g line ≡ x → All (IsCommandOf g) (said x)
of_line g line (Says c) e = All-cons (IsCommandOf g) c [] (of_spelled g c line (commands_only g c line e)) (All-nil (IsCommandOf g))
of_line g line _ e = All-nil (IsCommandOf g)

of_lines : (g : Generated) (all : List (List ℕ)) → All (IsCommandOf g) (all_said (line_in g) all)
of_lines g [] = All-nil (IsCommandOf g)
of_lines g (line ∷ rest) = All-append (IsCommandOf g) (said (line_in g line)) (all_said (line_in g) rest) (of_line g line (line_in g line) refl) (of_lines g rest)

pub names_fit : (g : Generated) (text : List ℕ) (r : Result (Vec Command) ScriptFault) → Gives (items_of r) (commands_of (line_in g) text) → IfOk r (λ commands. All (IsCommandOf g) commands.items)
names_fit g text (Ok commands) h =
    All-same (IsCommandOf g) commands.items (all_said (line_in g) (lines text)) (says_all (line_in g) 1 (lines text) commands.items h).said (of_lines g (lines text))
names_fit g text (Err fault) h = tt
