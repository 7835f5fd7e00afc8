-- Which commands a generation allows.
use Rattle.std.specs.Prelude.{Bool, IsTrue, is_some}
use Rattle.application_types.specs.Generation.{Generated, pterm_of}
use Rattle.application_types.specs.Statements.{IsWithin}
use Rattle.abstract_monitor.specs.declared.command.Command.{Command}
use Rattle.abstract_monitor.specs.declared.command.Command.TheVariants.{Input, Tick, Run, Turn, Drop, Print, PrintLast, Restart}
use Rattle.abstract_monitor.specs.Bytes.{Bytes}

-- the PTERM is one of the generation
abbrev pub is_pterm : Generated → Bytes → Bool
is_pterm g pterm = is_some (pterm_of g pterm)

-- the names and tasks of a command are those of the generation
abbrev pub IsCommandOf : Generated → Command → Type 0
IsCommandOf g (Input pterm text) = IsTrue (is_pterm g pterm)
IsCommandOf g (Tick ticks) = Unit {0}
IsCommandOf g (Run turns) = Unit {0}
IsCommandOf g (Turn task) = IsWithin 1 g.limits.tasks task
IsCommandOf g (Drop pterm) = IsTrue (is_pterm g pterm)
IsCommandOf g (Print pterm) = IsTrue (is_pterm g pterm)
IsCommandOf g (PrintLast pterm) = IsTrue (is_pterm g pterm)
IsCommandOf g Restart = Unit {0}
