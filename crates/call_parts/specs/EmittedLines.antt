-- What is sent in a run is lines: each Emit has one line feed, at its end, so line feeds count the Emits.
use Rattle.std.specs.Prelude.{◌≡◌, ◌==◌, not, IsTrue, List, count_by, All}
use Rattle.std.specs.List.{list_all}
use Rattle.application_types.specs.Soundness.{AreNamed}
use Rattle.kdcs_types.specs.declared.act.Act.{Act}
use Rattle.kdcs_types.specs.declared.act.Act.TheVariants.{Commit, Emit}
use Rattle.kdcs_types.specs.Tables.{TableRows, IsSortedTables}
use Rattle.abstract_monitor.specs.Bytes.{Bytes}
use Rattle.abstract_monitor.specs.Lines.{line}
use Rattle.abstract_monitor.specs.Made.{is_emit}
use Rattle.abstract_monitor.specs.State.{Application}
use Rattle.abstract_monitor.specs.Trace.{trace, bytes_of}
use Rattle.abstract_monitor.specs.declared.command.Command.{Command}
use Rattle.laws_of_states.specs.Applications.{IsApplication}
use Rattle.laws_of_states.specs.Keeping.{IsScriptOf}
use Rattle.laws_of_states.specs.Suits.{Suits}
use Rattle.call_parts.specs.MadeReport.{lines_in}

-- no byte is a line feed
abbrev pub IsUnbroken : Bytes → Type 0
IsUnbroken text = IsTrue (list_all (λ b. not (b == 10)) text)

-- a text without a line feed, and one after it
abbrev pub IsOneLine : Bytes → Type 0
IsOneLine bytes = (text : Bytes) × (bytes ≡ line text) × IsUnbroken text

abbrev pub SendsOneLine : Act → Type 0
SendsOneLine (Commit changes) = Unit {0}
SendsOneLine (Emit bytes) = IsOneLine bytes

-- a script of an application whose names are names, and tables that it may start from
pub record CanStart (app : Application) (t : TableRows) (script : List Command) : Type 0 where
  pub application : IsApplication app
  pub names : AreNamed app.generation
  pub commands : IsScriptOf app script
  pub order : IsSortedTables t
  pub suits : Suits app.generation t

pub record EmitsAreLines : Type 0 where
  pub each : (app : Application) (t : TableRows) (script : List Command) → CanStart app t script → All SendsOneLine (trace app t script)
  pub count : (app : Application) (t : TableRows) (script : List Command) → CanStart app t script → lines_in (bytes_of (trace app t script)) ≡ count_by is_emit (trace app t script)
