-- What holds of the trail that a run of a script makes.
use Rattle.std.specs.Prelude.{◌≡◌, ◌≤◌, ⊤, ℕ, List, length, All}
use Rattle.kdcs_types.specs.Tables.{TableRows, IsSortedTables}
use Rattle.application_types.specs.Soundness.{AreLimits, AreNamed}
use Rattle.abstract_monitor.specs.declared.command.Command.{Command}
use Rattle.abstract_monitor.specs.Commands.{started}
use Rattle.abstract_monitor.specs.State.{Application}
use Rattle.abstract_monitor.specs.Trace.{history}
use Rattle.laws_of_states.specs.Applications.{IsApplication}
use Rattle.laws_of_states.specs.Keeping.{IsScriptOf}
use Rattle.laws_of_states.specs.Suits.{Suits}
use Rattle.record_codec.specs.Fields.{AreBytes}
use Rattle.record_codec.specs.Records.{content_of_tables}
use Rattle.record_codec.specs.TableReadings.{AreProperTables, AreRecordBytes}
use Rattle.audit_trail.specs.declared.entry.By.{By}
use Rattle.audit_trail.specs.declared.entry.By.TheVariants.{Tick, Shown, Transaction}
use Rattle.audit_trail.specs.declared.entry.TrailEntry.{TrailEntry}
use Rattle.audit_trail.specs.RoundTrip.{AreWritable}
use Rattle.audit_trail.specs.Written.{AreEntryBytes, HasShortEntry}
use Rattle.serial_audit.specs.Audit.{most_statements}
use Rattle.trail_run.specs.Entries.{entries_in}
use Rattle.trail_run.specs.InTurn.{AllHold}

-- an application within its ranges whose names are names, a script of it, and tables that a KDCFILE of it may keep
pub record CanBeTrailed (app : Application) (t : TableRows) (script : List Command) : Type 0 where
  pub application : IsApplication app
  pub limits : AreLimits app.generation.limits
  pub names : AreNamed app.generation
  pub commands : IsScriptOf app script
  pub order : IsSortedTables t
  pub proper : AreProperTables t
  pub suits : Suits app.generation t

-- the entries of the run of a script from these tables
abbrev pub entries_of : Application → TableRows → List Command → List TrailEntry
entries_of app t script = entries_in (history app (started app t) script)

-- an auditor who replays one entry after another finds that all hold
abbrev pub OwnEntriesHold : Type 0
OwnEntriesHold = (app : Application) (t : TableRows) (script : List Command) → CanBeTrailed app t script → AllHold app t (entries_of app t script)

-- each entry can be written
abbrev pub OwnEntriesAreShort : Type 0
OwnEntriesAreShort = (app : Application) (t : TableRows) (script : List Command) → CanBeTrailed app t script → All HasShortEntry (entries_of app t script)

-- a transaction of no more statements than a trail's line may say
abbrev pub IsShortRun : By → Type 0
IsShortRun (Tick ticks) = ⊤
IsShortRun (Shown lterm) = ⊤
IsShortRun (Transaction kept) = kept.statements ≤ most_statements

abbrev pub HasShortRun : TrailEntry → Type 0
HasShortRun e = IsShortRun e.by

-- a trail that was written is one that is read again
abbrev pub OwnTrailsAreWritable : Type 0
OwnTrailsAreWritable =
    (app : Application) (fingerprint : List ℕ) (t : TableRows) (script : List Command) → CanBeTrailed app t script
    → length fingerprint ≡ 32 → AreBytes fingerprint → All AreRecordBytes (content_of_tables t).items
    → All AreEntryBytes (entries_of app t script) → All HasShortRun (entries_of app t script)
    → AreWritable fingerprint t (entries_of app t script)
