-- What a call starts from.
use Rattle.std.specs.Prelude.{◌≡◌, ◌⊎◌, ◌++◌, ℕ, Bool, true, false, List, [], codes, take, IsSomeAnd, Option, Some, None, Ok}
use Rattle.kd_device.specs.Room.{text_of}
use Rattle.kdcs_types.specs.Tables.{TableRows}
use Rattle.laws_of_states.specs.Suits.{Suits}
use Rattle.laws_of_states.specs.Keeping.{IsScriptOf}
use Rattle.laws_of_runs.specs.Applied.{applied}
use Rattle.abstract_monitor.specs.Commands.{started}
use Rattle.abstract_monitor.specs.State.{Application, State}
use Rattle.abstract_monitor.specs.declared.command.Command.{Command}
use Rattle.application_types.specs.Fitted.{IsFit}
use Rattle.application_types.specs.Generation.{Generated}
use Rattle.application_read.specs.declared.application.Application.{Application as Made}
use Rattle.application_read.specs.Texts.{TextsGenerate}
use Rattle.script_read.specs.Commands.{script_in}
use Rattle.device_acts.specs.Fingerprints.{fingerprint as print_of}
use Rattle.device_acts.specs.Opening.{StartsFrom}
use Rattle.kdcfile_double.specs.Opening.{StartsFromTwo}
use Rattle.lab_turns.specs.Sources.{source_of}
use Rattle.refusals.specs.Texts.{shown_of}
use Rattle.lab_cli.specs.declared.reading.Place.{Place}

-- the units were fitted to the generation, the tables suit it, and the script says these commands, which name what it has
pub record CanStart (p : Place) : Type 0 where
  pub fit : IsFit p.application.generation p.application.units
  pub suits : Suits p.application.generation p.tables
  pub names : IsScriptOf (applied p.application.generation p.application.units) p.commands.items
  pub says : script_in p.application.generation p.script.items ≡ Ok p.commands.items

-- the application as the monitor's definitions have it, and the state from which a call goes on
abbrev pub app_of : Place → Application
app_of p = applied p.application.generation p.application.units

abbrev pub start_of : Place → State
start_of p = started (app_of p) p.tables

-- ---- the texts, by name

-- a text or a file of this name is not there
abbrev pub IsMissing : List (List ℕ × List ℕ) → (name : List ℕ) → Type 0
IsMissing texts name = text_of name texts ≡ None

-- this was read of the text with this name: all of it, or one byte more than a text may have
abbrev pub IsRead : List (List ℕ × List ℕ) → (name text : List ℕ) → Type 0
IsRead texts name text = IsSomeAnd (text_of name texts) (λ whole. text ≡ shown_of whole)

-- and of the KDCFILE with this name: all of it, unless it is longer than any is
abbrev pub IsFileRead : List (List ℕ × List ℕ) → (name bytes : List ℕ) → Type 0
IsFileRead texts name bytes = IsSomeAnd (text_of name texts) (λ whole. bytes ≡ take 2147483649 whole)

abbrev pub IsScriptRead : (with_script : Bool) → (base : List ℕ) → List (List ℕ × List ℕ) → (script : List ℕ) → Type 0
IsScriptRead true base texts script = IsRead texts (base ++ codes ".script") script
IsScriptRead false base texts script = script ≡ []

-- these are the texts of a BASE, as they were read; of a call that reads no script it is empty
pub record AreRead (with_script : Bool) (base : List ℕ) (texts : List (List ℕ × List ℕ)) (definition units script : List ℕ) : Type 0 where
  pub definition_is : IsRead texts (base ++ codes ".def") definition
  pub units_are : IsRead texts (base ++ codes ".units") units
  pub script_is : IsScriptRead with_script base texts script

-- one of them is not there
abbrev pub MissesScript : (with_script : Bool) → (base : List ℕ) → List (List ℕ × List ℕ) → Type 0
MissesScript true base texts = IsMissing texts (base ++ codes ".script")
MissesScript false base texts = ⊥

abbrev pub MissesText : (with_script : Bool) → (base : List ℕ) → List (List ℕ × List ℕ) → Type 0
MissesText with_script base texts = IsMissing texts (base ++ codes ".def") ⊎ IsMissing texts (base ++ codes ".units") ⊎ MissesScript with_script base texts

-- the texts make this application with this fingerprint, the lines of its units, and these commands
pub record IsAskedBy (definition units script : List ℕ) (a : Made) (fingerprint : List ℕ) (source : List (List ℕ)) (own : List ℕ) (commands : List Command) : Type 0 where
  pub generates : TextsGenerate definition units a
  pub fingerprint_is : fingerprint ≡ print_of definition units
  pub source_is : source ≡ source_of units
  pub script_is : own ≡ script
  pub says : script_in a.generation script ≡ Ok commands

-- ---- the files

-- what holds of the one file of a BASE, or of its two where the definition asks for them
abbrev pub OverFiles : (double : Option ℕ) → (base : List ℕ) → List (List ℕ × List ℕ) → (List ℕ → Type 0) → (List ℕ → List ℕ → Type 0) → Type 0
OverFiles None base texts P Q = (bytes : List ℕ) × IsFileRead texts (base ++ codes ".KDCA") bytes × P bytes
OverFiles (Some line) base texts P Q = (a b : List ℕ) × IsFileRead texts (base ++ codes ".KDCA") a × IsFileRead texts (base ++ codes ".KDCB") b × Q a b

-- a file that is read is not there
abbrev pub MissesFile : (double : Option ℕ) → (base : List ℕ) → List (List ℕ × List ℕ) → Type 0
MissesFile None base texts = IsMissing texts (base ++ codes ".KDCA")
MissesFile (Some line) base texts = IsMissing texts (base ++ codes ".KDCA") ⊎ IsMissing texts (base ++ codes ".KDCB")

-- an application starts from these tables with the files of a BASE, as `utm` does
abbrev pub StartsOver : (double : Option ℕ) → Generated → (fingerprint base : List ℕ) → List (List ℕ × List ℕ) → TableRows → Type 0
StartsOver double g fingerprint base texts t = OverFiles double base texts (λ bytes. StartsFrom g fingerprint bytes t) (λ a b. StartsFromTwo g fingerprint a b t)

-- ---- the place

-- the application that the definition and the units of a BASE generate, the lines of its units, its script with the commands that this says, and the tables from which the application starts with its files
pub record IsPlaceOf (with_script : Bool) (base : List ℕ) (texts : List (List ℕ × List ℕ)) (p : Place) : Type 0 where
  pub definition : List ℕ
  pub units : List ℕ
  pub read : AreRead with_script base texts definition units p.script.items
  pub generates : TextsGenerate definition units p.application
  pub source_is : p.units ≡ source_of units
  pub says : script_in p.application.generation p.script.items ≡ Ok p.commands.items
  pub starts : StartsOver p.application.generation.double p.application.generation (print_of definition units) base texts p.tables
