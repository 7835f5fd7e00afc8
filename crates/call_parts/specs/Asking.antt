-- What the texts of a call ask for.
use Rattle.std.specs.Prelude.{◌≡◌, ◌≢◌, ◌⊎◌, ◌≤◌, ◌<◌, ⊤, ℕ, Bool, true, false, IsTrue, List, [], length, All, Option, Some, None, IsSome, Result, Ok, Err}
use Rattle.kd_base.specs.Limits.{longest_text}
use Rattle.kd_device.specs.Room.{RoomState, text_of}
use Rattle.application_types.specs.Fitted.{IsFit}
use Rattle.application_types.specs.Soundness.{AreNamed}
use Rattle.application_read.specs.declared.application.Application.{Application as Made}
use Rattle.application_read.specs.Texts.{TextsGenerate, TextsHaveFault}
use Rattle.laws_of_runs.specs.Applied.{applied}
use Rattle.abstract_monitor.specs.State.{Application as Monitored}
use Rattle.abstract_monitor.specs.declared.command.Command.{Command}
use Rattle.abstract_monitor.specs.declared.command.Command.TheVariants as command
use Rattle.laws_of_states.specs.Applications.{IsApplication}
use Rattle.laws_of_states.specs.Keeping.{IsScriptOf}
use Rattle.laws_of_states.specs.Suits.{Suits}
use Rattle.script_read.specs.Commands.{script_in}
use Rattle.device_acts.specs.Fingerprints.{fingerprint as print_of}
use Rattle.audit_trail.specs.declared.entry.Trail.{Trail as Kept}
use Rattle.audit_trail.specs.declared.fault.TrailFault.{TrailFault}
use Rattle.audit_trail.specs.declared.fault.TrailFault.TheVariants as faults
use Rattle.audit_trail.specs.Facts.{IsTrail}
use Rattle.audit_trail.specs.Places.{trail_in}
use Rattle.call_parts.specs.MadeTexts.{definition_text as made_definition, units_text as made_units, script_text as made_script}
use Rattle.refusals.specs.declared.error.Refusal.{Refusal}
use Rattle.refusals.specs.declared.error.Refusal.TheVariants.{Application, Double, Script, Trail as TrailRefused}
use Rattle.refusals.specs.declared.error.TextError.{TextError}
use Rattle.refusals.specs.declared.error.TextError.TheVariants as error
use Rattle.refusals.specs.Statuses.{status_of}
use Rattle.call_parts.specs.declared.errand.Work.{Work}
use Rattle.call_parts.specs.declared.errand.Task.{Task}
use Rattle.call_parts.specs.declared.errand.Task.TheVariants as task
use Rattle.call_parts.specs.declared.errand.Storing.{Storing}
use Rattle.call_parts.specs.declared.errand.Storing.TheVariants as storing
use Rattle.call_parts.specs.declared.errand.Looking.{Looking}
use Rattle.call_parts.specs.declared.errand.Looking.TheVariants as looking
use Rattle.call_parts.specs.declared.errand.OneFile.{OneFile}
use Rattle.call_parts.specs.declared.errand.OneFile.TheVariants as file
use Rattle.call_parts.specs.declared.errand.TwoFiles.{TwoFiles}
use Rattle.call_parts.specs.declared.errand.TwoFiles.TheVariants as files
use Rattle.call_parts.specs.declared.errand.Asked.{Asked}
use Rattle.call_parts.specs.declared.errand.Asked.TheVariants.{One, Two}
use Rattle.call_parts.specs.declared.words.Word.{Word}
use Rattle.call_parts.specs.declared.words.Word.TheVariants.{Gen, Run, Show, Update, Trail, Audit, Make}
use Rattle.call_parts.specs.Words.{IsOfBase, audits, definition_name, units_name, script_name, trail_name}

-- what is to be done: the word, the application that the texts make with their fingerprint, the commands of the script, and the trail that is audited
pub record Errand : Type 0 where
  pub word : Word
  pub application : Made
  pub fingerprint : List ℕ
  pub commands : List Command
  pub trail : Option Kept

-- the word of a task, its commands and its trail
abbrev pub storing_word : Storing → Word
storing_word storing.Report = Gen
storing_word (storing.Script commands) = Run

abbrev pub storing_commands : Storing → List Command
storing_commands storing.Report = []
storing_commands (storing.Script commands) = commands

abbrev pub looking_word : Looking → Word
looking_word looking.Listing = Show
looking_word (looking.Trail commands) = Trail

abbrev pub looking_commands : Looking → List Command
looking_commands looking.Listing = []
looking_commands (looking.Trail commands) = commands

abbrev pub task_word : Task → Word
task_word (task.Store s) = storing_word s
task_word (task.Look l) = looking_word l
task_word task.Update = Update
task_word (task.Audit trail) = Audit

abbrev pub task_commands : Task → List Command
task_commands (task.Store s) = storing_commands s
task_commands (task.Look l) = looking_commands l
task_commands task.Update = []
task_commands (task.Audit trail) = []

abbrev pub task_trail : Task → Option Kept
task_trail (task.Store s) = None
task_trail (task.Look l) = None
task_trail task.Update = None
task_trail (task.Audit trail) = Some trail

-- the errand of a task, and that of so many made inputs
abbrev pub errand_for : Work → Task → Errand
errand_for w t = record { word = task_word t; application = w.application; fingerprint = w.fingerprint; commands = task_commands t; trail = task_trail t }

abbrev pub making : ℕ → Work → List Command → Errand
making n w commands = record { word = Make n; application = w.application; fingerprint = w.fingerprint; commands = commands; trail = None }

abbrev pub one_errand : OneFile → Errand
one_errand (file.Over w t) = errand_for w t
one_errand (file.Make n w commands) = making n w commands

-- each task by itself
abbrev pub storing_errand : Work → Storing → Errand
storing_errand w s = errand_for w (task.Store s)

abbrev pub gen_errand : Work → Errand
gen_errand w = storing_errand w storing.Report

abbrev pub run_errand : Work → List Command → Errand
run_errand w commands = storing_errand w (storing.Script commands)

abbrev pub looking_errand : Work → Looking → Errand
looking_errand w l = errand_for w (task.Look l)

abbrev pub update_errand : Work → Errand
update_errand w = errand_for w task.Update

abbrev pub audit_errand : Work → Kept → Errand
audit_errand w trail = errand_for w (task.Audit trail)

-- an errand, or why there is none
abbrev pub Reading : Type 0
Reading = Result Errand Refusal

-- ---- the third text

-- the text says this trail, which is of the texts with this fingerprint, and whose tables at the start suit what they generate
pub record SaysTrail (a : Made) (fingerprint text : List ℕ) (t : Kept) : Type 0 where
  pub says : trail_in text ≡ Ok t
  pub own_texts : t.fingerprint ≡ fingerprint
  pub suits : Suits a.generation t.start

-- the text says a trail of other texts
abbrev pub IsOfOthers : (fingerprint text : List ℕ) → Type 0
IsOfOthers fingerprint text = (t : Kept) × (trail_in text ≡ Ok t) × (t.fingerprint ≢ fingerprint)

-- the text says a trail of these texts, whose tables at the start do not suit what they generate
abbrev pub StartsElsewhere : Made → (fingerprint text : List ℕ) → Type 0
StartsElsewhere a fingerprint text = (t : Kept) × (trail_in text ≡ Ok t) × (t.fingerprint ≡ fingerprint) × (Suits a.generation t.start → ⊥)

-- the text has this fault: it says no trail; or else its fingerprint, which stands in line 1, is not that of the texts; or else its tables at the start, which begin in line 2, do not suit
abbrev pub HasTrailFault : Made → (fingerprint text : List ℕ) → TrailFault → Type 0
HasTrailFault a fingerprint text (faults.BadLine line) = trail_in text ≡ Err (faults.BadLine line)
HasTrailFault a fingerprint text faults.TooLong = trail_in text ≡ Err faults.TooLong
HasTrailFault a fingerprint text (faults.OtherGeneration line) = (line ≡ 1) × IsOfOthers fingerprint text
HasTrailFault a fingerprint text (faults.NotSuited line) = (line ≡ 2) × StartsElsewhere a fingerprint text
HasTrailFault a fingerprint text faults.Memory = ⊥

-- the third text asks for these commands of a script, or under `audit` for this trail
abbrev pub ThirdAsks : (audit : Bool) → Made → (fingerprint text : List ℕ) → List Command → Option Kept → Type 0
ThirdAsks false a fingerprint text commands trail = (script_in a.generation text ≡ Ok commands) × (trail ≡ None)
ThirdAsks true a fingerprint text commands trail = (commands ≡ []) × ((t : Kept) × (trail ≡ Some t) × SaysTrail a fingerprint text t)

-- the third text is refused for this fault
abbrev pub ThirdRefuses : (audit : Bool) → Made → (fingerprint text : List ℕ) → Refusal → Type 0
ThirdRefuses audit a fingerprint text (Application fault) = ⊥
ThirdRefuses audit a fingerprint text (Double line) = ⊥
ThirdRefuses false a fingerprint text (Script fault) = script_in a.generation text ≡ Err fault
ThirdRefuses true a fingerprint text (Script fault) = ⊥
ThirdRefuses false a fingerprint text (TrailRefused fault) = ⊥
ThirdRefuses true a fingerprint text (TrailRefused fault) = HasTrailFault a fingerprint text fault

-- ---- all texts

-- what the texts of a word say: the faults of the definition and the units come first, then a KDCFILE of two copies, which no word runs over, and then the faults of the third text, whose names are those of the definition
abbrev pub AskFor : Word → (definition units text : List ℕ) → Reading → Type 0
AskFor word definition units text (Ok e) =
    (e.word ≡ word) × TextsGenerate definition units e.application × (e.application.generation.double ≡ None) × (e.fingerprint ≡ print_of definition units) × ThirdAsks (audits word) e.application e.fingerprint text e.commands e.trail
AskFor word definition units text (Err (Application fault)) = TextsHaveFault definition units fault
AskFor word definition units text (Err (Double line)) = (a : Made) × TextsGenerate definition units a × (a.generation.double ≡ Some line)
AskFor word definition units text (Err (Script fault)) =
    (a : Made) × TextsGenerate definition units a × (a.generation.double ≡ None) × ThirdRefuses (audits word) a (print_of definition units) text (Script fault)
AskFor word definition units text (Err (TrailRefused fault)) =
    (a : Made) × TextsGenerate definition units a × (a.generation.double ≡ None) × ThirdRefuses (audits word) a (print_of definition units) text (TrailRefused fault)

-- what the texts of a word say where the definition asks for two copies of its KDCFILE: what the third text asks for, or why it is refused
abbrev pub AskForTwo : Word → (definition units text : List ℕ) → Reading → Type 0
AskForTwo word definition units text (Ok e) =
    (e.word ≡ word) × TextsGenerate definition units e.application × IsSome e.application.generation.double × (e.fingerprint ≡ print_of definition units) × ThirdAsks (audits word) e.application e.fingerprint text e.commands e.trail
AskForTwo word definition units text (Err why) =
    (a : Made) × TextsGenerate definition units a × IsSome a.generation.double × ThirdRefuses (audits word) a (print_of definition units) text why

-- an errand of the word over this application, for which the third text asks
pub record IsErrandOf (word : Word) (w : Work) (text : List ℕ) (e : Errand) : Type 0 where
  pub word_is : e.word ≡ word
  pub application_is : e.application ≡ w.application
  pub fingerprint_is : e.fingerprint ≡ w.fingerprint
  pub asks : ThirdAsks (audits word) w.application w.fingerprint text e.commands e.trail

-- a text of a word: the room's of this name, or for `make` the made one
abbrev pub TextIs : Word → RoomState → (name : List ℕ) → (made : ℕ → List ℕ) → List ℕ → Type 0
TextIs Gen room name made text = text_of name room.texts ≡ Some text
TextIs Run room name made text = text_of name room.texts ≡ Some text
TextIs Show room name made text = text_of name room.texts ≡ Some text
TextIs Update room name made text = text_of name room.texts ≡ Some text
TextIs Trail room name made text = text_of name room.texts ≡ Some text
TextIs Audit room name made text = text_of name room.texts ≡ Some text
TextIs (Make n) room name made text = text ≡ made n

-- the third text: the script, which `run` and `trail` read, or the trail, which `audit` reads
abbrev pub ScriptIs : Word → List ℕ → RoomState → List ℕ → Type 0
ScriptIs Gen base room text = text ≡ []
ScriptIs Run base room text = text_of (script_name base) room.texts ≡ Some text
ScriptIs Show base room text = text ≡ []
ScriptIs Update base room text = text ≡ []
ScriptIs Trail base room text = text_of (script_name base) room.texts ≡ Some text
ScriptIs Audit base room text = text_of (trail_name base) room.texts ≡ Some text
ScriptIs (Make n) base room text = text ≡ made_script n

-- the texts of a word are there: those of this BASE, or the made ones
pub record AreThere (word : Word) (base : List ℕ) (room : RoomState) (definition units text : List ℕ) : Type 0 where
  pub definition_is : TextIs word room (definition_name base) (λ n. made_definition) definition
  pub units_is : TextIs word room (units_name base) (λ n. made_units) units
  pub script_is : ScriptIs word base room text

-- the texts of the word are there, and this is what they say
pub record ReadsFor (word : Word) (base : List ℕ) (room : RoomState) (said : Reading) : Type 0 where
  pub definition : List ℕ
  pub units : List ℕ
  pub text : List ℕ
  pub there : AreThere word base room definition units text
  pub says : AskFor word definition units text said

-- the word has a BASE, whose texts are there and ask for two copies of their KDCFILE, and this is what they say
pub record ReadsForTwo (word : Word) (base : List ℕ) (room : RoomState) (said : Reading) : Type 0 where
  pub of_base : IsOfBase word
  pub definition : List ℕ
  pub units : List ℕ
  pub text : List ℕ
  pub there : AreThere word base room definition units text
  pub says : AskForTwo word definition units text said

-- the room tells the texts of the word; those of `make` are its own
abbrev pub TellsTexts : Word → RoomState → Type 0
TellsTexts word room = IsTrue room.told ⊎ ((n : ℕ) × (word ≡ Make n))

-- ---- what was read

-- what the texts say over one file, and over two where they ask for two
abbrev pub one_reading : Asked → Reading
one_reading (One o) = Ok (one_errand o)
one_reading (Two line t) = Err (Double line)

abbrev pub two_reading : TwoFiles → Reading
two_reading (files.Over w t) = Ok (errand_for w t)
two_reading (files.Refused why) = Err why

abbrev pub IsTwo : Asked → Reading → Type 0
IsTwo (One o) said = ⊥
IsTwo (Two line t) said = said ≡ two_reading t

-- the application of what is asked for
abbrev pub work_of : OneFile → Work
work_of (file.Over w t) = w
work_of (file.Make n w commands) = w

-- no third text is refused
abbrev pub HasWork : Asked → Type 0
HasWork (One o) = ⊤
HasWork (Two line (files.Over w t)) = ⊤
HasWork (Two line (files.Refused why)) = ⊥

-- what a third text asks for, where the definition asks for two copies at a line, or for one
abbrev pub over_by : Option ℕ → Work → Task → Result Asked TextError
over_by None w t = Ok (One (file.Over w t))
over_by (Some line) w t = Ok (Two line (files.Over w t))

abbrev pub refused_by : Option ℕ → Refusal → Result Asked TextError
refused_by None why = Err (error.Refused why)
refused_by (Some line) why = Ok (Two line (files.Refused why))

abbrev pub asked_by : Option ℕ → Result OneFile TextError → Result Asked TextError
asked_by double (Ok (file.Over w t)) = over_by double w t
asked_by double (Ok (file.Make n w commands)) = Ok (One (file.Make n w commands))
asked_by double (Err (error.Refused why)) = refused_by double why
asked_by double (Err error.Room) = Err error.Room
asked_by double (Err error.Memory) = Err error.Memory

-- what was read is what the texts say, and all that they say
pub record SaysOver (word : Word) (definition units text : List ℕ) (o : Asked) : Type 0 where
  pub one : AskFor word definition units text (one_reading o)
  pub one_only : (said : Reading) → AskFor word definition units text said → said ≡ one_reading o
  pub two : (said : Reading) → IsTwo o said → AskForTwo word definition units text said
  pub two_only : (said : Reading) → AskForTwo word definition units text said → IsTwo o said

-- the texts are refused for this fault, and ask for no two copies
pub record SaysFault (word : Word) (definition units text : List ℕ) (why : Refusal) : Type 0 where
  pub one : AskFor word definition units text (Err why)
  pub one_only : (said : Reading) → AskFor word definition units text said → said ≡ Err why
  pub none : (said : Reading) → AskForTwo word definition units text said → ⊥

-- the same of the texts of a room
pub record ToldOver (word : Word) (base : List ℕ) (room : RoomState) (o : Asked) : Type 0 where
  pub one : ReadsFor word base room (one_reading o)
  pub one_only : (said : Reading) → ReadsFor word base room said → said ≡ one_reading o
  pub two : (said : Reading) → IsTwo o said → ReadsForTwo word base room said
  pub two_only : (said : Reading) → ReadsForTwo word base room said → IsTwo o said

pub record ToldFault (word : Word) (base : List ℕ) (room : RoomState) (why : Refusal) : Type 0 where
  pub one : ReadsFor word base room (Err why)
  pub one_only : (said : Reading) → ReadsFor word base room said → said ≡ Err why
  pub none : (said : Reading) → ReadsForTwo word base room said → ⊥

-- it is asked by this word; over two copies by one that has a BASE
abbrev pub IsOfWordTwo : Word → TwoFiles → Type 0
IsOfWordTwo word (files.Over w t) = task_word t ≡ word
IsOfWordTwo word (files.Refused why) = IsOfBase word

abbrev pub IsOfWord : Word → Asked → Type 0
IsOfWord word (One o) = (one_errand o).word ≡ word
IsOfWord word (Two line t) = IsOfWordTwo word t

-- longer than a text may be
abbrev pub IsLong : List ℕ → Type 0
IsLong text = longest_text < length text

-- the same text, or both are too long
abbrev pub AreAlike : List ℕ → List ℕ → Type 0
AreAlike d e = (d ≡ e) ⊎ (IsLong d × IsLong e)

-- what was read of the texts of a word says what they say
pub record WereRead (word : Word) (base : List ℕ) (room : RoomState) (definition_read units_read text_read : List ℕ) : Type 0 where
  pub definition : List ℕ
  pub units : List ℕ
  pub text : List ℕ
  pub there : AreThere word base room definition units text
  pub definition_is : AreAlike definition_read definition
  pub units_are : AreAlike units_read units
  pub text_is : AreAlike text_read text

-- ---- what is known of an errand that was read

-- the application as the monitor's definitions have it
abbrev pub app_of : Errand → Monitored
app_of e = applied e.application.generation e.application.units

-- what an audit asks of its trail; no other word has one
abbrev pub CanBeAudited : (audit : Bool) → Made → Option Kept → Type 0
CanBeAudited false a trail = trail ≡ None
CanBeAudited true a None = ⊥
CanBeAudited true a (Some t) = IsTrail t × Suits a.generation t.start

-- a command makes a million turns at most
abbrev pub IsShort : Command → Type 0
IsShort (command.Run turns) = turns ≤ 1000000
IsShort (command.Input pterm text) = ⊤
IsShort (command.Tick ticks) = ⊤
IsShort (command.Turn task) = ⊤
IsShort (command.Drop pterm) = ⊤
IsShort (command.Print pterm) = ⊤
IsShort (command.PrintLast pterm) = ⊤
IsShort command.Restart = ⊤

-- what a monitor asks of its application and its script, and an audit of its trail
pub record CanRun (e : Errand) : Type 0 where
  pub fit : IsFit e.application.generation e.application.units
  pub named : AreNamed e.application.generation
  pub applies : IsApplication (app_of e)
  pub names : IsScriptOf (app_of e) e.commands
  -- a million commands at most, each of a million turns at most
  pub few : length e.commands ≤ 1000000
  pub short : All IsShort e.commands
  pub trail : CanBeAudited (audits e.word) e.application e.trail

-- what texts ask for can run
abbrev pub TextsCanRun : Type 0
TextsCanRun = (word : Word) (definition units text : List ℕ) (e : Errand) → AskFor word definition units text (Ok e) → CanRun e

-- and so can what texts of two copies ask for
abbrev pub TextsOfTwoCanRun : Type 0
TextsOfTwoCanRun = (word : Word) (definition units text : List ℕ) (e : Errand) → AskForTwo word definition units text (Ok e) → CanRun e

-- what was read can run; a third text over two copies is refused with its own status
abbrev pub MakesFitTwo : TwoFiles → Type 0
MakesFitTwo (files.Over w t) = CanRun (errand_for w t) × IsSome w.application.generation.double
MakesFitTwo (files.Refused why) = status_of why ≡ 3

abbrev pub MakesFit : Asked → Type 0
MakesFit (One o) = CanRun (one_errand o)
MakesFit (Two line t) = MakesFitTwo t
