-- Why a call begins nothing, and what is then printed and answered.
use Rattle.std.specs.Prelude.{◌≡◌, ◌⊎◌, ⊤, ℕ, Bool, List, [], ◌∷◌, IsTrue, Option, Result, Ok, Err}
use Rattle.kd_device.specs.Device.{Rose}
use Rattle.kd_device.specs.Room.{RoomState}
use Rattle.kd_device.specs.declared.error.DeviceError.{DeviceError}
use Rattle.kd_device.specs.declared.error.DeviceError.TheVariants as device
use Rattle.application_types.specs.Generation.{Generated}
use Rattle.application_read.specs.declared.application.Application.{Application as Made}
use Rattle.application_read.specs.Texts.{TextsGenerate, TextsHaveFault}
use Rattle.abstract_monitor.specs.declared.command.Command.{Command}
use Rattle.script_read.specs.Commands.{script_in}
use Rattle.device_acts.specs.Fingerprints.{fingerprint as print_of}
use Rattle.device_acts.specs.Opening.{IsOfOtherTexts, IsRefused}
use Rattle.kdcfile_double.specs.Opening.{IsRefusedTwo, IsSpent, IsTwoOfOtherTexts}
use Rattle.refusals.specs.Lines.{file_line, refusal_line}
use Rattle.refusals.specs.Statuses.{IsOneOf, status_of}
use Rattle.refusals.specs.Texts.{NoReadFailed}
use Rattle.refusals.specs.declared.error.FileRefusal.TheVariants as file
use Rattle.refusals.specs.declared.error.Refusal.{Refusal}
use Rattle.refusals.specs.declared.error.Refusal.TheVariants.{Application, Double, Script, Trail}
use Rattle.refusals.specs.declared.error.TextError.{TextError}
use Rattle.refusals.specs.declared.status.Status.{Status}
use Rattle.refusals.specs.declared.error.TextError.TheVariants as error
use Rattle.lab_turns.specs.Consoles.{Passed, printed}
use Rattle.lab_cli.specs.Places.{AreRead, MissesFile, MissesText, OverFiles}
use Rattle.lab_cli.specs.declared.stop.Stop.{Stop}
use Rattle.lab_cli.specs.declared.stop.Stop.TheVariants as stop

-- ---- a read that failed

-- a read failed, which in a room that is sure it does only where something is missing; or memory ran out, and no read failed
abbrev pub FailsSo : (misses : Type 0) → (old new : RoomState) → DeviceError → Type 0
FailsSo misses old new device.Failed = Rose old.faults new.faults × (IsTrue old.sure → misses)
FailsSo misses old new device.Memory = NoReadFailed old new

-- ---- texts that are refused

-- the definition or the units have this fault, or else the script has it
abbrev pub TextsRefuse : (definition units script : List ℕ) → Refusal → Type 0
TextsRefuse definition units script (Application fault) = TextsHaveFault definition units fault
TextsRefuse definition units script (Script fault) = (a : Made) × TextsGenerate definition units a × (script_in a.generation script ≡ Err fault)
TextsRefuse definition units script (Double line) = ⊥
TextsRefuse definition units script (Trail fault) = ⊥

-- the script has this fault
abbrev pub ScriptRefuses : Generated → (script : List ℕ) → Refusal → Type 0
ScriptRefuses g script (Script fault) = script_in g script ≡ Err fault
ScriptRefuses g script (Application fault) = ⊥
ScriptRefuses g script (Double line) = ⊥
ScriptRefuses g script (Trail fault) = ⊥

-- texts that were read are refused so, or memory ran out
abbrev pub IsTextFault : (Refusal → Type 0) → TextError → Type 0
IsTextFault P (error.Refused why) = P why
IsTextFault P error.Room = ⊥
IsTextFault P error.Memory = ⊤

-- ---- the causes

-- what was read is refused for a cause, or memory ran out
abbrev pub StopsFor : (cause : Stop → Type 0) → Stop → Type 0
StopsFor cause (stop.Texts why) = cause (stop.Texts why)
StopsFor cause stop.NotKdcfile = cause stop.NotKdcfile
StopsFor cause (stop.OtherGeneration stored) = cause (stop.OtherGeneration stored)
StopsFor cause stop.Spent = cause stop.Spent
StopsFor cause stop.Room = ⊥
StopsFor cause stop.Output = ⊥
StopsFor cause stop.Memory = ⊤

-- no cause of a refusal
abbrev pub IsCauseOfTexts : (definition units script : List ℕ) → Stop → Type 0
IsCauseOfTexts definition units script (stop.Texts why) = TextsRefuse definition units script why
IsCauseOfTexts definition units script stop.NotKdcfile = ⊥
IsCauseOfTexts definition units script (stop.OtherGeneration stored) = ⊥
IsCauseOfTexts definition units script stop.Spent = ⊥
IsCauseOfTexts definition units script stop.Room = ⊥
IsCauseOfTexts definition units script stop.Output = ⊥
IsCauseOfTexts definition units script stop.Memory = ⊥

-- why an application starts from no tables with one file
abbrev pub IsCauseOfOne : Generated → (fingerprint bytes : List ℕ) → Stop → Type 0
IsCauseOfOne g fingerprint bytes stop.NotKdcfile = IsRefused g fingerprint bytes
IsCauseOfOne g fingerprint bytes (stop.OtherGeneration stored) = IsOfOtherTexts stored fingerprint bytes
IsCauseOfOne g fingerprint bytes stop.Spent = ⊥
IsCauseOfOne g fingerprint bytes (stop.Texts why) = ⊥
IsCauseOfOne g fingerprint bytes stop.Room = ⊥
IsCauseOfOne g fingerprint bytes stop.Output = ⊥
IsCauseOfOne g fingerprint bytes stop.Memory = ⊥

-- and with two
abbrev pub IsCauseOfTwo : Generated → (fingerprint a b : List ℕ) → Stop → Type 0
IsCauseOfTwo g fingerprint a b stop.NotKdcfile = IsRefusedTwo g fingerprint a b
IsCauseOfTwo g fingerprint a b (stop.OtherGeneration stored) = IsTwoOfOtherTexts stored fingerprint a b
IsCauseOfTwo g fingerprint a b stop.Spent = (n : ℕ) × IsSpent g fingerprint n a b
IsCauseOfTwo g fingerprint a b (stop.Texts why) = ⊥
IsCauseOfTwo g fingerprint a b stop.Room = ⊥
IsCauseOfTwo g fingerprint a b stop.Output = ⊥
IsCauseOfTwo g fingerprint a b stop.Memory = ⊥

-- why it starts from no tables with the files of a BASE
abbrev pub IsCauseOver : (double : Option ℕ) → Generated → (fingerprint base : List ℕ) → List (List ℕ × List ℕ) → Stop → Type 0
IsCauseOver double g fingerprint base texts why = OverFiles double base texts (λ bytes. IsCauseOfOne g fingerprint bytes why) (λ a b. IsCauseOfTwo g fingerprint a b why)

-- the texts of a BASE make an application with this fingerprint, and say a script
pub record IsAccepted (with_script : Bool) (base : List ℕ) (texts : List (List ℕ × List ℕ)) (a : Made) (fingerprint : List ℕ) : Type 0 where
  pub definition : List ℕ
  pub units : List ℕ
  pub script : List ℕ
  pub commands : List Command
  pub read : AreRead with_script base texts definition units script
  pub generates : TextsGenerate definition units a
  pub says : script_in a.generation script ≡ Ok commands
  pub print : fingerprint ≡ print_of definition units

-- the texts are refused
abbrev pub RefusesTexts : (with_script : Bool) → (base : List ℕ) → List (List ℕ × List ℕ) → Refusal → Type 0
RefusesTexts with_script base texts why = (definition units script : List ℕ) × AreRead with_script base texts definition units script × TextsRefuse definition units script why

-- they are accepted, and the files are refused
abbrev pub RefusesFiles : (with_script : Bool) → (base : List ℕ) → List (List ℕ × List ℕ) → Stop → Type 0
RefusesFiles with_script base texts why = (a : Made) × (fingerprint : List ℕ) × IsAccepted with_script base texts a fingerprint × IsCauseOver a.generation.double a.generation fingerprint base texts why

-- why nothing is done with a BASE: its texts are refused, for the first fault of the definition and the units or else that of the script; or else its files
abbrev pub IsCauseAt : (with_script : Bool) → (base : List ℕ) → List (List ℕ × List ℕ) → Stop → Type 0
IsCauseAt with_script base texts (stop.Texts why) = RefusesTexts with_script base texts why
IsCauseAt with_script base texts stop.NotKdcfile = RefusesFiles with_script base texts stop.NotKdcfile
IsCauseAt with_script base texts (stop.OtherGeneration stored) = RefusesFiles with_script base texts (stop.OtherGeneration stored)
IsCauseAt with_script base texts stop.Spent = RefusesFiles with_script base texts stop.Spent
IsCauseAt with_script base texts stop.Room = ⊥
IsCauseAt with_script base texts stop.Output = ⊥
IsCauseAt with_script base texts stop.Memory = ⊥

-- a text that is read is not there; or the texts are accepted, and a file is not there
abbrev pub MissesAt : (with_script : Bool) → (base : List ℕ) → List (List ℕ × List ℕ) → Type 0
MissesAt with_script base texts = MissesText with_script base texts ⊎ ((a : Made) × (fingerprint : List ℕ) × IsAccepted with_script base texts a fingerprint × MissesFile a.generation.double base texts)

-- ---- what became of the room

-- a refusal has its cause; what could not be read is missing, in a room that is sure; and no read failed else
abbrev pub StopsBy : (cause : Stop → Type 0) → (misses : Type 0) → (old new : RoomState) → Stop → Type 0
StopsBy cause misses old new (stop.Texts why) = NoReadFailed old new × (IsTrue old.told → cause (stop.Texts why))
StopsBy cause misses old new stop.NotKdcfile = NoReadFailed old new × (IsTrue old.told → cause stop.NotKdcfile)
StopsBy cause misses old new (stop.OtherGeneration stored) = NoReadFailed old new × (IsTrue old.told → cause (stop.OtherGeneration stored))
StopsBy cause misses old new stop.Spent = NoReadFailed old new × (IsTrue old.told → cause stop.Spent)
StopsBy cause misses old new stop.Room = Rose old.faults new.faults × (IsTrue old.told → IsTrue old.sure → misses)
StopsBy cause misses old new stop.Output = NoReadFailed old new
StopsBy cause misses old new stop.Memory = NoReadFailed old new

abbrev pub StopsOver : (double : Option ℕ) → Generated → (fingerprint base : List ℕ) → (old new : RoomState) → Stop → Type 0
StopsOver double g fingerprint base old new why = StopsBy (IsCauseOver double g fingerprint base old.texts) (MissesFile double base old.texts) old new why

abbrev pub StopsAt : (with_script : Bool) → (base : List ℕ) → (old new : RoomState) → Stop → Type 0
StopsAt with_script base old new why = StopsBy (IsCauseAt with_script base old.texts) (MissesAt with_script base old.texts) old new why

-- ---- what is printed

-- the line of a refusal, as `utm` has it
abbrev pub stop_line : Stop → List ℕ
stop_line (stop.Texts why) = refusal_line why
stop_line stop.NotKdcfile = file_line file.NotKdcfile
stop_line (stop.OtherGeneration stored) = file_line (file.OtherGeneration stored)
stop_line stop.Spent = file_line file.SequenceSpent
stop_line stop.Room = []
stop_line stop.Output = []
stop_line stop.Memory = []

-- its status
abbrev pub stop_status : Stop → ℕ
stop_status (stop.Texts why) = status_of why
stop_status stop.NotKdcfile = 4
stop_status (stop.OtherGeneration stored) = 4
stop_status stop.Spent = 4
stop_status stop.Room = 6
stop_status stop.Output = 5
stop_status stop.Memory = 7

-- a line was printed, with this status; or the output failed, or memory ran out
pub record Says {C : Type 0} (passes : C → List Passed → C → Type 0) (code : ℕ) (line : List ℕ) (a b : C) (status : ℕ) : Type 0 where
  pub code_is : IsOneOf (code ∷ 5 ∷ 7 ∷ []) status
  pub said : status ≡ code → passes a (printed line) b

-- nothing was printed
pub record IsSilent {C : Type 0} (code : ℕ) (a b : C) (status : ℕ) : Type 0 where
  pub code_is : status ≡ code
  pub same : b ≡ a

-- the line of a refusal was printed
abbrev pub SaysWhy : {C : Type 0} → (passes : C → List Passed → C → Type 0) → Stop → (a b : C) → (status : ℕ) → Type 0
SaysWhy passes (stop.Texts why) a b status = Says passes (status_of why) (refusal_line why) a b status
SaysWhy passes stop.NotKdcfile a b status = Says passes 4 (file_line file.NotKdcfile) a b status
SaysWhy passes (stop.OtherGeneration stored) a b status = Says passes 4 (file_line (file.OtherGeneration stored)) a b status
SaysWhy passes stop.Spent a b status = Says passes 4 (file_line file.SequenceSpent) a b status
SaysWhy passes stop.Room a b status = IsSilent 6 a b status
SaysWhy passes stop.Output a b status = IsSilent 5 a b status
SaysWhy passes stop.Memory a b status = IsSilent 7 a b status

-- what was done, or why it was not, was answered; what was done has its own status and was printed before
abbrev pub SaysAll : {C : Type 0} → (passes : C → List Passed → C → Type 0) → Result Status Stop → (a b : C) → (status : ℕ) → Type 0
SaysAll passes (Ok done) a b status = IsSilent done.code a b status
SaysAll passes (Err why) a b status = SaysWhy passes why a b status
