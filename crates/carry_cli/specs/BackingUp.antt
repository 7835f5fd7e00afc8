-- What a call promises that backs up the files of a BASE to a file.
use Rattle.std.specs.Prelude.{◌≡◌, ◌⊎◌, ◌∷◌, ◌++◌, ℕ, IsTrue, List, [], None, Some, codes}
use Rattle.kd_device.specs.Device.{Frame, Rose, SameFaults, State}
use Rattle.kd_device.specs.Room.{RoomState, SameRoom}
use Rattle.kd_device.specs.Twin.{Both}
use Rattle.kdcfile_double.specs.Opening.{SameFiles}
use Rattle.kdcfile_double.specs.Twice.{NoneRose}
use Rattle.kdcfile_carry.specs.Backing.{IsBackedUp}
use Rattle.kdcfile_carry.specs.Files.{AreFiles, Files}
use Rattle.kdcfile_carry.specs.Ways.{MayCarry}
use Rattle.refusals.specs.Lines.{refusal_line}
use Rattle.refusals.specs.Statuses.{IsOneOf}
use Rattle.refusals.specs.declared.error.Refusal.{Refusal}
use Rattle.call_parts.specs.Asking.{AreThere, Errand}
use Rattle.call_parts.specs.Leaving.{MayAttach}
use Rattle.call_parts.specs.LeavingTwo.{FaultsTwo, FrameTwin, MayAttachTwo, SaidTwo}
use Rattle.call_parts.specs.Words.{file_name}
use Rattle.call_parts.specs.declared.words.Word.TheVariants.{Update}
use Rattle.carry_cli.specs.Carrying.{Hinders, NoneIsMissing, generation_of}
use Rattle.carry_cli.specs.Promise.{AsksToCarry, EndsUsage, RefusesTexts}
use Rattle.carry_cli.specs.Telling.{hindrance_line}
use Rattle.carry_cli.specs.Words.{backup_of, plain}
use Rattle.carry_cli.specs.Writing.{BackupWrites, BackupWritesFor}
use Rattle.carry_cli.specs.declared.backing.BackupAnswer.{BackupAnswer}
use Rattle.carry_cli.specs.declared.backing.BackupAnswer.TheVariants as backup

-- what is sent
abbrev pub backup_line : BackupAnswer → List ℕ
backup_line backup.Ready = codes "BACKUP READY\n"
backup_line (backup.Hindered why) = hindrance_line why
backup_line backup.OtherTexts = codes "KDCFILE OTHER GENERATION\n"
backup_line backup.NotEmpty = codes "BACKUP NOT EMPTY\n"
backup_line backup.Differs = codes "BACKUP DIFFERS\n"

-- its status
abbrev pub backup_status : BackupAnswer → ℕ
backup_status backup.Ready = 0
backup_status (backup.Hindered why) = 4
backup_status backup.OtherTexts = 4
backup_status backup.NotEmpty = 4
backup_status backup.Differs = 4

-- two files, none of which is missing, are those of an application, of which this holds
abbrev pub AreFilesOf : (Files → Type 0) → (p q : List ℕ) → Type 0
AreFilesOf P p q = NoneIsMissing plain p q × ((f : Files) × AreFiles f p q × P f)

-- this becomes of the backup of two files: a file that had these bytes now stands for their tables, also after a stop; or why there is none. No file differs from what was written to it
abbrev pub IsBackup : Errand → BackupAnswer → (p q had : List ℕ) → State → (leaves : ℕ → List ℕ → List ℕ → Type 0) → Type 0
IsBackup e backup.Ready p q had s leaves = AreFilesOf (λ f. IsBackedUp (generation_of e) e.fingerprint f s leaves) p q
IsBackup e (backup.Hindered why) p q had s leaves = Hinders e plain p q why
IsBackup e backup.OtherTexts p q had s leaves = AreFilesOf (λ f. MayCarry (generation_of e) e.fingerprint f) p q
IsBackup e backup.NotEmpty p q had s leaves = NoneIsMissing plain p q × (had ≡ [] → ⊥)
IsBackup e backup.Differs p q had s leaves = ⊥

-- a call on the files, on the line or on the file that is written failed
abbrev pub FaultsBackup : (a b : Both) → (s s' : State) → Type 0
FaultsBackup a b s s' = FaultsTwo a b ⊎ Rose s.disk_faults s'.disk_faults

-- no call failed
pub record FineBackup (a b : Both) (s s' : State) : Type 0 where
  pub files : NoneRose a b
  pub to : SameFaults s s'

-- what a call leaves that backs up the files of BASE to TO.KDCA, whatever its status
pub record LeavesBackup (base to : List ℕ) (a b : Both) (s s' : State) : Type 0 where
  -- no byte of the files of BASE is written
  pub files : IsTrue a.told → SameFiles a b
  -- a TO.KDCA that is not empty stays as it is
  pub still : IsTrue s.told → (s.holds ≡ [] → ⊥) → s'.holds ≡ s.holds
  -- nothing is sent but on the line of the files
  pub silent : IsTrue s.told → s'.sent ≡ s.sent
  -- BASE.KDCA, BASE.KDCB and TO.KDCA, and no other files, are attached
  pub names : IsTrue a.told → MayAttachTwo base a b
  pub to_names : IsTrue s.told → MayAttach (file_name to) s s'
  pub frame : FrameTwin a b
  pub to_frame : Frame s s'

-- the files were to be backed up as an application asks, and the call ended with this status
pub record EndsBackupOver (e : Errand) (base to : List ℕ) (a b : Both) (s s' : State) (leaves : ℕ → List ℕ → List ℕ → Type 0) (status : ℕ) : Type 0 where
  pub code : IsOneOf (0 ∷ 4 ∷ 5 ∷ 7 ∷ []) status
  pub done : IsOneOf (0 ∷ 4 ∷ []) status → IsTrue a.told → IsTrue s.told → (x : BackupAnswer) × IsBackup e x a.first.holds a.second.holds s.holds s' leaves × (status ≡ backup_status x) × (b.sent ≡ a.sent ++ backup_line x)
  pub device : status ≡ 5 → FaultsBackup a b s s'
  pub fine : (status ≡ 5 → ⊥) → FineBackup a b s s'
  pub leaves_all : LeavesBackup base to a b s s'
  -- no more is written than that, whatever the status
  pub written : IsTrue a.told → IsTrue s.told → BackupWrites e a s s'

-- a call that backs up the files of BASE to TO.KDCA ended with this status
pub record EndsBackup (base to : List ℕ) (room room' : RoomState) (a b : Both) (s s' : State) (leaves : ℕ → List ℕ → List ℕ → Type 0) (status : ℕ) : Type 0 where
  pub code : IsOneOf (0 ∷ 2 ∷ 4 ∷ 5 ∷ 6 ∷ 7 ∷ []) status
  -- 0: TO.KDCA stands for the tables of BASE, of these texts; 4: why it does not. The line was sent
  pub done : IsOneOf (0 ∷ 4 ∷ []) status → IsTrue room.told → IsTrue a.told → IsTrue s.told → (e : Errand) × AsksToCarry base room e × ((x : BackupAnswer) × IsBackup e x a.first.holds a.second.holds s.holds s' leaves × (status ≡ backup_status x) × (b.sent ≡ a.sent ++ backup_line x))
  -- 2: the texts are refused, which was said
  pub refused : status ≡ 2 → IsTrue room.told → (why : Refusal) × RefusesTexts base room why × (IsTrue a.told → SaidTwo (refusal_line why) a b)
  -- 6: a read of a text failed, and nothing was done; never where the texts are there and the room is sure
  pub unread : status ≡ 6 → Rose room.faults room'.faults × (b ≡ a) × (s' ≡ s)
  pub sure : status ≡ 6 → IsTrue room.sure → (d u c : List ℕ) → AreThere Update base room d u c → ⊥
  -- 5: a call on a file or on the line failed, and at any other status none did
  pub device : status ≡ 5 → FaultsBackup a b s s'
  pub fine : (status ≡ 5 → ⊥) → FineBackup a b s s'
  pub leaves_all : LeavesBackup base to a b s s'
  -- no more is written than that, whatever the status
  pub written : IsTrue a.told → IsTrue s.told → BackupWritesFor (λ e. AsksToCarry base room e) room a s s'

-- a call with these words ended with this status, and left this room and these files
pub record AnswersBackup (words : List (List ℕ)) (room room' : RoomState) (a b : Both) (s s' : State) (leaves : ℕ → List ℕ → List ℕ → Type 0) (status : ℕ) : Type 0 where
  pub usage : backup_of words ≡ None → EndsUsage a b status × (s' ≡ s)
  pub backs_up : (base to : List ℕ) → backup_of words ≡ Some (base, to) → EndsBackup base to room room' a b s s' leaves status
  pub same_room : SameRoom room room'
