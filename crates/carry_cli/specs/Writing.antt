-- How many bytes a call writes at most.
use Rattle.std.specs.Prelude.{◌≡◌, ◌⊎◌, IsTrue}
use Rattle.kd_device.specs.Device.{State}
use Rattle.kd_device.specs.Room.{RoomState}
use Rattle.kd_device.specs.Twin.{Both}
use Rattle.kdcfile_carry.specs.Writing.{WritesAtMost, WritesBackup, WritesNone}
use Rattle.call_parts.specs.Asking.{Errand}
use Rattle.carry_cli.specs.Carrying.{LosesNone, generation_of}
use Rattle.carry_cli.specs.declared.words.Options.{Options}

-- of the files of an application: nothing is written; or one commit where they are carried, which may lose their rows; and what makes a half a copy of the other one, or shuts it
abbrev pub CarryWrites : Errand → Options → (a b : Both) → Type 0
CarryWrites e o a b = WritesAtMost (generation_of e) e.fingerprint (λ f. LosesNone e o f) a b

-- to a backup of the files of an application: nothing is written; or a new file with the tables of these files
abbrev pub BackupWrites : Errand → (a : Both) → (s s' : State) → Type 0
BackupWrites e a s s' = WritesBackup (generation_of e) e.fingerprint a.first.holds a.second.holds s s'

-- whatever the texts are: nothing is written, or they ask for an application, of whose files that much is
abbrev pub CarryWritesFor : (Asks : Errand → Type 0) → RoomState → Options → (a b : Both) → Type 0
CarryWritesFor Asks room o a b = WritesNone a b ⊎ ((e : Errand) × (IsTrue room.told → Asks e) × CarryWrites e o a b)

abbrev pub BackupWritesFor : (Asks : Errand → Type 0) → RoomState → (a : Both) → (s s' : State) → Type 0
BackupWritesFor Asks room a s s' = (s'.put ≡ s.put) ⊎ ((e : Errand) × (IsTrue room.told → Asks e) × BackupWrites e a s s')
