-- What the two top calls promise.
use Rattle.std.specs.Prelude.{◌≡◌, ◌⊎◌, ℕ, IsTrue, List, [], ◌∷◌}
use Rattle.kd_device.specs.Device.{State, Rose, Frame, SameFaults, SameNames}
use Rattle.kd_device.specs.Room.{RoomState, SameRoom}
use Rattle.kd_device.specs.Twin.{Both, disk_of, half_leaves, half_state}
use Rattle.kd_device.specs.declared.half.Half.TheVariants.{First, Second}
use Rattle.kdcs_types.specs.Tables.{TableRows}
use Rattle.device_acts.specs.Said.{Said}
use Rattle.kdcfile_double.specs.Opening.{SameFiles}
use Rattle.kdcfile_update.specs.Updating.{Stored}
use Rattle.refusals.specs.Lines.{refusal_line, file_line}
use Rattle.refusals.specs.Statuses.{IsOneOf, status_of, status_of_file}
use Rattle.refusals.specs.Texts.{NoReadFailed}
use Rattle.refusals.specs.declared.error.FileRefusal.{FileRefusal}
use Rattle.trail_run.specs.Trailing.{HasBytes}
use Rattle.call_parts.specs.declared.words.Word.TheVariants.{Make}
use Rattle.call_parts.specs.Asking.{app_of}
use Rattle.utm_cli.specs.Doing.{Starts, tables_of}
use Rattle.utm_cli.specs.DoingTwo.{KeepsTwo, RefusesTwo, StartsTwo}
use Rattle.utm_cli.specs.Parts.{LooksBytes}
use Rattle.utm_cli.specs.Promise.{Attaches, Call, Completes, EndsInCut, ForErrand, ForFile, ForOwnTrail, ForRefusal, ForRun}
use Rattle.call_parts.specs.Requests.{AsksNothing, Misses, Request, IsSingleCall}
use Rattle.call_parts.specs.Leaving.{CallFailed, SaysPart}
use Rattle.utm_cli.specs.Promise.{ForStart, ForStartAtRest, ForTrail, HaltsRun, HasDone, LeavesCuts, LeavesFile}
use Rattle.call_ends.specs.LawfulRuns.{RunsLawfully}
use Rattle.utm_cli.specs.Promise.{SaysFile, SaysRefusal, StopsRun, Writes, call}
use Rattle.utm_cli.specs.PromiseTwo.{AttachesTwoBy, CompletesTwo, EndsTwo, ForOwnTrailTwo, ForTwo, ForTwoErrand, ForTwoFiles, ForTwoRefusal, ForTwoStart}
use Rattle.call_parts.specs.LeavingTwo.{FailsTwo, FaultsTwo, FineTwo, FrameTwin, SaidTwo, SameNamesTwo, SaysPartTwo}
use Rattle.utm_cli.specs.PromiseTwo.{MayAttachTwoBy, SaysWhyTwo, StopsTwo, TwinCall}
use Rattle.call_parts.specs.Words.{usage_line}

-- a call over one file ended with this status, and left this room and this device
pub record AnswersOne (c : Call) (r : RoomState) (b : State) (la lb : ℕ → List ℕ → List ℕ → Type 0) (status : ℕ) : Type 0 where
  pub code : IsOneOf (0 ∷ 1 ∷ 2 ∷ 3 ∷ 4 ∷ 5 ∷ 6 ∷ 7 ∷ 8 ∷ []) status
  -- 1: the words are none of the forms. Nothing is done but the usage line
  pub usage : AsksNothing c.words → IsOneOf (1 ∷ 5 ∷ 7 ∷ []) status
  pub usage_only : status ≡ 1 → AsksNothing c.words
  pub usage_said : status ≡ 1 → IsTrue c.device.told → Said usage_line c.device b
  pub usage_part : AsksNothing c.words → SaysPart usage_line c.device b
  pub usage_names : AsksNothing c.words → SameNames c.device b
  -- 2 and 3: the definition and the units, or else the script or the trail, are refused. Nothing is done but the line of the first fault
  pub texts : ForRefusal c (λ why. IsOneOf (status_of why ∷ 6 ∷ 5 ∷ 7 ∷ []) status)
  pub texts_only : IsOneOf (2 ∷ 3 ∷ []) status → SaysRefusal c status b
  pub texts_part : ForRefusal c (λ why. SaysPart (refusal_line why) c.device b)
  pub texts_names : ForRefusal c (λ why. SameNames c.device b)
  -- 4 and 8: the file is refused, for its bytes, for its other texts, or under `update` for what these ask; or under `audit`
  -- an entry of the trail does not hold. Nothing is done but the line that says why, or which entry is the first
  pub file : ForFile c (λ why. IsOneOf (status_of_file why ∷ 6 ∷ 5 ∷ 7 ∷ []) status)
  pub file_only : IsOneOf (4 ∷ 8 ∷ []) status → SaysFile c status b
  pub file_part : ForFile c (λ why. SaysPart (file_line why) c.device b)
  -- 5: a call of the disk or the line failed. At any other status none did: at 7 it is memory alone that ran out
  pub device : status ≡ 5 → CallFailed c.device b
  pub device_told : (status ≡ 5 → ⊥) → SameFaults c.device b
  -- 5 and 7, under `run`: nothing was sent, or the commands before some one were done, and of its own acts some first ones. Of
  -- a RESTART nothing was sent, unless the line failed: its line comes after the file was opened again
  pub stopped : ForRun c (λ e s. IsOneOf (5 ∷ 7 ∷ []) status → StopsRun e s c.device b)
  -- 5, under `run`: the line failed, or the disk before anything was sent, at a commit, or where a RESTART opens the file again
  pub halted : ForRun c (λ e s. status ≡ 5 → HaltsRun e s c.device b)
  -- 6: the room failed, and at any other status it did not; over a sure room a text is not there. Nothing is done
  pub room : status ≡ 6 → Rose c.room.faults r.faults
  pub room_told : (status ≡ 6 → ⊥) → NoReadFailed c.room r
  pub room_sure : status ≡ 6 → IsTrue c.room.sure → Misses c.words c.room
  pub room_said : status ≡ 6 → IsTrue c.device.told → Said [] c.device b
  pub room_names : status ≡ 6 → SameNames c.device b
  pub missing : IsTrue c.room.told → Misses c.words c.room → IsOneOf (6 ∷ 7 ∷ []) status
  pub missing_said : IsTrue c.room.told → IsTrue c.device.told → Misses c.words c.room → Said [] c.device b
  pub missing_names : IsTrue c.room.told → Misses c.words c.room → SameNames c.device b
  -- 0: all was done. The lines of all acts were sent, and the file stands for the tables after them, or is as it was
  pub done : status ≡ 0 → HasDone c b lb
  pub accepted : ForStart c (λ e s. IsOneOf (0 ∷ 6 ∷ 5 ∷ 7 ∷ []) status)
  -- where the words, the texts and the file are accepted and no count of faults rose, all was done or memory ran out
  pub complete : ForStart c (λ e s. Completes status c.room r c.device b)
  -- at a stop since the call, whatever its status, the bytes sent and the file are a cut of the acts. Under `update` they
  -- may be the old tables, as they were made, with nothing sent
  pub cut : ForStartAtRest c la (λ e s. LeavesCuts e s c.device lb)
  -- as the call left them, whatever its status, the bytes sent and the file are such a cut too. The lines are a front of
  -- those of all acts, so those of `gen` are a front of its report
  pub ended : ForStartAtRest c la (λ e s. EndsInCut e s c.device b)
  -- a file that is there keeps its bytes, whatever the status, where the acts commit nothing, as those of `gen`; under
  -- `update` where it is of these texts. Under `show`, `trail`, `audit` and `make` an empty one does too
  pub left : ForStart c (λ e s. IsTrue c.device.told → LeavesFile e s c.device b)
  -- the bytes written, whatever the status: none, or at most those of the making of the file, where it was empty, and those
  -- of the commits that the file has then, and of one that was begun; under `update` those of the new tables. `show`,
  -- `trail`, `audit` and `make` write none
  pub written : Writes c b
  -- every commit of the script is lawful from the tables that a call goes on from, and every cut of it can be gone on from
  -- and is what a serial run of its first commits stores
  pub laws : ForErrand c (λ e. (bytes : List ℕ) (s : Stored) → Starts e bytes s → RunsLawfully (app_of e) (tables_of e s) e.commands)
  -- the text that `trail` has sent is written of bytes alone, as that of a run's own trail is
  pub trailed : ForTrail c (λ e t. status ≡ 0 → HasBytes (app_of e) e.fingerprint t e.commands)
  -- the trail of a run is never refused, and all its entries hold
  pub own_trails : ForOwnTrail c (IsOneOf (0 ∷ 5 ∷ 6 ∷ 7 ∷ []) status)
  -- the file BASE.KDCA, and no other, was attached; none by `audit` and `make`
  pub names : IsTrue c.device.told → SameNames c.device b ⊎ Attaches c.words c.device b
  pub attached : status ≡ 0 → IsTrue c.device.told → Attaches c.words c.device b
  pub frame : Frame c.device b
  pub same_room : SameRoom c.room r
  -- `make` is never refused, whatever the room and the file: its texts are its own, and it looks into no file
  pub make_accepted : (n : ℕ) (operand : List ℕ) → Request c.words (Make n) operand → IsOneOf (0 ∷ 5 ∷ 7 ∷ []) status

-- a call over two disks ended with this status, and left this room and this twin
pub record AnswersTwo (c : TwinCall) (r : RoomState) (b : Both) (la lb : ℕ → List ℕ → List ℕ → List ℕ → Type 0) (status : ℕ) : Type 0 where
  pub code : IsOneOf (0 ∷ 1 ∷ 2 ∷ 3 ∷ 4 ∷ 5 ∷ 6 ∷ 7 ∷ 8 ∷ []) status
  -- one file: all that `utm` promises holds over the first half, and the second half stays as it is
  pub single : IsSingleCall c.words c.room → AnswersOne (call c.words c.room (half_state First c.twin)) r (half_state First b) (half_leaves First la) (half_leaves First lb) status
  pub single_second : IsSingleCall c.words c.room → disk_of Second b ≡ disk_of Second c.twin
  pub usage_only : status ≡ 1 → AsksNothing c.words
  -- 3, over two copies: the script or the trail is refused. Nothing is done but the line of the first fault
  pub texts : ForTwoRefusal c (λ why. IsOneOf (status_of why ∷ 5 ∷ 6 ∷ 7 ∷ []) status × (IsTrue c.twin.told → SaysPartTwo (refusal_line why) c.twin b))
  pub texts_said : ForTwoRefusal c (λ why. IsOneOf (2 ∷ 3 ∷ []) status → (status ≡ status_of why) × (IsTrue c.twin.told → SaidTwo (refusal_line why) c.twin b))
  pub texts_names : ForTwoRefusal c (λ why. SameNamesTwo c.twin b)
  pub texts_only : ForTwoErrand c (λ e. IsOneOf (0 ∷ 4 ∷ 5 ∷ 6 ∷ 7 ∷ 8 ∷ []) status)
  -- 4 and 8: the files are refused, or under `audit` an entry of the trail does not hold. Nothing is done but the line
  pub file : ForTwo c (λ e. (why : FileRefusal) → RefusesTwo e c.twin why → IsOneOf (status_of_file why ∷ 5 ∷ 6 ∷ 7 ∷ []) status × (IsTrue c.twin.told → SaysPartTwo (file_line why) c.twin b))
  pub file_only : ForTwo c (λ e. IsOneOf (4 ∷ 8 ∷ []) status → SaysWhyTwo e status c.twin b)
  -- 0: all was done. Under `gen` and `run` the lines of the copies were sent with those of the acts, each half that is not
  -- lost has the last copy, and whatever files a stop leaves then, the copy that counts has the last tables
  pub done : ForTwo c (λ e. status ≡ 0 → EndsTwo e c.twin b lb)
  pub accepted : ForTwoStart c (λ e t. IsOneOf (0 ∷ 5 ∷ 6 ∷ 7 ∷ []) status)
  -- where the words, the texts and the files are accepted and no count of faults rose, all was done or memory ran out
  pub complete : ForTwoStart c (λ e t. CompletesTwo status c.room r c.twin b)
  -- at a stop since the call, whatever its status: the bytes sent and the copy that counts are a cut of the acts, and where
  -- a byte was sent, so is each half by itself on which no call failed
  pub cut : ForTwoStart c (λ e t. IsTrue c.twin.told → StopsTwo e t c.twin b la lb)
  -- `show`, `trail`, `update` and `audit` leave both files as they are
  pub left : ForTwoErrand c (λ e. IsTrue c.twin.told → (KeepsTwo e.word → ⊥) → SameFiles c.twin b)
  -- from whatever tables a call over two copies goes on, the script keeps the laws, as under `utm`
  pub laws : ForTwoErrand c (λ e. (a : Both) (t : TableRows) → StartsTwo e a t → RunsLawfully (app_of e) t e.commands)
  -- the text that `trail` has sent is written of bytes alone; the trail of a run is never refused, and all its entries hold
  pub trailed : ForTwoStart c (λ e t. IsTrue c.twin.told → status ≡ 0 → LooksBytes e t)
  pub own_trails : ForOwnTrailTwo c (IsOneOf (0 ∷ 5 ∷ 6 ∷ 7 ∷ []) status)
  -- 5: a call of the line failed, or of both halves, or of one half before a byte was sent
  pub device : status ≡ 5 → FaultsTwo c.twin b
  pub device_told : ForTwoErrand c (λ e. IsTrue c.twin.told → status ≡ 5 → FailsTwo c.twin b)
  -- at any other status no fault is told as another answer, whatever the texts ask for, and whatever room and twin tell
  pub device_fine : (status ≡ 5 → ⊥) → FineTwo c.twin b
  -- 6: the room failed, and at any other status it did not; over a sure room a text is not there. Nothing is done
  pub room : status ≡ 6 → Rose c.room.faults r.faults
  pub room_told : (status ≡ 6 → ⊥) → NoReadFailed c.room r
  pub room_sure : status ≡ 6 → IsTrue c.room.sure → Misses c.words c.room
  pub room_said : status ≡ 6 → IsTrue c.twin.told → SaidTwo [] c.twin b
  pub room_names : status ≡ 6 → SameNamesTwo c.twin b
  pub missing : IsTrue c.room.told → Misses c.words c.room → IsOneOf (6 ∷ 7 ∷ []) status
  pub missing_said : IsTrue c.room.told → IsTrue c.twin.told → Misses c.words c.room → SaidTwo [] c.twin b
  pub missing_names : IsTrue c.room.told → Misses c.words c.room → SameNamesTwo c.twin b
  -- of each half no file was attached but its own, BASE.KDCA and BASE.KDCB; none by `update` and `audit`
  pub names : ForTwoFiles c (λ e base. MayAttachTwoBy e.word base c.twin b)
  pub attached : ForTwoFiles c (λ e base. status ≡ 0 → AttachesTwoBy e.word base c.twin b)
  pub frame : FrameTwin c.twin b
  pub same_room : SameRoom c.room r
