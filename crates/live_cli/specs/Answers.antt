-- What the top call promises.
use Rattle.std.specs.Prelude.{◌≡◌, ◌⊎◌, ◌∷◌, ℕ, IsTrue, List, [], Some, Err}
use Rattle.kd_device.specs.Device.{Frame, Rose, SameFaults, State}
use Rattle.kd_device.specs.Room.{RoomState, SameRoom}
use Rattle.refusals.specs.Lines.{refusal_line}
use Rattle.refusals.specs.Statuses.{IsOneOf, status_of}
use Rattle.refusals.specs.Texts.{NoReadFailed}
use Rattle.refusals.specs.declared.error.Refusal.{Refusal}
use Rattle.call_parts.specs.Beside.{SendsRefusal}
use Rattle.call_parts.specs.Leaving.{MayAttach}
use Rattle.call_parts.specs.Words.{live_base_of, file_name, live_usage_line}
use Rattle.live_run.specs.Typing.{SameTyping, TypingState}
use Rattle.live_cli.specs.Ends.{EndsLive, FailedLive}
use Rattle.live_cli.specs.Promise.{ForLive, ForLiveRefusal, IsIdle, IsNoBase, LiveAccepts, LiveCall, LiveMisses, LiveReads}

-- a call over one file ended with this status, and left this room, this input and this device
pub record AnswersLive (c : LiveCall) (r : RoomState) (j : TypingState) (b : State) (la lb : ℕ → List ℕ → List ℕ → Type 0) (status : ℕ) : Type 0 where
  pub code : IsOneOf (0 ∷ 1 ∷ 2 ∷ 4 ∷ 5 ∷ 6 ∷ 7 ∷ []) status
  -- 1: the words are not one BASE with its option. Nothing is done but the usage line
  pub usage : IsNoBase c.words → SendsRefusal 1 live_usage_line c.device b status
  pub usage_only : status ≡ 1 → IsNoBase c.words
  -- 2: the definition and the units are refused. Nothing is done but the line of the first fault, as that of `gen`
  pub texts : ForLiveRefusal c (λ why. IsIdle status c.device b c.typing j ⊎ SendsRefusal (status_of why) (refusal_line why) c.device b status)
  pub texts_only : status ≡ 2 → IsTrue c.room.told → (why : Refusal) × LiveReads c.words c.room (Err why)
  -- the texts are accepted: 4 where the file is refused, and otherwise the lines that are typed, to the end of the input with 0
  pub session : ForLive c (λ e. (base : List ℕ) → live_base_of c.words ≡ Some base → IsIdle status c.device b c.typing j ⊎ EndsLive e base c.typing j c.device b la lb status)
  pub session_only : IsOneOf (0 ∷ 4 ∷ []) status → IsTrue c.room.told → LiveAccepts c
  -- 5: a call of the disk, the line or the input failed; at any other status none did
  pub device : status ≡ 5 → FailedLive c.device b c.typing j
  pub device_told : (status ≡ 5 → ⊥) → SameFaults c.device b × (j.faults ≡ c.typing.faults)
  -- 6: the room failed, and at any other status it did not; over a sure room a text is not there. Nothing is done
  pub room : status ≡ 6 → Rose c.room.faults r.faults
  pub room_told : (status ≡ 6 → ⊥) → NoReadFailed c.room r
  pub room_sure : status ≡ 6 → IsTrue c.room.sure → LiveMisses c.words c.room
  pub room_idle : status ≡ 6 → IsIdle status c.device b c.typing j
  pub missing : IsTrue c.room.told → LiveMisses c.words c.room → IsIdle status c.device b c.typing j
  -- the file BASE.KDCA, and no other, was attached
  pub names : IsTrue c.device.told → (base : List ℕ) → live_base_of c.words ≡ Some base → MayAttach (file_name base) c.device b
  pub frame : Frame c.device b
  pub same_room : SameRoom c.room r
  pub same_typing : SameTyping c.typing j
