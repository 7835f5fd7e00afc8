-- What the top call promises over two disks.
use Rattle.std.specs.Prelude.{◌≡◌, ◌⊎◌, ◌∷◌, ℕ, IsTrue, List, [], Some}
use Rattle.kd_device.specs.Device.{Rose}
use Rattle.kd_device.specs.Room.{RoomState, SameRoom}
use Rattle.kd_device.specs.Twin.{Both, disk_of, half_leaves, half_state}
use Rattle.kd_device.specs.declared.half.Half.TheVariants.{First, Second}
use Rattle.refusals.specs.Statuses.{IsOneOf}
use Rattle.refusals.specs.Texts.{NoReadFailed}
use Rattle.call_parts.specs.LeavingTwo.{FaultsTwo, FineTwo, FrameTwin, MayAttachTwo}
use Rattle.call_parts.specs.Words.{live_base_of, takes_alone}
use Rattle.live_run.specs.Typing.{SameTyping, TypingState}
use Rattle.live_cli.specs.Answers.{AnswersLive}
use Rattle.live_cli.specs.EndsTwo.{EndsLiveTwo}
use Rattle.live_cli.specs.Promise.{IsIdle, IsNoBase, LiveMisses, live_call}
use Rattle.live_cli.specs.PromiseTwo.{ForLiveTwo, IsSingleLive, LiveTwinCall}

-- a call over two disks ended with this status, and left this room, this input and this twin
pub record AnswersLiveTwo (c : LiveTwinCall) (r : RoomState) (j : TypingState) (b : Both) (la lb : ℕ → List ℕ → List ℕ → List ℕ → Type 0) (status : ℕ) : Type 0 where
  pub code : IsOneOf (0 ∷ 1 ∷ 2 ∷ 4 ∷ 5 ∷ 6 ∷ 7 ∷ []) status
  -- one file: all that is promised of it holds over the first half, and the second half stays as it is
  pub single : IsSingleLive c.words c.room → AnswersLive (live_call c.words c.room (half_state First c.twin) c.typing) r j (half_state First b) (half_leaves First la) (half_leaves First lb) status
  pub single_second : IsSingleLive c.words c.room → disk_of Second b ≡ disk_of Second c.twin
  pub usage_only : status ≡ 1 → IsNoBase c.words
  -- two copies: 4 where a file is missing and `--alone` is not said, or where the files are refused, and otherwise the lines that are typed, to the end of the input with 0
  pub texts_only : ForLiveTwo c (λ e. IsOneOf (0 ∷ 4 ∷ 5 ∷ 6 ∷ 7 ∷ []) status)
  pub session : ForLiveTwo c (λ e. (base : List ℕ) → live_base_of c.words ≡ Some base → IsIdle status c.twin b c.typing j ⊎ EndsLiveTwo e base (takes_alone c.words) c.typing j c.twin b la lb status)
  -- 5: the input failed, or a call of the line or of a half; at any other status no fault is told as another answer, whatever
  -- the texts ask for
  pub device : status ≡ 5 → FaultsTwo c.twin b ⊎ Rose c.typing.faults j.faults
  pub device_fine : (status ≡ 5 → ⊥) → FineTwo c.twin b × (j.faults ≡ c.typing.faults)
  -- 6: the room failed, and at any other status it did not; over a sure room a text is not there. Nothing is done
  pub room : status ≡ 6 → Rose c.room.faults r.faults
  pub room_told : (status ≡ 6 → ⊥) → NoReadFailed c.room r
  pub room_sure : status ≡ 6 → IsTrue c.room.sure → LiveMisses c.words c.room
  pub room_idle : status ≡ 6 → IsIdle status c.twin b c.typing j
  pub missing : IsTrue c.room.told → LiveMisses c.words c.room → IsIdle status c.twin b c.typing j
  -- of each half no file was attached but its own, BASE.KDCA and BASE.KDCB
  pub names : IsTrue c.twin.told → (base : List ℕ) → live_base_of c.words ≡ Some base → MayAttachTwo base c.twin b
  pub frame : FrameTwin c.twin b
  pub same_room : SameRoom c.room r
  pub same_typing : SameTyping c.typing j
