-- The words in which the top call promises over two disks.
use Rattle.std.specs.Prelude.{◌≡◌, ◌⊎◌, IsTrue, List, ℕ, Some, Ok}
use Rattle.kd_device.specs.Room.{RoomState}
use Rattle.kd_device.specs.Twin.{Both}
use Rattle.call_parts.specs.Asking.{Errand, Reading, ReadsForTwo}
use Rattle.call_parts.specs.Words.{live_base_of}
use Rattle.call_parts.specs.declared.words.Word.TheVariants.{Gen}
use Rattle.live_run.specs.Typing.{TypingState}
use Rattle.live_cli.specs.Promise.{IsNoBase}

-- what a call is given: its words, the texts of its room, its twin with the files, and its input
pub record LiveTwinCall : Type 0 where
  pub words : List (List ℕ)
  pub room : RoomState
  pub twin : Both
  pub typing : TypingState

abbrev pub live_twin_call : List (List ℕ) → RoomState → Both → TypingState → LiveTwinCall
live_twin_call words room twin typing = record { words = words; room = room; twin = twin; typing = typing }

-- the words are this BASE, its definition and its units are there and ask for two copies, and this is what they say
pub record LiveReadsTwo (words : List (List ℕ)) (room : RoomState) (said : Reading) : Type 0 where
  pub base : List ℕ
  pub asked : live_base_of words ≡ Some base
  pub reads : ReadsForTwo Gen base room said

-- the words are not one BASE with its option, or the texts are told and do not define two copies
abbrev pub IsSingleLive : List (List ℕ) → RoomState → Type 0
IsSingleLive words room = IsNoBase words ⊎ (IsTrue room.told × ((said : Reading) → LiveReadsTwo words room said → ⊥))

-- what holds of the application of two copies that the texts make
abbrev pub ForLiveTwo : LiveTwinCall → (Errand → Type 0) → Type 0
ForLiveTwo c P = IsTrue c.room.told → (e : Errand) → LiveReadsTwo c.words c.room (Ok e) → P e
