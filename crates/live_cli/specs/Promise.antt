-- The words in which the top call promises.
use Rattle.std.specs.Prelude.{◌≡◌, ◌∷◌, ℕ, IsTrue, List, [], None, Some, Ok, Err}
use Rattle.kd_device.specs.Device.{State}
use Rattle.kd_device.specs.Room.{RoomState}
use Rattle.refusals.specs.Statuses.{IsOneOf}
use Rattle.refusals.specs.declared.error.Refusal.{Refusal}
use Rattle.call_parts.specs.Asking.{Errand, Reading, ReadsFor}
use Rattle.call_parts.specs.Requests.{Lacks}
use Rattle.call_parts.specs.Words.{live_base_of}
use Rattle.call_parts.specs.declared.words.Word.TheVariants.{Gen}
use Rattle.live_run.specs.Typing.{TypingState}

-- what a call over one file is given: its words, the texts of its room, its device with the file, and its input
pub record LiveCall : Type 0 where
  pub words : List (List ℕ)
  pub room : RoomState
  pub device : State
  pub typing : TypingState

abbrev pub live_call : List (List ℕ) → RoomState → State → TypingState → LiveCall
live_call words room device typing = record { words = words; room = room; device = device; typing = typing }

-- the words are not one BASE with its option
abbrev pub IsNoBase : List (List ℕ) → Type 0
IsNoBase words = live_base_of words ≡ None

-- the words are this BASE, its definition and its units are there, and this is what they say: what `gen` reads
pub record LiveReads (words : List (List ℕ)) (room : RoomState) (said : Reading) : Type 0 where
  pub base : List ℕ
  pub asked : live_base_of words ≡ Some base
  pub reads : ReadsFor Gen base room said

-- the words are a BASE, and its definition or its units are not there
pub record LiveMisses (words : List (List ℕ)) (room : RoomState) : Type 0 where
  pub base : List ℕ
  pub asked : live_base_of words ≡ Some base
  pub not_there : Lacks Gen base room

-- what holds of the application that the texts make
abbrev pub ForLive : LiveCall → (Errand → Type 0) → Type 0
ForLive c P = IsTrue c.room.told → (e : Errand) → LiveReads c.words c.room (Ok e) → P e

-- what holds of the fault for which the texts are refused
abbrev pub ForLiveRefusal : LiveCall → (Refusal → Type 0) → Type 0
ForLiveRefusal c P = IsTrue c.room.told → (why : Refusal) → LiveReads c.words c.room (Err why) → P why

-- a text could not be read, or memory ran out before; nothing was done, and no line was read
pub record IsIdle {D : Type 0} (status : ℕ) (a b : D) (i j : TypingState) : Type 0 where
  pub code : IsOneOf (6 ∷ 7 ∷ []) status
  pub device : b ≡ a
  pub typing : j ≡ i

-- the texts make an application of one KDCFILE
abbrev pub LiveAccepts : LiveCall → Type 0
LiveAccepts c = (e : Errand) × LiveReads c.words c.room (Ok e)
