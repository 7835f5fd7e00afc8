-- What the words of a call ask of its room.
use Rattle.std.specs.Prelude.{◌≡◌, ◌⊎◌, ℕ, IsTrue, List, None, Some}
use Rattle.kd_device.specs.Room.{RoomState, text_of}
use Rattle.call_parts.specs.declared.words.Word.{Word}
use Rattle.call_parts.specs.declared.words.Word.TheVariants.{Gen, Run, Show, Update, Trail, Audit, Make}
use Rattle.call_parts.specs.Asking.{Reading, ReadsFor, ReadsForTwo}
use Rattle.call_parts.specs.Words.{request_of, definition_name, units_name, script_name, trail_name}

-- the words are this word with this BASE
abbrev pub Request : List (List ℕ) → Word → List ℕ → Type 0
Request words word base = request_of words ≡ Some (word, base)

-- the words ask for something, the texts that it reads are there, and this is what they say
pub record Reads (words : List (List ℕ)) (room : RoomState) (said : Reading) : Type 0 where
  pub word : Word
  pub base : List ℕ
  pub asked : Request words word base
  pub reads : ReadsFor word base room said

-- there is no text of this name
abbrev pub IsMissing : List ℕ → RoomState → Type 0
IsMissing name room = text_of name room.texts ≡ None

-- a text that the word reads is not there
abbrev pub Lacks : Word → List ℕ → RoomState → Type 0
Lacks Gen base room = IsMissing (definition_name base) room ⊎ IsMissing (units_name base) room
Lacks Run base room = IsMissing (definition_name base) room ⊎ IsMissing (units_name base) room ⊎ IsMissing (script_name base) room
Lacks Show base room = IsMissing (definition_name base) room ⊎ IsMissing (units_name base) room
Lacks Update base room = IsMissing (definition_name base) room ⊎ IsMissing (units_name base) room
Lacks Trail base room = IsMissing (definition_name base) room ⊎ IsMissing (units_name base) room ⊎ IsMissing (script_name base) room
Lacks Audit base room = IsMissing (definition_name base) room ⊎ IsMissing (units_name base) room ⊎ IsMissing (trail_name base) room
Lacks (Make n) base room = ⊥

-- the words ask for something, and a text that it reads is not there
pub record Misses (words : List (List ℕ)) (room : RoomState) : Type 0 where
  pub word : Word
  pub base : List ℕ
  pub asked : Request words word base
  pub not_there : Lacks word base room

-- the words are none of the forms
abbrev pub AsksNothing : List (List ℕ) → Type 0
AsksNothing words = request_of words ≡ None

-- the words are `make` with a number
abbrev pub AsksMake : List (List ℕ) → Type 0
AsksMake words = (n : ℕ) × ((operand : List ℕ) × Request words (Make n) operand)

-- the words ask for something over a definition of two copies, the texts that it reads are there, and this is what they say
pub record ReadsTwo (words : List (List ℕ)) (room : RoomState) (said : Reading) : Type 0 where
  pub word : Word
  pub base : List ℕ
  pub asked : Request words word base
  pub reads : ReadsForTwo word base room said

-- the words are none of the forms, or `make`, or the texts are told and do not define two copies
abbrev pub IsSingleCall : List (List ℕ) → RoomState → Type 0
IsSingleCall words room = AsksNothing words ⊎ AsksMake words ⊎ (IsTrue room.told × ((said : Reading) → ReadsTwo words room said → ⊥))
