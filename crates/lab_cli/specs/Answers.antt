-- What the top call promises.
use Rattle.std.specs.Prelude.{◌≡◌, ⊤, ℕ, Bool, true, false, IsTrue, List, [], ◌∷◌, codes, Option, Some, None, Result, Ok, Err}
use Rattle.kd_device.specs.Device.{Rose}
use Rattle.kd_device.specs.Room.{RoomState, SameRoom}
use Rattle.refusals.specs.Statuses.{IsOneOf}
use Rattle.refusals.specs.Texts.{NoReadFailed}
use Rattle.refusals.specs.declared.status.Status.{Status}
use Rattle.lab_turns.specs.Consoles.{Passed, printed}
use Rattle.lab_cli.specs.Doing.{Does}
use Rattle.lab_cli.specs.Checking.{IsChecked}
use Rattle.lab_cli.specs.Places.{AreRead, IsPlaceOf, MissesText}
use Rattle.lab_cli.specs.Stops.{IsCauseAt, MissesAt, StopsAt, stop_line, stop_status}
use Rattle.lab_cli.specs.Words.{request_of}
use Rattle.lab_cli.specs.declared.reading.Place.{Place}
use Rattle.lab_cli.specs.declared.stop.Stop.{Stop}
use Rattle.lab_cli.specs.declared.stop.Stop.TheVariants as stop
use Rattle.lab_cli.specs.declared.words.Word.{Word}
use Rattle.lab_cli.specs.declared.words.Word.TheVariants.{Check, Trace, Talk, Explore, Test}

-- status 1
abbrev pub lab_usage_line : List ℕ
lab_usage_line = codes "USAGE: lab check BASE, trace BASE, talk BASE, explore BASE N [NUMBER], test BASE\n"

-- `talk` reads no script
abbrev pub reads_script : Word → Bool
reads_script Check = true
reads_script Trace = true
reads_script Talk = false
reads_script (Explore most number) = true
reads_script Test = true

-- the words are none of the forms: nothing was done but the usage line printed
pub record EndsUsage {C : Type 0} (passes : C → List Passed → C → Type 0) (r r' : RoomState) (a b : C) (status : ℕ) : Type 0 where
  pub code : IsOneOf (1 ∷ 5 ∷ []) status
  pub said : status ≡ 1 → passes a (printed lab_usage_line) b
  pub room : r' ≡ r

-- the definition and the units of a BASE were checked, with this status
abbrev pub ChecksTexts : (base : List ℕ) → List (List ℕ × List ℕ) → (status : ℕ) → Type 0
ChecksTexts base texts status = (definition units : List ℕ) × AreRead false base texts definition units [] × IsChecked definition units status

-- `check` of a BASE
pub record EndsCheck {C : Type 0} (base : List ℕ) (r r' : RoomState) (a b : C) (status : ℕ) : Type 0 where
  pub code : IsOneOf (0 ∷ 2 ∷ 3 ∷ 5 ∷ 6 ∷ 7 ∷ []) status
  -- 2: the definition and the units have a fault; 0 and 3: they make an application
  pub checked : IsOneOf (0 ∷ 2 ∷ 3 ∷ []) status → IsTrue r.told → ChecksTexts base r.texts status
  -- 6: one of them could not be read, which in a sure room is missing. Nothing was printed
  pub unread : status ≡ 6 → Rose r.faults r'.faults × (b ≡ a)
  pub sure : status ≡ 6 → IsTrue r.sure → MissesText false base r.texts

-- a word over the place of a BASE
pub record EndsWord {C : Type 0} (passes : C → List Passed → C → Type 0) (prompted : Bool) (word : Word) (base : List ℕ) (r r' : RoomState) (a b : C) (status : ℕ) : Type 0 where
  pub code : IsOneOf (0 ∷ 1 ∷ 2 ∷ 3 ∷ 4 ∷ 5 ∷ 6 ∷ 7 ∷ []) status
  -- 0 and 1: what the word asks for was done from the place of the BASE, and this is what it came to
  pub done : IsOneOf (0 ∷ 1 ∷ []) status → (p : Place) × (IsTrue r.told → IsPlaceOf (reads_script word) base r.texts p) × Does passes prompted word p a b status
  -- 2, 3 and 4: the texts or the files are refused for this cause. Nothing was done but its line printed
  pub refused : IsOneOf (2 ∷ 3 ∷ 4 ∷ []) status → (why : Stop) × (status ≡ stop_status why) × passes a (printed (stop_line why)) b × (IsTrue r.told → IsCauseAt (reads_script word) base r.texts why)
  -- 6: a text or a file could not be read, which in a sure room is missing; and at any other status no read failed. Nothing was printed
  pub unread : status ≡ 6 → Rose r.faults r'.faults × (b ≡ a)
  pub sure : status ≡ 6 → IsTrue r.sure → MissesAt (reads_script word) base r.texts
  pub fine : (status ≡ 6 → ⊥) → NoReadFailed r r'

abbrev pub EndsBy : {C : Type 0} → (passes : C → List Passed → C → Type 0) → (prompted : Bool) → Word → (base : List ℕ) → (r r' : RoomState) → (a b : C) → (status : ℕ) → Type 0
EndsBy passes prompted Check base r r' a b status = EndsCheck base r r' a b status
EndsBy passes prompted Trace base r r' a b status = EndsWord passes prompted Trace base r r' a b status
EndsBy passes prompted Talk base r r' a b status = EndsWord passes prompted Talk base r r' a b status
EndsBy passes prompted (Explore most number) base r r' a b status = EndsWord passes prompted (Explore most number) base r r' a b status
EndsBy passes prompted Test base r r' a b status = EndsWord passes prompted Test base r r' a b status

abbrev pub Ends : {C : Type 0} → (passes : C → List Passed → C → Type 0) → (prompted : Bool) → Option (Word × List ℕ) → (r r' : RoomState) → (a b : C) → (status : ℕ) → Type 0
Ends passes prompted None r r' a b status = EndsUsage passes r r' a b status
Ends passes prompted (Some request) r r' a b status = EndsBy passes prompted request.0 request.1 r r' a b status

-- a call with these words ended with this status, and left this room and this console
pub record AnswersLab {C : Type 0} (passes : C → List Passed → C → Type 0) (prompted : Bool) (words : List (List ℕ)) (r r' : RoomState) (a b : C) (status : ℕ) : Type 0 where
  pub ends : Ends passes prompted (request_of words) r r' a b status
  pub same_room : SameRoom r r'

-- ---- before its refusal is said

-- nothing was printed where a call is refused, or something could not be read
abbrev pub IsUntouched : {C : Type 0} → Stop → (a b : C) → Type 0
IsUntouched (stop.Texts why) a b = b ≡ a
IsUntouched stop.NotKdcfile a b = b ≡ a
IsUntouched (stop.OtherGeneration stored) a b = b ≡ a
IsUntouched stop.Spent a b = b ≡ a
IsUntouched stop.Room a b = b ≡ a
IsUntouched stop.Output a b = ⊤
IsUntouched stop.Memory a b = ⊤

-- what `check` came to
abbrev pub CheckCame : {C : Type 0} → (base : List ℕ) → (r r' : RoomState) → (a b : C) → Result Status Stop → Type 0
CheckCame base r r' a b (Ok status) = IsOneOf (0 ∷ 2 ∷ 3 ∷ []) status.code × (IsTrue r.told → ChecksTexts base r.texts status.code)
CheckCame base r r' a b (Err (stop.Texts why)) = ⊥
CheckCame base r r' a b (Err stop.NotKdcfile) = ⊥
CheckCame base r r' a b (Err (stop.OtherGeneration stored)) = ⊥
CheckCame base r r' a b (Err stop.Spent) = ⊥
CheckCame base r r' a b (Err stop.Room) = (b ≡ a) × Rose r.faults r'.faults × (IsTrue r.sure → MissesText false base r.texts)
CheckCame base r r' a b (Err stop.Output) = ⊤
CheckCame base r r' a b (Err stop.Memory) = ⊤

-- what a word over a place came to
abbrev pub WordCame : {C : Type 0} → (passes : C → List Passed → C → Type 0) → (prompted : Bool) → Word → (base : List ℕ) → (r r' : RoomState) → (a b : C) → Result Status Stop → Type 0
WordCame passes prompted word base r r' a b (Ok status) = NoReadFailed r r' × ((p : Place) × (IsTrue r.told → IsPlaceOf (reads_script word) base r.texts p) × Does passes prompted word p a b status.code)
WordCame passes prompted word base r r' a b (Err why) = StopsAt (reads_script word) base r r' why × IsUntouched why a b

abbrev pub Came : {C : Type 0} → (passes : C → List Passed → C → Type 0) → (prompted : Bool) → Word → (base : List ℕ) → (r r' : RoomState) → (a b : C) → Result Status Stop → Type 0
Came passes prompted Check base r r' a b done = CheckCame base r r' a b done
Came passes prompted Trace base r r' a b done = WordCame passes prompted Trace base r r' a b done
Came passes prompted Talk base r r' a b done = WordCame passes prompted Talk base r r' a b done
Came passes prompted (Explore most number) base r r' a b done = WordCame passes prompted (Explore most number) base r r' a b done
Came passes prompted Test base r r' a b done = WordCame passes prompted Test base r r' a b done
