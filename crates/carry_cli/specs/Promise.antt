-- What the top call promises.
use Rattle.std.specs.Prelude.{◌≡◌, ◌⊎◌, ◌∷◌, ◌++◌, ℕ, true, IsTrue, List, [], None, Some, Ok, Err, take}
use Rattle.kd_device.specs.Device.{Rose}
use Rattle.kd_device.specs.Room.{RoomState, SameRoom}
use Rattle.kd_device.specs.Twin.{Both}
use Rattle.kdcfile_double.specs.Opening.{SameFiles}
use Rattle.kdcfile_double.specs.Twice.{NoneRose}
use Rattle.kdcfile_double.specs.Mended.{BothRest}
use Rattle.kdcfile_carry.specs.Files.{AreFiles, Files}
use Rattle.kdcfile_carry.specs.Ways.{IsTaken}
use Rattle.refusals.specs.Lines.{refusal_line}
use Rattle.refusals.specs.Statuses.{IsOneOf}
use Rattle.refusals.specs.declared.error.Refusal.{Refusal}
use Rattle.call_parts.specs.Asking.{AreThere, Errand, Reading, ReadsFor, ReadsForTwo}
use Rattle.call_parts.specs.declared.words.Word.TheVariants.{Update}
use Rattle.call_parts.specs.LeavingTwo.{FaultsTwo, FrameTwin, MayAttachTwo, SaidTwo}
use Rattle.carry_cli.specs.Carrying.{IsDone, IsStopOfCarry, generation_of}
use Rattle.carry_cli.specs.Kinds.{IsStateOf}
use Rattle.carry_cli.specs.Lines.{state_lines}
use Rattle.carry_cli.specs.Telling.{answer_status, answer_text}
use Rattle.carry_cli.specs.Words.{carry_of, carry_usage_line, state_of}
use Rattle.carry_cli.specs.Writing.{CarryWrites, CarryWritesFor}
use Rattle.carry_cli.specs.declared.answer.Answer.{Answer}
use Rattle.carry_cli.specs.declared.kinds.State.{State}
use Rattle.carry_cli.specs.declared.kinds.There.{There}
use Rattle.carry_cli.specs.declared.words.Options.{Options}

-- these bytes are the lines that tell what the files of a BASE are
abbrev pub AreLinesOf : (base : List ℕ) → RoomState → There → (a b : List ℕ) → (lines : List ℕ) → Type 0
AreLinesOf base room there a b lines = (s : State) × IsStateOf s base room there a b × (lines ≡ state_lines s)

-- what was sent is nothing, or a front of the lines that tell what the files of a BASE are
abbrev pub SaysPartOf : (base : List ℕ) → RoomState → There → (a b : Both) → Type 0
SaysPartOf base room there a b = (b.sent ≡ a.sent) ⊎ ((lines : List ℕ) × AreLinesOf base room there a.first.holds a.second.holds lines × ((n : ℕ) × (b.sent ≡ a.sent ++ take n lines)))

-- the lines that tell what the files of a BASE are were sent
abbrev pub SaysState : (base : List ℕ) → RoomState → There → (a b : Both) → Type 0
SaysState base room there a b = (lines : List ℕ) × AreLinesOf base room there a.first.holds a.second.holds lines × SaidTwo lines a b

-- `state` of a BASE ended with this status
pub record EndsState (base : List ℕ) (room : RoomState) (there : There) (a b : Both) (status : ℕ) : Type 0 where
  pub code : IsOneOf (0 ∷ 5 ∷ 7 ∷ []) status
  -- 0: all was told. The texts may be missing or refused, which is told too
  pub done : status ≡ 0 → IsTrue room.told → IsTrue a.told → SaysState base room there a b
  -- whatever the status, no byte of a file was written, and what was sent is a front of the lines
  pub files : IsTrue a.told → SameFiles a b
  pub part : IsTrue room.told → IsTrue a.told → SaysPartOf base room there a b
  -- 5: a call of a disk or of the line failed, and at any other status none did
  pub device : status ≡ 5 → FaultsTwo a b
  pub fine : (status ≡ 5 → ⊥) → NoneRose a b
  -- the files BASE.KDCA and BASE.KDCB, and no others, were attached
  pub names : IsTrue a.told → MayAttachTwo base a b
  pub frame : FrameTwin a b

-- the words are none of the forms, and nothing was done but the usage line sent
pub record EndsUsage (a b : Both) (status : ℕ) : Type 0 where
  pub code : IsOneOf (1 ∷ 5 ∷ 7 ∷ []) status
  pub said : status ≡ 1 → IsTrue a.told → SaidTwo carry_usage_line a b
  pub files : IsTrue a.told → SameFiles a b
  pub device : status ≡ 5 → Rose a.line_faults b.line_faults
  pub fine : (status ≡ 5 → ⊥) → NoneRose a b
  pub frame : FrameTwin a b

-- ---- the files of a BASE are carried

-- the definition and the units are there, and ask for this, be it over one file or over two
abbrev pub AsksToCarry : (base : List ℕ) → RoomState → Errand → Type 0
AsksToCarry base room e = ReadsFor Update base room (Ok e) ⊎ ReadsForTwo Update base room (Ok e)

-- they are there and are refused
pub record RefusesTexts (base : List ℕ) (room : RoomState) (why : Refusal) : Type 0 where
  pub one : ReadsFor Update base room (Err why)
  pub none : (said : Reading) → ReadsForTwo Update base room said → ⊥

-- a text could not be read, or memory ran out before: nothing was done
pub record IsIdle (status : ℕ) (a b : Both) : Type 0 where
  pub code : IsOneOf (6 ∷ 7 ∷ []) status
  pub same : b ≡ a

-- the files of a BASE were to be carried to an application, and the call ended with this status
pub record EndsOver (e : Errand) (base : List ℕ) (o : Options) (a b : Both) (la lb : ℕ → List ℕ → List ℕ → List ℕ → Type 0) (status : ℕ) : Type 0 where
  pub code : IsOneOf (0 ∷ 4 ∷ 5 ∷ 7 ∷ 10 ∷ []) status
  -- 0: it was carried, or tried, or nothing was to be done; 10: rows would go that may not; 4: why it was not done. The lines were sent
  pub done : IsOneOf (0 ∷ 4 ∷ 10 ∷ []) status → IsTrue a.told → (x : Answer) × IsDone e o x a b lb × (status ≡ answer_status x) × (b.sent ≡ a.sent ++ answer_text (generation_of e) x)
  -- a stop at any moment leaves the old files, or the carried ones, and nothing was sent before these stand but why they do not
  pub any_moment : IsTrue a.told → BothRest a la → (f : Files) → AreFiles f a.first.holds a.second.holds → (c d out : List ℕ) → lb a.moment c d out → IsStopOfCarry e o f a c d out
  -- files that are refused stay as they are, whatever the status, and so do all where it is only tried
  pub still : IsTrue a.told → ((f : Files) → AreFiles f a.first.holds a.second.holds → IsTaken (generation_of e) e.fingerprint f → ⊥) → SameFiles a b
  pub tried : IsTrue a.told → o.only_tries ≡ true → SameFiles a b
  -- no more is written than that, whatever the status
  pub written : IsTrue a.told → CarryWrites e o a b
  -- 5: a call of a disk or of the line failed
  pub device : status ≡ 5 → FaultsTwo a b
  -- the files BASE.KDCA and BASE.KDCB, and no others, were attached
  pub names : IsTrue a.told → MayAttachTwo base a b
  pub frame : FrameTwin a b

-- a call that carries the files of a BASE ended with this status
pub record EndsCarry (base : List ℕ) (o : Options) (room room' : RoomState) (a b : Both) (la lb : ℕ → List ℕ → List ℕ → List ℕ → Type 0) (status : ℕ) : Type 0 where
  pub code : IsOneOf (0 ∷ 2 ∷ 4 ∷ 5 ∷ 6 ∷ 7 ∷ 10 ∷ []) status
  pub carries : IsTrue room.told → (e : Errand) → AsksToCarry base room e → IsIdle status a b ⊎ EndsOver e base o a b la lb status
  -- 0, 4 and 10 come over an application alone; 2 comes where the texts are refused, which was said
  pub asked : IsOneOf (0 ∷ 4 ∷ 10 ∷ []) status → IsTrue room.told → (e : Errand) × AsksToCarry base room e
  pub refused : status ≡ 2 → IsTrue room.told → (why : Refusal) × RefusesTexts base room why × (IsTrue a.told → SaidTwo (refusal_line why) a b)
  -- 6: a read of a text failed; never where the texts are there and the room is sure
  pub unread : status ≡ 6 → Rose room.faults room'.faults × (b ≡ a)
  pub sure : status ≡ 6 → IsTrue room.sure → (d u s : List ℕ) → AreThere Update base room d u s → ⊥
  -- no byte is written where it is only tried, and else no more than that, whatever the status
  pub tried : IsTrue a.told → o.only_tries ≡ true → SameFiles a b
  pub written : IsTrue a.told → CarryWritesFor (λ e. AsksToCarry base room e) room o a b
  pub device : status ≡ 5 → FaultsTwo a b
  pub names : IsTrue a.told → MayAttachTwo base a b
  pub frame : FrameTwin a b

-- a call with these words ended with this status, and left this room and these files
pub record AnswersCarry (words : List (List ℕ)) (room room' : RoomState) (there : There) (a b : Both) (la lb : ℕ → List ℕ → List ℕ → List ℕ → Type 0) (status : ℕ) : Type 0 where
  pub usage : state_of words ≡ None → carry_of words ≡ None → EndsUsage a b status
  pub state : (base : List ℕ) → state_of words ≡ Some base → EndsState base room there a b status
  pub carries : (base : List ℕ) (o : Options) → state_of words ≡ None → carry_of words ≡ Some (base, o) → EndsCarry base o room room' a b la lb status
  pub same_room : SameRoom room room'
