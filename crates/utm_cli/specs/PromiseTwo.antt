-- The words in which the top call over two disks promises.
use Rattle.std.specs.Prelude.{◌≡◌, ⊤, ◌⊎◌, ℕ, Bool, IsTrue, List, [], ◌∷◌, ◌++◌, take, IsSome, Ok, Err}
use Rattle.kd_device.specs.Device.{Rose}
use Rattle.kd_device.specs.Room.{RoomState}
use Rattle.kd_records.specs.Identity.{Identity}
use Rattle.kd_device.specs.Twin.{Both}
use Rattle.kdcs_types.specs.declared.act.Act.{Act}
use Rattle.kdcs_types.specs.Tables.{TableRows}
use Rattle.abstract_monitor.specs.Trace.{bytes_of}
use Rattle.kdcfile_double.specs.Mended.{BothRest}
use Rattle.refusals.specs.Lines.{file_line}
use Rattle.refusals.specs.Statuses.{IsOneOf, status_of_file}
use Rattle.refusals.specs.declared.error.FileRefusal.{FileRefusal}
use Rattle.refusals.specs.declared.error.Refusal.{Refusal}
use Rattle.call_ends.specs.Stops.{IsStopOfRun, RanTwo}
use Rattle.call_parts.specs.Asking.{Errand}
use Rattle.call_parts.specs.Requests.{Request, ReadsTwo}
use Rattle.utm_cli.specs.Promise.{AuditsOwn}
use Rattle.call_parts.specs.declared.words.Word.{Word}
use Rattle.call_parts.specs.declared.words.Word.TheVariants.{Gen, Run, Show, Update, Trail, Audit, Make}
use Rattle.utm_cli.specs.DoingTwo.{RefusesTwo, StartsTwo, acts_two}
use Rattle.call_parts.specs.Opening.{identity_of_two}
use Rattle.call_parts.specs.LeavingTwo.{SaidTwo, FaultsTwo, MayAttachTwo, AttachesBoth, SameNamesTwo}

-- ---- a call

-- what a call is given: its words, the texts of its room, and its twin with the files
pub record TwinCall : Type 0 where
  pub words : List (List ℕ)
  pub room : RoomState
  pub twin : Both

abbrev pub twin_call : List (List ℕ) → RoomState → Both → TwinCall
twin_call words room twin = record { words = words; room = room; twin = twin }

-- what holds of the errand over two copies that the words and the texts ask for
abbrev pub ForTwoErrand : TwinCall → (Errand → Type 0) → Type 0
ForTwoErrand c P = IsTrue c.room.told → (e : Errand) → ReadsTwo c.words c.room (Ok e) → P e

-- the bytes of both files are told, or the word looks at none of them; `update` refuses all
abbrev pub TellsTwo : Word → (told : Bool) → Type 0
TellsTwo Gen told = IsTrue told
TellsTwo Run told = IsTrue told
TellsTwo Show told = IsTrue told
TellsTwo Update told = ⊤
TellsTwo Trail told = IsTrue told
TellsTwo Audit told = ⊤
TellsTwo (Make n) told = ⊤

-- and where they are told
abbrev pub ForTwo : TwinCall → (Errand → Type 0) → Type 0
ForTwo c P = IsTrue c.room.told → (e : Errand) → ReadsTwo c.words c.room (Ok e) → TellsTwo e.word c.twin.told → P e

-- and of the tables where it starts
abbrev pub ForTwoStart : TwinCall → (Errand → TableRows → Type 0) → Type 0
ForTwoStart c P = IsTrue c.room.told → (e : Errand) (t : TableRows) → ReadsTwo c.words c.room (Ok e) → TellsTwo e.word c.twin.told → StartsTwo e c.twin t → P e t

-- what holds of a call over two copies that audits the trail of a run
abbrev pub ForOwnTrailTwo : TwinCall → Type 0 → Type 0
ForOwnTrailTwo c P = IsTrue c.room.told → AuditsOwn IsSome c.words c.room → P

-- and of the files that the errand has at this BASE
abbrev pub ForTwoFiles : TwinCall → (Errand → List ℕ → Type 0) → Type 0
ForTwoFiles c P = IsTrue c.room.told → IsTrue c.twin.told → (e : Errand) → ReadsTwo c.words c.room (Ok e) → (base : List ℕ) → Request c.words e.word base → P e base

-- what holds of the fault of the third text of a call over two copies
abbrev pub ForTwoRefusal : TwinCall → (Refusal → Type 0) → Type 0
ForTwoRefusal c P = IsTrue c.room.told → (why : Refusal) → ReadsTwo c.words c.room (Err why) → P why

-- ---- a stop

-- both files are as they were, and a front of these bytes was sent
pub record IsFrontOfTwo (bytes : List ℕ) (a : Both) (c d out : List ℕ) : Type 0 where
  pub first_same : c ≡ a.first.holds
  pub second_same : d ≡ a.second.holds
  pub front : (n : ℕ) × (out ≡ a.sent ++ take n bytes)

abbrev pub IsStopBy : Word → Identity → TableRows → List Act → (a b : Both) → (c d out : List ℕ) → Type 0
IsStopBy Gen i t acts a b c d out = IsStopOfRun i t acts a b c d out
IsStopBy Run i t acts a b c d out = IsStopOfRun i t acts a b c d out
IsStopBy Show i t acts a b c d out = IsFrontOfTwo (bytes_of acts) a c d out
IsStopBy Update i t acts a b c d out = IsFrontOfTwo (bytes_of acts) a c d out
IsStopBy Trail i t acts a b c d out = IsFrontOfTwo (bytes_of acts) a c d out
IsStopBy Audit i t acts a b c d out = IsFrontOfTwo (bytes_of acts) a c d out
IsStopBy (Make n) i t acts a b c d out = IsFrontOfTwo (bytes_of acts) a c d out

-- what a stop since the call leaves of both files and of the line, where they were at rest
abbrev pub StopsTwo : Errand → TableRows → (a b : Both) → (la lb : ℕ → List ℕ → List ℕ → List ℕ → Type 0) → Type 0
StopsTwo e t a b la lb = BothRest a la → (c d out : List ℕ) → lb a.moment c d out → IsStopBy e.word (identity_of_two e) t (acts_two e t) a b c d out

-- ---- an end

abbrev pub EndsBy : Word → Identity → TableRows → List Act → (a b : Both) → (lb : ℕ → List ℕ → List ℕ → List ℕ → Type 0) → Type 0
EndsBy Gen i t acts a b lb = RanTwo i t acts a b lb
EndsBy Run i t acts a b lb = RanTwo i t acts a b lb
EndsBy Show i t acts a b lb = SaidTwo (bytes_of acts) a b
EndsBy Update i t acts a b lb = ⊥
EndsBy Trail i t acts a b lb = SaidTwo (bytes_of acts) a b
EndsBy Audit i t acts a b lb = SaidTwo (bytes_of acts) a b
EndsBy (Make n) i t acts a b lb = ⊥

-- all that was asked for was done, from the tables of the copy that counts
abbrev pub EndsTwo : Errand → (a b : Both) → (lb : ℕ → List ℕ → List ℕ → List ℕ → Type 0) → Type 0
EndsTwo e a b lb = (t : TableRows) × StartsTwo e a t × (IsTrue a.told → EndsBy e.word (identity_of_two e) t (acts_two e t) a b lb)

-- ---- faults

-- ---- names

-- the names that a word hands to attach; `update` and `audit` hand on none
abbrev pub AttachesTwoBy : Word → List ℕ → (a b : Both) → Type 0
AttachesTwoBy Gen base a b = AttachesBoth base a b
AttachesTwoBy Run base a b = AttachesBoth base a b
AttachesTwoBy Show base a b = AttachesBoth base a b
AttachesTwoBy Update base a b = SameNamesTwo a b
AttachesTwoBy Trail base a b = AttachesBoth base a b
AttachesTwoBy Audit base a b = SameNamesTwo a b
AttachesTwoBy (Make n) base a b = SameNamesTwo a b

-- of each half that name or none
abbrev pub MayAttachTwoBy : Word → List ℕ → (a b : Both) → Type 0
MayAttachTwoBy Gen base a b = MayAttachTwo base a b
MayAttachTwoBy Run base a b = MayAttachTwo base a b
MayAttachTwoBy Show base a b = MayAttachTwo base a b
MayAttachTwoBy Update base a b = SameNamesTwo a b
MayAttachTwoBy Trail base a b = MayAttachTwo base a b
MayAttachTwoBy Audit base a b = SameNamesTwo a b
MayAttachTwoBy (Make n) base a b = SameNamesTwo a b

-- ---- a refusal

-- two files are refused, or the trail does not hold, and this is the status; the line that says why was sent
abbrev pub SaysWhyTwo : Errand → (code : ℕ) → (a b : Both) → Type 0
SaysWhyTwo e code a b = (why : FileRefusal) × RefusesTwo e a why × (code ≡ status_of_file why) × (IsTrue a.told → SaidTwo (file_line why) a b)

-- where no call of the twin failed and no read did, or the room is sure, all was done or memory ran out
abbrev pub CompletesTwo : (code : ℕ) → (r s : RoomState) → (a b : Both) → Type 0
CompletesTwo code r s a b =
    (FaultsTwo a b → ⊥) → (Rose r.faults s.faults → ⊥) ⊎ IsTrue r.sure → IsOneOf (0 ∷ 7 ∷ []) code
