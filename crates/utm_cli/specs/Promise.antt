-- The words in which the top call promises.
use Rattle.std.specs.Prelude.{◌≡◌, ⊤, ◌⊎◌, ◌≤◌, ℕ, ◌+◌, Bool, true, IsTrue, List, [], ◌∷◌, ◌++◌, take, Option, None, Ok, Err}
use Rattle.kd_device.specs.Device.{State, Rose, LeavesOnly, Only}
use Rattle.kd_device.specs.Room.{RoomState}
use Rattle.kd_records.specs.Identity.{Identity}
use Rattle.kdcs_types.specs.Tables.{TableRows}
use Rattle.kdcs_types.specs.declared.act.Act.{Act}
use Rattle.abstract_monitor.specs.State.{Application}
use Rattle.abstract_monitor.specs.declared.command.Command.{Command}
use Rattle.abstract_monitor.specs.Commands.{started}
use Rattle.abstract_monitor.specs.Trace.{tables_after, bytes_of}
use Rattle.device_acts.specs.Opening.{opening_most}
use Rattle.device_acts.specs.Stands.{StandsForTables}
use Rattle.device_acts.specs.Acting.{commits_nothing, HaltsAt, WritesBegun, WritesUpTo}
use Rattle.device_acts.specs.Said.{SameDisk, Said, SaidPart}
use Rattle.device_run.specs.Running.{IsCutSince, StoppedIn, commits_most}
use Rattle.monitor_core.specs.CoreValue.{CoreValue}
use Rattle.application_read.specs.declared.application.Application.{Application as Made}
use Rattle.application_read.specs.Texts.{TextsGenerate}
use Rattle.laws_of_runs.specs.Applied.{applied}
use Rattle.device_acts.specs.Fingerprints.{fingerprint as print_of}
use Rattle.trail_run.specs.OwnAudits.{IsOwnTrail}
use Rattle.refusals.specs.declared.error.Refusal.{Refusal}
use Rattle.refusals.specs.declared.error.FileRefusal.{FileRefusal}
use Rattle.refusals.specs.Lines.{refusal_line, file_line}
use Rattle.refusals.specs.Statuses.{IsOneOf, status_of, status_of_file}
use Rattle.call_parts.specs.declared.words.Word.{Word}
use Rattle.call_parts.specs.declared.words.Word.TheVariants.{Gen, Run, Show, Update, Trail, Audit, Make}
use Rattle.call_parts.specs.Words.{file_name}
use Rattle.call_parts.specs.Asking.{Errand, AreThere, app_of}
use Rattle.kdcfile_update.specs.Updating.{Stored, update_most}
use Rattle.utm_cli.specs.Doing.{Starts, Refuses, tables_of, acts_of}
use Rattle.call_parts.specs.Opening.{identity_of}
use Rattle.call_parts.specs.Requests.{Request, Reads, AsksMake}
use Rattle.call_parts.specs.Leaving.{LeavesUnmade}

-- all acts were done over the store: their lines were sent, the file stands for the tables after them, and a stop leaves just it
pub record RanOver (i : Identity) (acts : List Act) (t : TableRows) (a b : State) (lb : ℕ → List ℕ → List ℕ → Type 0) : Type 0 where
  pub sent : b.sent ≡ a.sent ++ bytes_of acts
  pub holds : StandsForTables i (tables_after t acts) b.holds
  pub at_rest : Only b.holds b lb

-- all acts were done: `gen`, `run` and `update` over the store, while the other words send their lines and leave the file as it was
abbrev pub RanBy : Word → Identity → List Act → TableRows → State → State → (ℕ → List ℕ → List ℕ → Type 0) → Type 0
RanBy Gen i acts t a b lb = RanOver i acts t a b lb
RanBy Run i acts t a b lb = RanOver i acts t a b lb
RanBy Show i acts t a b lb = Said (bytes_of acts) a b
RanBy Update i acts t a b lb = RanOver i acts t a b lb
RanBy Trail i acts t a b lb = Said (bytes_of acts) a b
RanBy Audit i acts t a b lb = Said (bytes_of acts) a b
RanBy (Make n) i acts t a b lb = Said (bytes_of acts) a b

-- all that was asked for was done, from what is stored
abbrev pub Ran : Errand → Stored → State → State → (ℕ → List ℕ → List ℕ → Type 0) → Type 0
Ran e s a b lb = RanBy e.word (identity_of e) (acts_of e s) (tables_of e s) a b lb

-- what was sent and what a stop leaves are a cut of these acts over the store, from these tables
abbrev pub IsCutOver : Identity → List Act → TableRows → State → List ℕ → List ℕ → Type 0
IsCutOver i acts t a image out = IsCutSince (StandsForTables i) t acts a.sent image out ⊎ LeavesUnmade a image out

-- nothing was sent, and the file stands for the tables that it kept, as they were made
pub record IsOld (s : Stored) (a : State) (image out : List ℕ) : Type 0 where
  pub silent : out ≡ a.sent
  pub stands : StandsForTables s.identity s.tables image

-- that, or what was sent and what a stop leaves are a cut of these acts over the new store, from the carried tables
abbrev pub IsCutOfUpdate : Identity → List Act → TableRows → Stored → State → List ℕ → List ℕ → Type 0
IsCutOfUpdate i acts t s a image out = IsOld s a image out ⊎ IsCutSince (StandsForTables i) t acts a.sent image out

-- the file is as it was, and a front of these bytes was sent, perhaps none of them or all
abbrev pub IsFront : List ℕ → State → List ℕ → List ℕ → Type 0
IsFront bytes a image out = (image ≡ a.holds) × ((n : ℕ) × (out ≡ a.sent ++ take n bytes))

abbrev pub IsCutBy : Word → Identity → List Act → TableRows → Stored → State → List ℕ → List ℕ → Type 0
IsCutBy Gen i acts t s a image out = IsCutOver i acts t a image out
IsCutBy Run i acts t s a image out = IsCutOver i acts t a image out
IsCutBy Show i acts t s a image out = IsFront (bytes_of acts) a image out
IsCutBy Update i acts t s a image out = IsCutOfUpdate i acts t s a image out
IsCutBy Trail i acts t s a image out = IsFront (bytes_of acts) a image out
IsCutBy Audit i acts t s a image out = IsFront (bytes_of acts) a image out
IsCutBy (Make n) i acts t s a image out = IsFront (bytes_of acts) a image out

-- what was sent and what a stop leaves are a cut of what was asked for, from what is stored
abbrev pub IsCutOfRun : Errand → Stored → State → List ℕ → List ℕ → Type 0
IsCutOfRun e s a image out = IsCutBy e.word (identity_of e) (acts_of e s) (tables_of e s) s a image out

-- what was sent and what the file has, as the call left them, are such a cut, and the lines a front of all lines
pub record EndsInCut (e : Errand) (s : Stored) (a b : State) : Type 0 where
  pub cut : IsCutOfRun e s a b.holds b.sent
  pub front : (n : ℕ) × (b.sent ≡ a.sent ++ take n (bytes_of (acts_of e s)))

-- whatever became of it, a front of these bytes was sent, and the file and what a stop leaves of it stay
pub record SaysFront (bytes : List ℕ) (a b : State) (la lb : ℕ → List ℕ → List ℕ → Type 0) : Type 0 where
  pub part : SaidPart bytes a b
  pub any_moment : LeavesOnly a b la lb (λ c out. la a.moment c a.sent × ((n : ℕ) × (out ≡ a.sent ++ take n bytes)))

-- this word makes the KDCFILE where it is empty
abbrev pub MakesFile : Word → Type 0
MakesFile Gen = ⊤
MakesFile Run = ⊤
MakesFile Show = ⊥
MakesFile Update = ⊥
MakesFile Trail = ⊥
MakesFile Audit = ⊥
MakesFile (Make n) = ⊥

-- so many bytes at most were written before the acts, and nothing was sent; or the acts were begun, and the bytes written are at most those and those of some first acts, which are those whose lines were sent and whose commits the file has, but for a last one that was begun
abbrev pub WritesOver : (making : ℕ) → Identity → List Act → TableRows → (a b : State) → Type 0
WritesOver making i acts t a b =
    ((b.sent ≡ a.sent) × (b.put ≤ a.put + making)) ⊎ WritesBegun tables_after (StandsForTables i) t (λ (first : List Act). making + commits_most i first) acts a b b.holds

-- what the word writes at most: `gen` and `run` the bytes of a fresh file and one, where the file is made, and those of their commits; `update` those of the new tables; and the other words none
abbrev pub WritesBy : Word → Errand → List Act → Stored → (a b : State) → Type 0
WritesBy Gen e acts s a b = WritesOver (opening_most (identity_of e) a.holds) (identity_of e) acts s.tables a b
WritesBy Run e acts s a b = WritesOver (opening_most (identity_of e) a.holds) (identity_of e) acts s.tables a b
WritesBy Show e acts s a b = ⊥
WritesBy Update e acts s a b = WritesUpTo (λ (first : List Act). update_most e.application.generation e.fingerprint s) acts a b
WritesBy Trail e acts s a b = ⊥
WritesBy Audit e acts s a b = ⊥
WritesBy (Make n) e acts s a b = ⊥

-- nothing was written, or the errand was begun, and what it has written is bounded so
abbrev pub WritesFor : Errand → (a b : State) → Type 0
WritesFor e a b = (b.put ≡ a.put) ⊎ ((s : Stored) × Starts e a.holds s × WritesBy e.word e (acts_of e s) s a b)

-- a monitor that begins with these tables
abbrev pub begun_with : Application → TableRows → CoreValue
begun_with app t = record { application = app; state = started app t; steps = 0 }

-- a run that stopped: nothing was sent; or it stopped within the command that comes after the first n, which were done
abbrev pub StopsRun : Errand → Stored → (a b : State) → Type 0
StopsRun e s a b = (b.sent ≡ a.sent) ⊎ ((n : ℕ) × StoppedIn (StandsForTables (identity_of e)) (begun_with (app_of e) s.tables) e.commands n a b b.holds)

-- a run on which a call failed: one of the line; or nothing was sent, or just the lines before a commit or before that of a RESTART
abbrev pub HaltsRun : Errand → Stored → (a b : State) → Type 0
HaltsRun e s a b = Rose a.line_faults b.line_faults ⊎ (b.sent ≡ a.sent) ⊎ HaltsAt (acts_of e s) a b

-- this name was handed to attach; `audit` and `make` hand on none
abbrev pub HandsOn : Word → List ℕ → State → State → Type 0
HandsOn Gen name a b = b.names ≡ a.names ++ name ∷ []
HandsOn Run name a b = b.names ≡ a.names ++ name ∷ []
HandsOn Show name a b = b.names ≡ a.names ++ name ∷ []
HandsOn Update name a b = b.names ≡ a.names ++ name ∷ []
HandsOn Trail name a b = b.names ≡ a.names ++ name ∷ []
HandsOn Audit name a b = b.names ≡ a.names
HandsOn (Make n) name a b = b.names ≡ a.names

abbrev pub MayHandOn : Word → List ℕ → State → State → Type 0
MayHandOn word name a b = (b.names ≡ a.names) ⊎ HandsOn word name a b

-- what was handed to attach where all is done: the file of the BASE, and for `audit` and `make` none
abbrev pub AttachedBy : Word → List ℕ → State → State → Type 0
AttachedBy word base a b = HandsOn word (file_name base) a b

-- ---- a call

-- what a call is given: its words, the texts of its room, and its device with the file
pub record Call : Type 0 where
  pub words : List (List ℕ)
  pub room : RoomState
  pub device : State

abbrev pub call : List (List ℕ) → RoomState → State → Call
call words room device = record { words = words; room = room; device = device }

-- the room tells its texts, or the words are `make`, which reads none of them
abbrev pub RoomTells : Call → Type 0
RoomTells c = IsTrue c.room.told ⊎ AsksMake c.words

-- the bytes of the file are told, or the word looks at none of them
abbrev pub Tells : Word → (told : Bool) → Type 0
Tells Gen told = IsTrue told
Tells Run told = IsTrue told
Tells Show told = IsTrue told
Tells Update told = IsTrue told
Tells Trail told = IsTrue told
Tells Audit told = ⊤
Tells (Make n) told = ⊤

-- what holds of the errand that the words and the texts ask for
abbrev pub ForErrand : Call → (Errand → Type 0) → Type 0
ForErrand c P = RoomTells c → (e : Errand) → Reads c.words c.room (Ok e) → P e

-- what holds of the fault for which the texts are refused
abbrev pub ForRefusal : Call → (Refusal → Type 0) → Type 0
ForRefusal c P = RoomTells c → (why : Refusal) → Reads c.words c.room (Err why) → P why

-- what holds of the reason for which the file is refused, or the trail does not hold
abbrev pub ForFile : Call → (FileRefusal → Type 0) → Type 0
ForFile c P = RoomTells c → (e : Errand) → Reads c.words c.room (Ok e) → Tells e.word c.device.told → (why : FileRefusal) → Refuses e c.device.holds why → P why

-- what holds of the errand, and of what is stored where it starts, where the file is accepted
abbrev pub ForStart : Call → (Errand → Stored → Type 0) → Type 0
ForStart c P = RoomTells c → (e : Errand) (s : Stored) → Reads c.words c.room (Ok e) → Tells e.word c.device.told → Starts e c.device.holds s → P e s

-- the same, where a stop before the call leaves just the file
abbrev pub ForStartAtRest : Call → (ℕ → List ℕ → List ℕ → Type 0) → (Errand → Stored → Type 0) → Type 0
ForStartAtRest c la P =
    RoomTells c → IsTrue c.device.told → Only c.device.holds c.device la → (e : Errand) (s : Stored) → Reads c.words c.room (Ok e) → Starts e c.device.holds s → P e s

-- what holds of a call of `trail` whose file is accepted, with the tables from which the trail begins
abbrev pub ForTrail : Call → (Errand → TableRows → Type 0) → Type 0
ForTrail c P = RoomTells c → IsTrue c.device.told → (e : Errand) (s : Stored) → Reads c.words c.room (Ok e) → Starts e c.device.holds s → e.word ≡ Trail → P e s.tables

-- what holds of a call of `run` whose file is accepted, and of what is stored where it starts
abbrev pub ForRun : Call → (Errand → Stored → Type 0) → Type 0
ForRun c P = RoomTells c → IsTrue c.device.told → (e : Errand) (s : Stored) → Reads c.words c.room (Ok e) → Starts e c.device.holds s → e.word ≡ Run → P e s

-- the texts of a call of `audit` are there: two that generate an application of so many copies, and the trail of a run of it
pub record AuditsOwn (IsOf : Option ℕ → Type 0) (words : List (List ℕ)) (room : RoomState) : Type 0 where
  pub base : List ℕ
  pub asked : Request words Audit base
  pub definition : List ℕ
  pub units : List ℕ
  pub text : List ℕ
  pub there : AreThere Audit base room definition units text
  pub application : Made
  pub generate : TextsGenerate definition units application
  pub copies : IsOf application.generation.double
  -- the tables from which the run began, and its script
  pub start : TableRows
  pub script : List Command
  pub own : IsOwnTrail (applied application.generation application.units) (print_of definition units) start script text

-- what holds of a call that audits the trail of a run
abbrev pub ForOwnTrail : Call → Type 0 → Type 0
ForOwnTrail c P = IsTrue c.room.told → AuditsOwn (λ o. o ≡ None) c.words c.room → P

-- ---- what became of it

-- the texts were refused with this status, and the line of their fault was sent
abbrev pub SaysRefusal : Call → (code : ℕ) → State → Type 0
SaysRefusal c code b =
    RoomTells c → (why : Refusal) × Reads c.words c.room (Err why) × (code ≡ status_of why) × (IsTrue c.device.told → Said (refusal_line why) c.device b)

-- the file is refused, or the trail does not hold, and this is the status; the line that says why was sent
abbrev pub SaysWhy : Errand → (code : ℕ) → (a b : State) → Type 0
SaysWhy e code a b = (why : FileRefusal) × Refuses e a.holds why × (code ≡ status_of_file why) × (IsTrue a.told → Said (file_line why) a b)

abbrev pub SaysFile : Call → (code : ℕ) → State → Type 0
SaysFile c code b = (e : Errand) × (RoomTells c → Reads c.words c.room (Ok e)) × (Tells e.word c.device.told → SaysWhy e code c.device b)

-- all was done that was asked for, from what is stored
abbrev pub HasRun : Errand → (a b : State) → (ℕ → List ℕ → List ℕ → Type 0) → Type 0
HasRun e a b lb = (s : Stored) × Starts e a.holds s × (IsTrue a.told → Ran e s a b lb)

-- all was done that the words and the texts ask for
abbrev pub HasDone : Call → State → (ℕ → List ℕ → List ℕ → Type 0) → Type 0
HasDone c b lb =
    RoomTells c → (e : Errand) × Reads c.words c.room (Ok e) × (Tells e.word c.device.told → HasRun e c.device b lb)

-- nothing was written, or what the words and the texts ask for was begun, and the bytes written are at most those of the making of its file and of the commits that the file has, and of one that was begun
abbrev pub Writes : Call → State → Type 0
Writes c b = RoomTells c → IsTrue c.device.told → (b.put ≡ c.device.put) ⊎ ((e : Errand) × Reads c.words c.room (Ok e) × WritesFor e c.device b)

-- where no call of the device failed and no read did, or the room is sure, all was done or memory ran out
abbrev pub Completes : (code : ℕ) → (r s : RoomState) → (a b : State) → Type 0
Completes code r s a b =
    (Rose a.disk_faults b.disk_faults → ⊥) → (Rose a.line_faults b.line_faults → ⊥) → (Rose r.faults s.faults → ⊥) ⊎ IsTrue r.sure → IsOneOf (0 ∷ 7 ∷ []) code

-- what a stop since the call leaves is a cut of what was asked for
abbrev pub LeavesCuts : Errand → Stored → State → (ℕ → List ℕ → List ℕ → Type 0) → Type 0
LeavesCuts e s a lb = (image out : List ℕ) → lb a.moment image out → IsCutOfRun e s a image out

-- acts that commit nothing leave the file as it was
abbrev pub LeavesLines : Errand → Stored → (a b : State) → Type 0
LeavesLines e s a b = commits_nothing (acts_of e s) ≡ true → SameDisk a b

-- the word writes nothing before its acts: the file is there, or it makes none, and `update` finds it made for these texts
abbrev pub WritesActsAlone : Word → Errand → Stored → State → Type 0
WritesActsAlone Gen e s a = a.holds ≡ [] → ⊥
WritesActsAlone Run e s a = a.holds ≡ [] → ⊥
WritesActsAlone Show e s a = ⊤
WritesActsAlone Update e s a = s.identity ≡ identity_of e
WritesActsAlone Trail e s a = ⊤
WritesActsAlone Audit e s a = ⊤
WritesActsAlone (Make n) e s a = ⊤

-- the file stays as it was where nothing is written, an empty one too
abbrev pub LeavesFile : Errand → Stored → (a b : State) → Type 0
LeavesFile e s a b = WritesActsAlone e.word e s a → LeavesLines e s a b

-- the file of the BASE was handed to attach; for `audit` and `make` none
abbrev pub Attaches : List (List ℕ) → (a b : State) → Type 0
Attaches words a b = (word : Word) × ((base : List ℕ) × Request words word base × AttachedBy word base a b)
