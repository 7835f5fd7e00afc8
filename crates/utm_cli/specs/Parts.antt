-- The words in which the parts of a call promise.
use Rattle.std.specs.Prelude.{◌≡◌, ◌⊎◌, ℕ, IsTrue, List, [], ◌∷◌, Some, Result, OnOk, OnErr, IsErrOf}
use Rattle.kd_device.specs.Device.{State, Frame, LeavesOnly, Only, SameFaults}
use Rattle.kd_device.specs.Rest.{Rests}
use Rattle.kdcs_types.specs.Tables.{TableRows}
use Rattle.abstract_monitor.specs.Listing.{listing}
use Rattle.abstract_monitor.specs.Trace.{tables_after}
use Rattle.device_acts.specs.Opening.{opening_most}
use Rattle.device_acts.specs.Stands.{StandsForTables}
use Rattle.device_acts.specs.Acting.{WithinActs, WritesBegun}
use Rattle.device_acts.specs.Said.{SaidPart}
use Rattle.device_run.specs.Running.{commits_most}
use Rattle.audit_trail.specs.declared.entry.Trail.{Trail as Kept}
use Rattle.trail_run.specs.Auditing.{IsJudged}
use Rattle.trail_run.specs.Trailing.{HasBytes}
use Rattle.trail_run.specs.declared.trail_words.verdict.Verdict.{Verdict}
use Rattle.refusals.specs.declared.error.FileRefusal.{FileRefusal}
use Rattle.refusals.specs.Lines.{file_line}
use Rattle.refusals.specs.Statuses.{IsOneOf, status_of_file}
use Rattle.call_parts.specs.Words.{file_name}
use Rattle.call_parts.specs.declared.error.CallError.{CallError}
use Rattle.call_parts.specs.declared.error.CallError.TheVariants.{Refused, Failed}
use Rattle.call_parts.specs.declared.errand.Looking.{Looking}
use Rattle.call_parts.specs.declared.errand.Looking.TheVariants as looking
use Rattle.call_parts.specs.declared.words.Word.TheVariants.{Run, Trail}
use Rattle.call_parts.specs.Asking.{Errand, app_of}
use Rattle.kdcfile_update.specs.Updating.{Stored, IsUpdated, IsUpdateCut}
use Rattle.call_parts.specs.Opening.{Opens, identity_of}
use Rattle.utm_cli.specs.Doing.{UpdateTakes, Starts, Refuses, own, trail_of, acts_of}
use Rattle.utm_cli.specs.Promise.{RanOver, IsCutOver, IsCutOfRun, SaysFront, AttachedBy, HaltsRun, HandsOn, HasRun, LeavesFile, MayHandOn, SaysWhy, StopsRun, Tells, WritesFor, WritesOver}
use Rattle.call_parts.specs.Leaving.{CallFailed}

-- whatever became of them, the acts of the errand were begun from these tables
abbrev pub WithinErrand : Errand → TableRows → (a b : State) → (la lb : ℕ → List ℕ → List ℕ → Type 0) → Type 0
WithinErrand e t a b la lb = WithinActs tables_after (StandsForTables (identity_of e)) t (acts_of e (own e t)) a b la lb

-- the bytes written are at most those of the errand's commits that the file has, and of one that was begun
abbrev pub ErrandWrites : Errand → TableRows → (a b : State) → Type 0
ErrandWrites e t a b = IsTrue a.told → WritesBegun tables_after (StandsForTables (identity_of e)) t (commits_most (identity_of e)) (acts_of e (own e t)) a b b.holds

-- nothing was written, or the file was opened with tables, and the bytes written are at most those of its making too
abbrev pub StoreWrites : Errand → (a b : State) → Type 0
StoreWrites e a b = (b.put ≡ a.put) ⊎ ((t : TableRows) × Opens e a.holds t × WritesOver (opening_most (identity_of e) a.holds) (identity_of e) (acts_of e (own e t)) t a b)

-- where the errand is a run that stopped, from these tables
abbrev pub ErrandStops : Errand → TableRows → (a b : State) → Type 0
ErrandStops e t a b = IsTrue a.told → e.word ≡ Run → StopsRun e (own e t) a b

-- and where a call failed
abbrev pub ErrandHalts : Errand → TableRows → (a b : State) → Type 0
ErrandHalts e t a b = IsTrue a.told → e.word ≡ Run → HaltsRun e (own e t) a b

-- the same, from what is stored
abbrev pub StopsFrom : Errand → (a b : State) → Type 0
StopsFrom e a b = IsTrue a.told → (s : Stored) → Starts e a.holds s → e.word ≡ Run → StopsRun e s a b

abbrev pub HaltsFrom : Errand → (a b : State) → Type 0
HaltsFrom e a b = IsTrue a.told → (s : Stored) → Starts e a.holds s → e.word ≡ Run → HaltsRun e s a b

-- the acts of the errand were done over the store
abbrev pub RanActs : Errand → TableRows → (a b : State) → (ℕ → List ℕ → List ℕ → Type 0) → Type 0
RanActs e t a b lb = IsTrue a.told → RanOver (identity_of e) (acts_of e (own e t)) t a b lb

-- the same, from the tables that the file is opened with
abbrev pub RanOpened : Errand → (a b : State) → (ℕ → List ℕ → List ℕ → Type 0) → Type 0
RanOpened e a b lb = IsTrue a.told → (t : TableRows) × Opens e a.holds t × RanOver (identity_of e) (acts_of e (own e t)) t a b lb

-- what is sent of tables: their list, or the trail from them
abbrev pub looked_by : Looking → Errand → TableRows → List ℕ
looked_by looking.Listing e t = listing t
looked_by (looking.Trail commands) e t = trail_of e t

-- a front of that was sent, of the tables that the file is opened with
abbrev pub LooksFront : Looking → Errand → (a b : State) → (la lb : ℕ → List ℕ → List ℕ → Type 0) → Type 0
LooksFront l e a b la lb = IsTrue a.told → (t : TableRows) → Opens e a.holds t → SaysFront (looked_by l e t) a b la lb

-- the text of a trail is written of bytes alone
abbrev pub LooksBytes : Errand → TableRows → Type 0
LooksBytes e t = e.word ≡ Trail → HasBytes (app_of e) e.fingerprint t e.commands

-- the same of what is stored
abbrev pub HasTrailBytes : Errand → Stored → Type 0
HasTrailBytes e s = LooksBytes e s.tables

-- an audit of the errand's trail finds this
abbrev pub Finds : Errand → Verdict → Type 0
Finds e verdict = (t : Kept) × (e.trail ≡ Some t) × IsJudged (app_of e) t verdict

-- the file was taken and carried, or was of these texts already, and the report was sent
abbrev pub RanUpdate : Errand → (a b : State) → (ℕ → List ℕ → List ℕ → Type 0) → Type 0
RanUpdate e a b lb = IsTrue a.told → (s : Stored) × UpdateTakes e a.holds s × IsUpdated e.application.generation e.fingerprint s a b lb

-- at each moment what was sent and what a stop leaves are a cut of the update
abbrev pub StopsInUpdate : Errand → (a b : State) → (la lb : ℕ → List ℕ → List ℕ → Type 0) → Type 0
StopsInUpdate e a b la lb = IsTrue a.told → Only a.holds a la → (s : Stored) → UpdateTakes e a.holds s → LeavesOnly a b la lb (IsUpdateCut e.application.generation e.fingerprint s a.sent)

-- at each moment what was sent and what a stop leaves are a cut of the acts over the store
abbrev pub StopsOverStore : Errand → (a b : State) → (la lb : ℕ → List ℕ → List ℕ → Type 0) → Type 0
StopsOverStore e a b la lb =
    IsTrue a.told → Only a.holds a la → (t : TableRows) → Opens e a.holds t → LeavesOnly a b la lb (IsCutOver (identity_of e) (acts_of e (own e t)) t a)

-- the same, of what was asked for
abbrev pub StopsInCut : Errand → (a b : State) → (la lb : ℕ → List ℕ → List ℕ → Type 0) → Type 0
StopsInCut e a b la lb =
    IsTrue a.told → Only a.holds a la → (s : Stored) → Starts e a.holds s → LeavesOnly a b la lb (IsCutOfRun e s a)

-- what a task over the file of this name did, and what it answered
pub record DoesOne (e : Errand) (name : List ℕ) (result : Result Unit CallError) (a b : State) (la lb : ℕ → List ℕ → List ℕ → Type 0) : Type 0 where
  pub done : OnOk result (Tells e.word a.told → HasRun e a b lb)
  pub refused : (why : FileRefusal) → IsErrOf result (Refused why) → Tells e.word a.told → Refuses e a.holds why
  pub fine : (IsErrOf result Failed → ⊥) → SameFaults a b
  pub failed : IsErrOf result Failed → CallFailed a b
  pub stopped : OnErr result (StopsFrom e a b)
  pub halted : IsErrOf result Failed → HaltsFrom e a b
  -- a file that it does not start from stays as it is
  pub still : IsTrue a.told → ((s : Stored) → Starts e a.holds s → ⊥) → Rests a b la lb
  pub any_moment : StopsInCut e a b la lb
  pub written : IsTrue a.told → WritesFor e a b
  pub left : IsTrue a.told → (s : Stored) → Starts e a.holds s → LeavesFile e s a b
  pub bytes : OnOk result (IsTrue a.told → (s : Stored) → Starts e a.holds s → HasTrailBytes e s)
  pub names : IsTrue a.told → MayHandOn e.word name a b
  pub named : OnOk result (IsTrue a.told → HandsOn e.word name a b)
  pub frame : Frame a b

-- an errand over one file, or over none, ended with this status
pub record EndsOne (e : Errand) (base : List ℕ) (a b : State) (la lb : ℕ → List ℕ → List ℕ → Type 0) (status : ℕ) : Type 0 where
  pub code : IsOneOf (0 ∷ 4 ∷ 5 ∷ 7 ∷ 8 ∷ []) status
  -- a file that is refused, or a trail that does not hold
  pub refused : Tells e.word a.told → (why : FileRefusal) → Refuses e a.holds why → IsOneOf (status_of_file why ∷ 5 ∷ 7 ∷ []) status
  pub refused_only : IsOneOf (4 ∷ 8 ∷ []) status → Tells e.word a.told → SaysWhy e status a b
  pub refused_part : IsTrue a.told → (why : FileRefusal) → Refuses e a.holds why → SaidPart (file_line why) a b
  -- a file that is accepted
  pub accepted : Tells e.word a.told → (s : Stored) → Starts e a.holds s → IsOneOf (0 ∷ 5 ∷ 7 ∷ []) status
  pub done : status ≡ 0 → Tells e.word a.told → HasRun e a b lb
  pub any_moment : StopsInCut e a b la lb
  pub written : IsTrue a.told → WritesFor e a b
  pub left : IsTrue a.told → (s : Stored) → Starts e a.holds s → LeavesFile e s a b
  pub bytes : status ≡ 0 → IsTrue a.told → (s : Stored) → Starts e a.holds s → HasTrailBytes e s
  pub names : IsTrue a.told → MayHandOn e.word (file_name base) a b
  pub attached : status ≡ 0 → IsTrue a.told → AttachedBy e.word base a b
  pub fine : (status ≡ 5 → ⊥) → SameFaults a b
  pub failed : status ≡ 5 → CallFailed a b
  pub stopped : IsOneOf (5 ∷ 7 ∷ []) status → StopsFrom e a b
  pub halted : status ≡ 5 → HaltsFrom e a b
  pub frame : Frame a b
