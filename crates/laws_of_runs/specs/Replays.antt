-- An open transaction replays to itself: not only over the tables as they are, but over all that look alike to it, and with all that its record may yet gain.
use Rattle.std.specs.Prelude.{◌≡◌, ℕ, IsTrue, List, ◌∷◌, ◌++◌, slice_get, Option, Some, None}
use Rattle.std.specs.FinMap.{find}
use Rattle.kdcs_types.specs.declared.key.Area.{Area}
use Rattle.kdcs_types.specs.declared.key.ServiceId.{ServiceId}
use Rattle.kdcs_types.specs.declared.key.ServiceId.TheVariants.{Dialogue, Asynchronous}
use Rattle.kdcs_types.specs.declared.service.Note.{Note}
use Rattle.kdcs_types.specs.declared.service.Service.{Service}
use Rattle.kdcs_types.specs.Keys.{id_cmp}
use Rattle.kdcs_types.specs.Tables.{TableRows, content_of, job_of}
use Rattle.abstract_monitor.specs.declared.answer.Happened.{Happened}
use Rattle.abstract_monitor.specs.declared.answer.Happened.TheVariants.{Went, Queued}
use Rattle.abstract_monitor.specs.declared.answer.LockAnswer.TheVariants.{Granted}
use Rattle.abstract_monitor.specs.Bytes.{Bytes}
use Rattle.abstract_monitor.specs.State.{Application, OpenTransaction, State}
use Rattle.abstract_monitor.specs.Calls.{Told, touches}
use Rattle.abstract_monitor.specs.Statements.{Kept}
use Rattle.laws_of_states.specs.Replay.{notes_on, answer_by_note, content_by_note, replay}

-- ---- what a record may gain

-- what a transaction has kept, and then these inputs and notes, for so many statements
abbrev pub kept_and : ServiceId → OpenTransaction → (inputs : List Bytes) → (notes : List Note) → (statements : ℕ) → Kept
kept_and id x inputs notes statements = record {
  service = id;
  began = x.began;
  inputs = x.first ∷ x.lterm ∷ (x.inputs ++ inputs);
  notes = x.notes ++ notes;
  statements = statements;
}

-- what the first of some notes on an area, if there is one, tells of it over tables
abbrev pub told_by : TableRows → List Note → Area → Told
told_by t notes area = record {
  answer = answer_by_note (slice_get (notes_on area notes) 0);
  content = content_by_note (slice_get (notes_on area notes) 0) (content_of t area);
}

-- the job of a service that began with one
abbrev pub HasSameJob : (t u : TableRows) → ServiceId → Option Service → Type 0
HasSameJob t u (Dialogue user) began = Unit {0}
HasSameJob t u (Asynchronous number) (Some row) = Unit {0}
HasSameJob t u (Asynchronous number) None = job_of u number ≡ job_of t number

-- with these notes, the other tables tell of each area that the transaction holds that it is granted, with the content that it has in the first tables; and its job is the same in both
pub record LookAlike (t other : TableRows) (id : ServiceId) (x : OpenTransaction) (notes : List Note) : Type 0 where
  pub areas : (area : Area) → IsTrue (touches x area) → told_by other notes area ≡ record { answer = Granted; content = content_of t area }
  pub job : HasSameJob t other id x.began

-- the transaction sees the same in both tables: in each area that it holds, and in its job
pub record SeesTheSame (t u : TableRows) (id : ServiceId) (x : OpenTransaction) : Type 0 where
  pub areas : (area : Area) → IsTrue (touches x area) → content_of u area ≡ content_of t area
  pub job : HasSameJob t u id x.began

-- over all tables that look alike, and whatever inputs and notes its record yet gains, the transaction is the replay of its record
abbrev pub ReplaysToItself : Application → TableRows → ServiceId → OpenTransaction → Type 0
ReplaysToItself app t id x =
    (other : TableRows) (inputs : List Bytes) (notes : List Note) → LookAlike t other id x notes
    → replay app other (kept_and id x inputs notes x.statements) x.statements ≡ x

-- each open transaction does
abbrev pub AllReplay : Application → State → Type 0
AllReplay app s = (id : ServiceId) (x : OpenTransaction) → find id_cmp id s.active ≡ Some x → ReplaysToItself app s.tables id x

-- the statement is done, and its transaction goes on
abbrev pub GoesOnAtOnce : Happened → Type 0
GoesOnAtOnce Went = Unit {0}
GoesOnAtOnce Queued = Unit {0}
GoesOnAtOnce _ = ⊥
