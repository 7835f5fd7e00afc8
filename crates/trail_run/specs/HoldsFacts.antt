-- What holds of each open transaction of a run, so that its record determines its replay.
use Rattle.std.specs.Prelude.{◌≡◌, IsTrue, IfSome, Option, Some, None}
use Rattle.std.specs.List.{list_all}
use Rattle.std.specs.FinMap.{find}
use Rattle.kdcs_types.specs.declared.key.ServiceId.{ServiceId}
use Rattle.kdcs_types.specs.declared.key.ServiceId.TheVariants.{Dialogue, Asynchronous}
use Rattle.kdcs_types.specs.declared.service.Service.{Service}
use Rattle.kdcs_types.specs.Keys.{id_cmp}
use Rattle.kdcs_types.specs.Tables.{TableRows, job_of}
use Rattle.application_types.specs.Generation.{Generated}
use Rattle.abstract_monitor.specs.Bytes.{Bytes}
use Rattle.abstract_monitor.specs.State.{Application, OpenTransaction, State}
use Rattle.laws_of_states.specs.Along.{StepLaw}
use Rattle.laws_of_states.specs.Keeping.{Fact}
use Rattle.laws_of_states.specs.Suits.{fits_message}
use Rattle.laws_of_runs.specs.SerialLaws.{HasReplays}
use Rattle.abstract_monitor.specs.Endings.{durable}
use Rattle.serial_audit.specs.Audit.{HoldsFor, IsDueFor, note_fits}
use Rattle.audit_trail.specs.declared.entry.TrailEntry.{TrailEntry}
use Rattle.trail_run.specs.Entries.{entry_in}

-- an asynchronous service that began without a row has a job that is due, and goes to its first TAC
abbrev pub HasItsJob : TableRows → ServiceId → (first : Bytes) → (began : Option Service) → Type 0
HasItsJob t (Dialogue user) first began = Unit {0}
HasItsJob t (Asynchronous number) first (Some row) = Unit {0}
HasItsJob t (Asynchronous number) first None = IsDueFor t.clock first (job_of t number)

-- its first TAC is that of the row with which it began, no input is longer than NB, no content in a note is longer than that of an area, and its job is there
pub record IsRecorded (g : Generated) (t : TableRows) (id : ServiceId) (x : OpenTransaction) : Type 0 where
  pub first : IfSome x.began (λ (row : Service). row.first ≡ x.first)
  pub inputs : IsTrue (list_all (fits_message g) x.inputs)
  pub notes : IsTrue (list_all note_fits x.notes)
  pub job : HasItsJob t id x.first x.began

-- each open transaction is so
abbrev pub AllRecorded : Application → State → Type 0
AllRecorded app s = (id : ServiceId) (x : OpenTransaction) → find id_cmp id s.active ≡ Some x → IsRecorded app.generation s.tables id x

-- and replays to itself, in a state with its facts
abbrev pub HasRecords : Fact
HasRecords app s = HasReplays app s × AllRecorded app s

-- ---- steps

-- the entry, if there is one, holds for the durable tables before it and comes to those after it; without one they stay
abbrev pub HoldsBetween : Application → (before after : TableRows) → Option TrailEntry → Type 0
HoldsBetween app before after None = after ≡ before
HoldsBetween app before after (Some entry) = HoldsFor app before entry after

-- so does the entry of a step
abbrev pub HoldsInStep : StepLaw
HoldsInStep app s d = HoldsBetween app (durable app.generation s.tables) (durable app.generation d.after.tables) (entry_in d)
