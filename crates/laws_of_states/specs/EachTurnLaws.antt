-- What holds of each turn: it rests, without a commit and in the same tables, or it serves the service of its task. And what holds of each synchronisation point.
use Rattle.std.specs.Prelude.{◌≡◌, refl, ℕ, ◌-◌, Option, Some, None, slice_get}
use Rattle.std.specs.FinMap.{find}
use Rattle.kdcs_types.specs.declared.call.Cause.{Cause}
use Rattle.kdcs_types.specs.declared.key.ServiceId.{ServiceId}
use Rattle.kdcs_types.specs.declared.key.Target.{Target}
use Rattle.kdcs_types.specs.declared.key.Target.TheVariants.{Tac, Lterm}
use Rattle.kdcs_types.specs.declared.service.Ending.TheVariants.{Broken}
use Rattle.kdcs_types.specs.declared.service.JobValue.{JobValue}
use Rattle.kdcs_types.specs.Keys.{id_cmp}
use Rattle.kdcs_types.specs.Tables.{job_of}
use Rattle.abstract_monitor.specs.declared.outcome.Outcome.{Outcome}
use Rattle.abstract_monitor.specs.declared.work.Work.{Work}
use Rattle.abstract_monitor.specs.declared.work.Work.TheVariants as work
use Rattle.abstract_monitor.specs.Endings.{durable, synchronised, refusal}
use Rattle.abstract_monitor.specs.Picks.{pick}
use Rattle.abstract_monitor.specs.State.{Application, OpenTransaction, State}
use Rattle.abstract_monitor.specs.Turns.{Turned, abnormal, settled_by, settled, served, took_job_for, took_job, took, turn_by, turn_of}
use Rattle.laws_of_states.specs.Steps.{AreLines}

-- no transaction ends, and the tables stay
pub record Rests (s : State) (t : Turned) : Type 0 where
  pub settled : t.settled ≡ None
  pub lines : AreLines t.acts
  pub tables : t.after.tables ≡ s.tables

-- what holds where a point is refused and where it goes through, holds of it
pub of_point : (app : Application) (s : State) (task : ℕ) (id : ServiceId) (x : OpenTransaction) (o : Outcome) (P : Turned → Type 0) → ((cause : Cause) → P (abnormal app s task id x (Broken cause)))
    → P (settled_by app s task id x o (synchronised app.generation s.tables id x o) None) → P (settled app s task id x o)
unfolding settled
of_point app s task id x o P refused through = by (refusal app.generation (durable app.generation (synchronised app.generation s.tables id x o)))
  where
    by : (cause : Option Cause) → P (settled_by app s task id x o (synchronised app.generation s.tables id x o) cause)
    by (Some cause) = refused cause
    by None = through

module _ (app : Application) (s : State) (task : ℕ) (P : Turned → Type 0) (rests : (t : Turned) → Rests s t → P t) (serves : (id : ServiceId) → P (served app s task id (find id_cmp id s.active))) where
  of_job : (number : ℕ) (job : Option JobValue) → P (took_job app s task number job)
  of_job number None = rests (took_job app s task number None) (record { settled = refl; lines = tt; tables = refl })
  of_job number (Some job) = by job.to
    where
      by : (to : Target) → P (took_job_for app s task number job to)
      by (Tac tac) = rests (took_job_for app s task number job (Tac tac)) (record { settled = refl; lines = tt; tables = refl })
      by (Lterm lterm) = rests (took_job_for app s task number job (Lterm lterm)) (record { settled = refl; lines = tt; tables = refl })

  of_work : (w : Option Work) → P (took app s task w)
  of_work None = rests (took app s task None) (record { settled = refl; lines = tt; tables = refl })
  of_work (Some (work.Service id)) = rests (took app s task (Some (work.Service id))) (record { settled = refl; lines = tt; tables = refl })
  of_work (Some (work.Job number)) = of_job number (job_of s.tables number)

  pub of_turn : P (turn_of app s task)
  unfolding turn_of
  of_turn = by (slice_get s.tasks (task - 1))
    where
      by : (place : Option (Option ServiceId)) → P (turn_by app s task place)
      by None = rests (turn_by app s task None) (record { settled = refl; lines = tt; tables = refl })
      by (Some None) = of_work (pick app s)
      by (Some (Some id)) = serves id
