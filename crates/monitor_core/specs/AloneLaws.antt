-- A service in a task is nowhere else.
use Rattle.std.specs.Prelude.{◌≡◌, ℕ, ◌-◌, false, slice_get, Some, None}
use Rattle.std.proofs.Common.{arith}
use Rattle.kdcs_types.specs.declared.key.ServiceId.{ServiceId}
use Rattle.abstract_monitor.specs.Sessions.{is_running}
use Rattle.abstract_monitor.specs.State.{Application, State}
use Rattle.abstract_monitor.specs.Turns.{with_task}
use Rattle.laws_of_states.specs.Facts.{IsConsistent}
use Rattle.laws_of_states.specs.AfterLaws.{in_task}
use Rattle.laws_of_states.specs.PlacesLaws.{placed_of, placed_rests}

-- once its task is free it is neither ready nor in a task
pub alone_of : (app : Application) (s : State) (task : ℕ) (id : ServiceId) → IsConsistent app s → slice_get s.tasks (task - 1) ≡ Some (Some id) → is_running (with_task s task None) id ≡ false
alone_of app s task id c is =
    let p = in_task app s task id (placed_of app s c id) is in
    placed_rests (with_task s task None) id (omega (arith, p.ready, p.freed))
