use Rattle.std.proofs.Common.{◌≡◌, ℕ, ◌-◌, ap, sym, ◌∙◌}
use Rattle.std.specs.Prelude.{Option, Some, None, slice_get}
use Rattle.std.specs.FinMap.{find}
use Rattle.application_types.specs.Statements.{IsWithin}
use Rattle.kdcs_types.specs.declared.key.ServiceId.{ServiceId}
use Rattle.kdcs_types.specs.Keys.{id_cmp}
use Rattle.laws_of_states.specs.Keeping.{HasFacts}
use Rattle.service_ends.specs.Schedule.{IsTask, place_of, service_in}
use Rattle.service_ends.specs.declared.core_state.parts.MonitorParts.{MonitorParts}
use Rattle.monitor_core.specs.CoreValue.{CoreValue, core_value}
use Rattle.monitor_core.specs.WholeLaws.{is_task, seat_of}
use Rattle.lab_walks.specs.Orders.{wait_by, wait_in}
use Rattle.lab_orders.proofs.turns.wait_in.Goals as goal

module _ (p : MonitorParts) (v : CoreValue) (task : ℕ) (same : core_value p ≡ v) (facts : HasFacts v.application v.state) (within : IsWithin 1 v.application.generation.limits.tasks task) where
  task_is : IsTask task p.scheduler
  task_is = is_task v.application v.state p task facts.0 within (ap (λ (x : CoreValue). x.state.tasks) same)

  wait_here : (o : Option ServiceId) → o ≡ service_in (place_of task p.scheduler) → wait_in v.state task ≡ wait_by v.state (Some o)
  wait_here o held = ap (wait_by v.state) (sym (ap (λ (x : CoreValue). slice_get x.state.tasks (task - 1)) same) ∙ seat_of p task task_is o held)

pub held_by-requires : goal.held_by-requires
held_by-requires c = task_is c.parts-parts.result.now c.args.core.now c.args.task c.parts-parts.ensures c.requires.facts c.requires.task

pub returns-in_err-id : goal.returns-in_err-id
returns-in_err-id c = rw c.from_residual.ensures (sym (wait_here c.parts-parts.result.now c.args.core.now c.args.task c.parts-parts.ensures c.requires.facts c.requires.task None c.in_err-id.ensures))

pub returns : goal.returns
returns c =
    c.copied.ensures
    ∙ c.wait_of.ensures
    ∙ ap (λ (x : CoreValue). find id_cmp c.in_ok-id.id x.state.waits) c.parts-parts.ensures
    ∙ sym (wait_here c.parts-parts.result.now c.args.core.now c.args.task c.parts-parts.ensures c.requires.facts c.requires.task (Some c.in_ok-id.id) c.in_ok-id.ensures)
