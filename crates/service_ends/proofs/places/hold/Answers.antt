use Rattle.std.specs.Prelude.{List, ◌++◌}
use Rattle.std.proofs.Common.{ap, ◌∙◌}
use Rattle.std.specs.FinMap.{find}
use Rattle.kdcs_types.specs.declared.act.Act.{Act}
use Rattle.kdcs_types.specs.Keys.{id_cmp}
use Rattle.abstract_monitor.specs.State.{State}
use Rattle.abstract_monitor.specs.Turns.{message_acts}
use Rattle.service_ends.specs.Standing.{state_of}
use Rattle.service_ends.proofs.Ended.{holds_as}
use Rattle.service_ends.proofs.places.hold.Goals as goal

pub returns-clause-exact : goal.returns-clause-exact
returns-clause-exact c = λ x e.
    let there = ap (λ (s : State). find id_cmp c.args.id.now s.active) c.free_task.ensures.state ∙ e in
    holds_as (state_of c.args.parts.now) (state_of c.free_task.new.self) (state_of c.send_message.new.parts) c.args.task c.args.id.now x c.send_message.new.acts c.free_task.ensures.state (c.in_ok-send_message.ensures.state x there)
    (c.in_ok-send_message.ensures.acts x there ∙ ap (λ (l : List Act). l ++ message_acts (state_of c.free_task.new.self) c.args.id.now x) c.new-acts.ensures)
