use Rattle.std.proofs.Common.{ap}
use Rattle.monitor_core.specs.CoreValue.{CoreValue}
use Rattle.monitor_core.specs.WholeLaws.{is_task}
use Rattle.lab_turns.proofs.view.held_by.Goals as goal

pub held_by-requires : goal.held_by-requires
held_by-requires c =
    is_task c.args.core.now.application c.args.core.now.state c.parts.result.now c.args.task c.requires.facts.0 c.requires.task (ap (λ (x : CoreValue). x.state.tasks) c.parts.ensures)
