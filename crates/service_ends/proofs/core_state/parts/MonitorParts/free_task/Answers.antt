use Rattle.service_ends.specs.KeptLaws.{freed_task, freed_task_state}
use Rattle.service_ends.proofs.core_state.parts.MonitorParts.free_task.Goals as goal

pub returns-clause-indexed : goal.returns-clause-indexed
returns-clause-indexed c = freed_task c.args.self.now _ c.args.task c.free.ensures c.requires.indexed

pub returns-clause-state : goal.returns-clause-state
returns-clause-state c = freed_task_state c.args.self.now _ c.args.task c.free.ensures
