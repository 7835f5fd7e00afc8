use Rattle.std.proofs.Common.{arith}
use Rattle.abstract_monitor.specs.KeepsReadyLaws.{time_left}
use Rattle.service_parts.proofs.unit_step.Asking.{asks_at}
use Rattle.service_parts.proofs.unit_step.answer.answered.Goals as goal

pub overflow_add-run : goal.overflow_add-run
overflow_add-run c = omega (arith, asks_at c.args.unit.now c.args.run.now c.requires.can.asks)

pub overflow_add-run-2 : goal.overflow_add-run-2
overflow_add-run-2 c = omega (arith, time_left c.args.unit.now c.args.run.now c.requires.can.asks c.requires.ready.count)
