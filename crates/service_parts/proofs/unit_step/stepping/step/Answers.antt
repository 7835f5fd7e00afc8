use Rattle.std.proofs.Common.{arith}
use Rattle.service_parts.proofs.unit_step.stepping.step.Goals as goal

pub do_action-requires-clause-count : goal.do_action-requires-clause-count
do_action-requires-clause-count c = omega arith
