use Rattle.std.proofs.Common.{arith}
use Rattle.lab_states.proofs.Held.{held_more}
use Rattle.lab_states.proofs.scheduled.held_in.Goals as goal

pub loop-before-preserved : goal.loop-before-preserved
loop-before-preserved c = grind (arith, held_more)
