use Rattle.std.proofs.Common.{◌≤◌, length, arith}
use Rattle.lab_orders.proofs.Scripts.{turning_over}
use Rattle.lab_orders.proofs.script.turned.Goals as goal

pub returns : goal.returns
returns c = let over : length c.args.commands.now ≤ c.loop-command.command-index = omega arith in turning_over _ _ _ _ _ c.loop-command.invariant over
