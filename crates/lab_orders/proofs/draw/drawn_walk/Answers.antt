use Rattle.std.proofs.Common.{arith}
use Rattle.lab_orders.proofs.Drawing.{drawn_more, drawn_names, drawn_over, drawn_start, drawn_steps}
use Rattle.lab_orders.proofs.draw.drawn_walk.Goals as goal

pub loop-command-init : goal.loop-command-init
loop-command-init c = drawn_start c.args.core c.args.path.now c.args.commands.now c.requires.beside c.requires.steps

pub drawn_command-requires-clause-beside : goal.drawn_command-requires-clause-beside
drawn_command-requires-clause-beside c = c.loop-command.invariant.drew.beside

pub drawn_command-requires-clause-names : goal.drawn_command-requires-clause-names
drawn_command-requires-clause-names c = drawn_names _ _ _ _ _ _ c.loop-command.invariant c.command-item.result c.command-item.is c.loop-command-test.true c.requires.names

pub drawn_command-requires-clause-steps : goal.drawn_command-requires-clause-steps
drawn_command-requires-clause-steps c = drawn_steps _ _ _ _ _ _ c.loop-command.invariant c.command-item.result c.command-item.is c.loop-command-test.true

pub returns : goal.returns
returns c = drawn_over _ _ _ _ _ _ c.loop-command.invariant (omega arith)

pub loop-command-preserved : goal.loop-command-preserved
loop-command-preserved c = drawn_more _ _ _ _ _ _ c.loop-command.invariant c.command-item.result c.command-item.is c.loop-command-test.true c.in_ok-core.core c.drawn_command.new.path c.in_ok-core.ensures.drew c.in_ok-core.ensures.steps
