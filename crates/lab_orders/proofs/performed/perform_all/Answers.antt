use Rattle.std.proofs.Common.{arith, subst, sym, ◌^◌}
use Rattle.abstract_monitor.specs.State.{Application}
use Rattle.lab_orders.specs.Performing.{AreTasks, PerformedOne}
use Rattle.lab_orders.proofs.Performing.{all_few, all_left, all_more, all_names, all_over, all_room, all_start, all_steps}
use Rattle.lab_orders.proofs.performed.perform_all.Goals as goal

pub loop-command-init : goal.loop-command-init
loop-command-init c = all_start c.args.asks c.args.core c.args.path.now c.args.commands.now c.args.walk.now c.requires.beside c.requires.tasks

pub perform_one-requires-clause-beside : goal.perform_one-requires-clause-beside
perform_one-requires-clause-beside c = c.loop-command.invariant.beside

pub perform_one-requires-clause-names : goal.perform_one-requires-clause-names
perform_one-requires-clause-names c = all_names _ _ _ _ _ _ _ _ _ c.loop-command.invariant c.command-item.result c.command-item.is c.loop-command-test.true c.requires.names

pub perform_one-requires-clause-tasks : goal.perform_one-requires-clause-tasks
perform_one-requires-clause-tasks c = subst (λ (a : Application). AreTasks a c.loop-command.rest.now) (sym c.loop-command.invariant.application) c.loop-command.invariant.tasks

pub perform_one-requires-clause-steps : goal.perform_one-requires-clause-steps
perform_one-requires-clause-steps c = all_room _ _ _ _ _ _ _ _ _ c.loop-command.invariant c.command-item.result c.command-item.is c.loop-command-test.true (10 ^ 17) c.requires.steps

pub returns-then-not-rests-clause-performed : goal.returns-then-not-rests-clause-performed
returns-then-not-rests-clause-performed c =
    all_left _ _ _ _ _ _ _ _ _ c.loop-command.invariant c.command-item.result c.command-item.is c.loop-command-test.true c.in_ok-next.next c.perform_one.new.path c.in_ok-next.behind.now c.in_ok-next.ensures.steps
    (subst (PerformedOne c.args.asks c.loop-command.core c.loop-command.path c.command-item.result c.loop-command.rest.now c.in_ok-next.next c.perform_one.new.path c.in_ok-next.behind.now) c.if-not-rests.true c.in_ok-next.ensures.performed)

pub returns-then-not-rests-clause-steps : goal.returns-then-not-rests-clause-steps
returns-then-not-rests-clause-steps c =
    all_few _ _ _ _ _ _ _ _ _ c.loop-command.invariant c.command-item.result c.command-item.is c.loop-command-test.true c.in_ok-next.next c.perform_one.new.path c.in_ok-next.behind.now c.in_ok-next.ensures.steps

pub loop-command-preserved : goal.loop-command-preserved
loop-command-preserved c =
    all_more _ _ _ _ _ _ _ _ _ c.loop-command.invariant c.command-item.result c.command-item.is c.loop-command-test.true c.in_ok-next.next c.perform_one.new.path c.in_ok-next.behind.now c.in_ok-next.ensures.steps
    (subst (PerformedOne c.args.asks c.loop-command.core c.loop-command.path c.command-item.result c.loop-command.rest.now c.in_ok-next.next c.perform_one.new.path c.in_ok-next.behind.now) c.if-not-rests.false c.in_ok-next.ensures.performed)

pub returns-clause-performed : goal.returns-clause-performed
returns-clause-performed c = all_over _ _ _ _ _ _ _ _ _ c.loop-command.invariant (omega arith)

pub returns-clause-steps : goal.returns-clause-steps
returns-clause-steps c = all_steps _ _ _ _ _ _ _ _ _ c.loop-command.invariant
