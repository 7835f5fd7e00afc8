use Rattle.std.proofs.Common.{◌-◌, arith, refl, subst}
use Rattle.std.specs.Prelude.{Option}
use Rattle.lab_orders.specs.declared.reach.Place.{Place}
use Rattle.lab_orders.specs.Searching.{WentCommand}
use Rattle.lab_orders.proofs.Reaching.{following_more, following_names, following_over, following_start, following_steps, following_stops}
use Rattle.lab_orders.proofs.reach.follow.Goals as goal

pub loop-command-init : goal.loop-command-init
loop-command-init c = following_start c.args.asks c.args.core c.args.path.now c.args.commands.now c.args.frames.now c.requires.beside c.requires.taken _ refl

pub reach_command-requires-clause-beside : goal.reach_command-requires-clause-beside
reach_command-requires-clause-beside c = c.loop-command.invariant.beside

pub reach_command-requires-clause-names : goal.reach_command-requires-clause-names
reach_command-requires-clause-names c = following_names _ _ _ _ _ _ _ _ _ _ c.loop-command.invariant c.command-item.result c.command-item.is c.loop-command-test.true c.requires.names

pub reach_command-requires-clause-steps : goal.reach_command-requires-clause-steps
reach_command-requires-clause-steps c = following_steps _ _ _ _ _ _ _ _ _ _ c.loop-command.invariant c.command-item.result c.command-item.is c.loop-command-test.true c.requires.steps

pub returns : goal.returns
returns c = following_over _ _ _ _ _ _ _ _ _ _ c.loop-command.invariant (omega arith)

pub returns-in-Some : goal.returns-in-Some
returns-in-Some c =
    following_stops _ _ _ _ _ _ _ _ _ _ c.loop-command.invariant c.command-item.result c.command-item.is c.loop-command-test.true c.in_ok-next.next c.reach_command.new.path c.in_ok-next.behind.now _ refl c.in_ok-next.ensures.steps c.in-Some.place
    (subst (λ (o : Option Place). WentCommand c.args.asks c.loop-command.core c.loop-command.path c.command-item.result (c.loop-command.later - 1) c.loop-command.rest.now c.in_ok-next.next c.reach_command.new.path c.in_ok-next.behind.now o) c.in-Some.is c.in_ok-next.ensures.went)

pub loop-command-preserved : goal.loop-command-preserved
loop-command-preserved c =
    following_more _ _ _ _ _ _ _ _ _ _ c.loop-command.invariant c.command-item.result c.command-item.is c.loop-command-test.true c.in_ok-next.next c.reach_command.new.path c.in_ok-next.behind.now _ refl c.in_ok-next.ensures.steps
    (subst (λ (o : Option Place). WentCommand c.args.asks c.loop-command.core c.loop-command.path c.command-item.result (c.loop-command.later - 1) c.loop-command.rest.now c.in_ok-next.next c.reach_command.new.path c.in_ok-next.behind.now o) c.in_default.is c.in_ok-next.ensures.went)
    c.in_ok-next.ensures.taken
