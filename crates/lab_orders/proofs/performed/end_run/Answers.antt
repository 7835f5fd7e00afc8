use Rattle.std.proofs.Common.{refl}
use Rattle.abstract_monitor.specs.declared.command.Command.TheVariants.{Run}
use Rattle.lab_orders.proofs.Performing.{run_performed, run_rested}
use Rattle.lab_orders.proofs.performed.end_run.Goals as goal

pub returns-then-not-asks-clause-performed : goal.returns-then-not-asks-clause-performed
returns-then-not-asks-clause-performed c =
    run_performed c.args.core c.args.path.now (Run c.args.turns) c.args.turns refl c.args.walk.now c.in_ok-core.core c.perform_run.new.path c.in_ok-core.behind.now c.in_ok-core.ensures.performed c.args.asks c.if-not-asks.true

pub is_at_rest-requires-clause-facts : goal.is_at_rest-requires-clause-facts
is_at_rest-requires-clause-facts c = c.in_ok-core.ensures.performed.beside.facts

pub returns-clause-performed : goal.returns-clause-performed
returns-clause-performed c =
    run_rested c.args.core c.args.path.now (Run c.args.turns) c.args.turns refl c.args.walk.now c.in_ok-core.core c.perform_run.new.path c.in_ok-core.behind.now c.in_ok-core.ensures.performed c.args.asks c.if-not-asks.false c.in_ok-core-2.core c.in_ok-core-2.rests c.in_ok-core-2.ensures.rested
