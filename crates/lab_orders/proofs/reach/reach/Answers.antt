use Rattle.std.proofs.Common.{arith, subst, sym, ◌∙◌}
use Rattle.std.specs.Prelude.{All}
use Rattle.abstract_monitor.specs.Commands.{started}
use Rattle.abstract_monitor.specs.State.{Application}
use Rattle.laws_of_runs.specs.Applied.{applied}
use Rattle.laws_of_states.specs.Keeping.{IsScriptOf}
use Rattle.lab_orders.specs.Searching.{IsTaken}
use Rattle.lab_orders.proofs.Reaching.{reached_from, way_taken}
use Rattle.lab_orders.proofs.reach.reach.Goals as goal

pub follow-requires-clause-taken : goal.follow-requires-clause-taken
follow-requires-clause-taken c =
    let app = applied c.args.generation c.args.units in
    subst (λ (a : Application). All (IsTaken a) c.args.frames.now) (sym c.in_ok-core.ensures.application) (way_taken app c.args.commands.now (started app c.args.tables.now) c.args.frames.now c.requires.way)

pub follow-requires-clause-names : goal.follow-requires-clause-names
follow-requires-clause-names c = subst (λ (a : Application). IsScriptOf a c.args.commands.now) (sym c.in_ok-core.ensures.application) c.requires.start.names

pub follow-requires-clause-steps : goal.follow-requires-clause-steps
follow-requires-clause-steps c = omega (arith, c.requires.start.tries, c.in_ok-core.ensures.steps)

pub returns-clause-application : goal.returns-clause-application
returns-clause-application c = c.in_ok-core-2.ensures.application ∙ c.in_ok-core.ensures.application

pub returns-clause-reached : goal.returns-clause-reached
returns-clause-reached c =
    let app = applied c.args.generation c.args.units in
    reached_from app c.args.tables.now c.args.commands.now c.in_ok-core.core c.in_ok-core.path c.in_ok-core.ensures c.args.frames.now c.args.asks c.in_ok-core-2.core c.follow.new.path c.in_ok-core-2.place c.in_ok-core-2.ensures c.requires.way

pub returns-clause-steps : goal.returns-clause-steps
returns-clause-steps c = omega (arith, c.in_ok-core-2.ensures.steps, c.in_ok-core.ensures.steps)
