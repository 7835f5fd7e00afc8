use Rattle.std.proofs.Common.{subst}
use Rattle.std.specs.Prelude.{Option}
use Rattle.lab_orders.specs.declared.reach.Place.{Place}
use Rattle.lab_orders.specs.Searching.{WentRun}
use Rattle.lab_orders.specs.Trying.{Rested}
use Rattle.lab_orders.proofs.Reaching.{run_rested, run_stopped, run_went, run_worked}
use Rattle.lab_orders.proofs.reach.end_run.Goals as goal

pub returns-in-Some-clause-went : goal.returns-in-Some-clause-went
returns-in-Some-clause-went c =
    run_stopped c.args.asks c.args.core c.args.path.now c.args.turns c.args.later c.args.frames.now c.in_ok-core.core c.reach_run.new.path c.in_ok-core.rest.now c.in-Some.place
    (subst (λ (o : Option Place). WentRun c.args.core c.args.path.now c.args.turns c.args.later c.args.frames.now c.in_ok-core.core c.reach_run.new.path c.in_ok-core.rest.now o) c.in-Some.is c.in_ok-core.ensures.went)

pub returns-then-not-asks-clause-went : goal.returns-then-not-asks-clause-went
returns-then-not-asks-clause-went c =
    run_went c.args.asks c.args.core c.args.path.now c.args.turns c.args.later c.args.frames.now c.in_ok-core.core c.reach_run.new.path c.in_ok-core.rest.now
    (subst (λ (o : Option Place). WentRun c.args.core c.args.path.now c.args.turns c.args.later c.args.frames.now c.in_ok-core.core c.reach_run.new.path c.in_ok-core.rest.now o) c.in_default.is c.in_ok-core.ensures.went)
    c.if-not-asks.true

pub is_at_rest-requires-clause-facts : goal.is_at_rest-requires-clause-facts
is_at_rest-requires-clause-facts c = c.in_ok-core.ensures.went.beside.facts

pub returns-then-rests-clause-went : goal.returns-then-rests-clause-went
returns-then-rests-clause-went c =
    run_rested c.args.asks c.args.core c.args.path.now c.args.turns c.args.later c.args.frames.now c.in_ok-core.core c.reach_run.new.path c.in_ok-core.rest.now
    (subst (λ (o : Option Place). WentRun c.args.core c.args.path.now c.args.turns c.args.later c.args.frames.now c.in_ok-core.core c.reach_run.new.path c.in_ok-core.rest.now o) c.in_default.is c.in_ok-core.ensures.went)
    c.in_ok-core-2.core (subst (Rested c.in_ok-core.core c.in_ok-core-2.core) c.if-rests.true c.in_ok-core-2.ensures.rested)

pub returns-clause-went : goal.returns-clause-went
returns-clause-went c =
    run_worked c.args.asks c.args.core c.args.path.now c.args.turns c.args.later c.args.frames.now c.in_ok-core.core c.reach_run.new.path c.in_ok-core.rest.now
    (subst (λ (o : Option Place). WentRun c.args.core c.args.path.now c.args.turns c.args.later c.args.frames.now c.in_ok-core.core c.reach_run.new.path c.in_ok-core.rest.now o) c.in_default.is c.in_ok-core.ensures.went)
    c.if-not-asks.false c.in_ok-core-2.core (subst (Rested c.in_ok-core.core c.in_ok-core-2.core) c.if-rests.false c.in_ok-core-2.ensures.rested)
