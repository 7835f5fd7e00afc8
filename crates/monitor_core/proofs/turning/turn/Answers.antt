use Rattle.std.specs.Prelude.{None, Some, refl}
use Rattle.std.proofs.Common.{◌+◌, ◌∙◌}
use Rattle.std.proofs.lemmas.Result.{IfOk-weaker}
use Rattle.service_ends.specs.Ending.{turned_to}
use Rattle.service_ends.specs.Standing.{state_of}
use Rattle.service_ends.specs.Whole.{app_of}
use Rattle.monitor_core.specs.WholeLaws.{is_task, more_steps, seat_of, turned_free, turned_held, whole_after, whole_served}
use Rattle.monitor_core.proofs.turning.turn.Goals as goal

pub returns-in_ok-did-in-None-clause-exact : goal.returns-in_ok-did-in-None-clause-exact
returns-in_ok-did-in-None-clause-exact c =
    c.in_ok-did-in-None.ensures.exact
    ∙ turned_free (app_of c.args.parts.now) (state_of c.args.parts.now) c.args.task (seat_of c.args.parts.now c.args.task (is_task (app_of c.args.parts.now) (state_of c.args.parts.now) c.args.parts.now c.args.task c.requires.whole.facts.0 c.requires.task refl) None c.in-None.ensures)

pub returns-in_ok-did-in-None-clause-whole : goal.returns-in_ok-did-in-None-clause-whole
returns-in_ok-did-in-None-clause-whole c =
    whole_after c.args.parts.now (record c.take.new.parts { steps = c.take.new.parts.steps + 1 }) c.args.task (turned_to (state_of c.take.new.parts) c.in_ok-did-in-None.did)
    c.states_stay_consistent.ensures.turns c.states_stay_sound.ensures c.requires.whole c.requires.task
    c.in_ok-did-in-None.ensures.same.generation c.in_ok-did-in-None.ensures.same.units (more_steps c.take.new.parts c.in_ok-did-in-None.ensures.indexed) refl
    (c.in_ok-did-in-None.ensures.exact
    ∙ turned_free (app_of c.args.parts.now) (state_of c.args.parts.now) c.args.task (seat_of c.args.parts.now c.args.task (is_task (app_of c.args.parts.now) (state_of c.args.parts.now) c.args.parts.now c.args.task c.requires.whole.facts.0 c.requires.task refl) None c.in-None.ensures))

pub returns-in-Some-clause-exact : goal.returns-in-Some-clause-exact
returns-in-Some-clause-exact c =
    IfOk-weaker c.serve.result _ _ (λ did e.
    e ∙ turned_held (app_of c.args.parts.now) (state_of c.args.parts.now) c.args.task c.in-Some.id (seat_of c.args.parts.now c.args.task (is_task (app_of c.args.parts.now) (state_of c.args.parts.now) c.args.parts.now c.args.task c.requires.whole.facts.0 c.requires.task refl) (Some c.in-Some.id) c.in-Some.ensures))
    c.serve.ensures.exact

pub returns-in-Some-clause-whole : goal.returns-in-Some-clause-whole
returns-in-Some-clause-whole c =
    whole_served c.args.parts.now c.serve.new.parts c.args.task c.in-Some.id c.states_stay_consistent.ensures.turns c.states_stay_sound.ensures c.requires.whole c.requires.task
    (seat_of c.args.parts.now c.args.task (is_task (app_of c.args.parts.now) (state_of c.args.parts.now) c.args.parts.now c.args.task c.requires.whole.facts.0 c.requires.task refl) (Some c.in-Some.id) c.in-Some.ensures)
    c.serve.result c.serve.ensures.exact c.serve.ensures.indexed c.serve.ensures.generation c.serve.ensures.units
