use Rattle.std.proofs.Common.{ℕ, List, ◌+◌, arith, sym, ap, subst, ◌∙◌}
use Rattle.std.specs.Prelude.{sum_by}
use Rattle.abstract_monitor.specs.Commands.{started}
use Rattle.abstract_monitor.specs.State.{Application}
use Rattle.monitor_core.specs.CoreValue.{CoreValue}
use Rattle.lab_orders.specs.Searching.{CanGo, state_at}
use Rattle.lab_walks.specs.Frames.{IsWay, turns_in}
use Rattle.lab_orders.specs.Walking.{tries_of}
use Rattle.lab_walks.specs.Walks.{stand}
use Rattle.lab_orders.proofs.Searching.{Trying, trying_effect, trying_idle, trying_over, trying_start, trying_within}
use Rattle.lab_orders.proofs.search.try_tasks.Goals as goal
use Rattle.lab_orders.proofs.search.try_tasks.Goals.{then-moved+in_ok-push+in_ok-core, else-moved}

pub loop-at-init : goal.loop-at-init
loop-at-init c = trying_start c.args.core _ c.new-choices.result c.new-choices.ensures c.requires.facts c.requires.steps

pub try_effect-requires-clause-facts : goal.try_effect-requires-clause-facts
try_effect-requires-clause-facts c = c.loop-at.invariant.same.facts

pub try_effect-requires-clause-task : goal.try_effect-requires-clause-task
try_effect-requires-clause-task c = trying_within _ _ _ _ _ _ c.loop-at.invariant (omega arith)

pub try_effect-requires-clause-steps : goal.try_effect-requires-clause-steps
try_effect-requires-clause-steps c = omega (arith, c.loop-at.invariant.steps_are, c.requires.go.tries)

pub again-requires-clause-go : goal.again-requires-clause-go
again-requires-clause-go c = subst (λ (a : Application). CanGo a c.args.tables.now c.args.commands.now) (sym (c.in_ok-next.ensures.tried.application ∙ c.loop-at.invariant.same.application)) c.requires.go

pub again-requires-clause-way : goal.again-requires-clause-way
again-requires-clause-way c = subst (λ (a : Application). IsWay a c.args.commands.now (started a c.args.tables.now) c.args.frames.now) (sym (c.in_ok-next.ensures.tried.application ∙ c.loop-at.invariant.same.application)) c.requires.way

pub loop-at-preserved : goal.loop-at-preserved
loop-at-preserved c =
    let tries = sum_by tries_of c.args.commands.now in
    let app = c.in_ok-next.ensures.tried.application ∙ c.loop-at.invariant.same.application in
    elim c.if-moved.branch as (λ _. Trying c.args.core c.if-moved.core tries (c.loop-at.at + 1) c.if-moved.choices c.if-moved.idle) [
      | then-moved+in_ok-push+in_ok-core w ↦
          subst (λ (x : CoreValue × List ℕ × ℕ). Trying c.args.core x.0 tries (c.loop-at.at + 1) x.1 x.2) (λ i. (sym w.core-is i, sym (w.choices-is ∙ w.in_ok-push.ensures.ok) i, sym w.idle-is i))
          (trying_effect _ _ _ _ _ _ c.loop-at.invariant (omega arith) c.in_ok-next.next w.in_ok-core.core c.in_ok-next.moved c.in_ok-next.ensures.tried w.if-moved.true
          (record {
            application = w.in_ok-core.ensures.application ∙ app;
            state = sym w.in_ok-core.ensures.state ∙ ap (λ (a : Application). state_at (stand a c.args.commands.now (started a c.args.tables.now) (turns_in c.args.frames.now))) app ∙ c.requires.here;
            facts = w.in_ok-core.ensures.facts;
          })
          w.in_ok-core.ensures.steps)
      | else-moved w ↦
          subst (λ (x : CoreValue × List ℕ × ℕ). Trying c.args.core x.0 tries (c.loop-at.at + 1) x.1 x.2) (λ i. (sym w.core-is i, sym w.choices-is i, sym w.idle-is i))
          (trying_idle _ _ _ _ _ _ c.loop-at.invariant (omega arith) c.in_ok-next.next c.in_ok-next.moved c.in_ok-next.ensures.tried w.if-moved.false c.in_ok-next.ensures.steps)
    ]

pub returns-clause-same : goal.returns-clause-same
returns-clause-same c = c.loop-at.invariant.same

pub returns-clause-tried : goal.returns-clause-tried
returns-clause-tried c = trying_over _ _ _ _ _ _ c.loop-at.invariant (omega (arith, c.tasks-tasks.ensures))
