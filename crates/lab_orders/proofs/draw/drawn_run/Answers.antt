use Rattle.std.proofs.Common.{ℕ, ◌+◌, ◌∷◌, [], arith, sym, subst, ◌≡◌}
use Rattle.std.specs.Prelude.{true, All, Option, IfNone, IfSome}
use Rattle.abstract_monitor.specs.declared.command.Command.TheVariants.{Run}
use Rattle.service_ends.specs.declared.turned.Turned.{Turned as Did}
use Rattle.lab_orders.specs.declared.path.Path.{Path}
use Rattle.lab_orders.specs.declared.resting.Resting.{Resting}
use Rattle.lab_orders.specs.Drawing.{Drew, IsAwake}
use Rattle.lab_orders.specs.Trying.{Tried}
use Rattle.lab_orders.proofs.Drawing.{Drawing, drawing_effect, drawing_none, drawing_over, drawing_rests, drawing_spent, drawing_start, drawing_tasks, effect_durable, effect_is_kept}
use Rattle.lab_orders.proofs.draw.drawn_run.Goals as goal
use Rattle.lab_orders.proofs.draw.drawn_run.Goals.{in-Some-did+in_ok-take+in_ok-resting-2, in_default-did}
use Rattle.lab_orders.proofs.draw.drawn_run.Goals.{then-effects-turns+in_ok-end_run-2, else-effects-turns}

pub loop-made-init : goal.loop-made-init
loop-made-init c = drawing_start c.args.core c.args.path.now c.args.turns c.tasks-tasks.result c.in_ok-resting.resting.tasks.items c.requires.beside c.tasks-tasks.ensures c.in_ok-resting.ensures

pub draw-requires : goal.draw-requires
draw-requires c = let tasks = drawing_tasks _ _ _ _ _ _ _ _ c.loop-made.invariant c.tasks-tasks.result c.tasks-tasks.ensures in omega (arith, tasks)

pub returns-in_default-clause-drew : goal.returns-in_default-clause-drew
returns-in_default-clause-drew c =
    drawing_rests _ _ _ _ _ _ _ _ c.loop-made.invariant (omega (arith, c.loop-made.invariant.few))
    (subst (λ (o : Option ℕ). IfNone o (All (λ rests. rests ≡ true) c.loop-made.resting.tasks.items)) c.in_default.is c.draw.ensures.none)
    c.end_run.new.self c.in_ok-end_run.ensures.turns c.end_run.ensures.durable

pub try_turn-requires-clause-task : goal.try_turn-requires-clause-task
try_turn-requires-clause-task c =
    let awake : IsAwake c.loop-made.resting.tasks.items c.in-Some.task = subst (λ (o : Option ℕ). IfSome o (λ task. IsAwake c.loop-made.resting.tasks.items task)) c.in-Some.is c.draw.ensures.some in
    (awake.least, omega (arith, awake.most, c.loop-made.invariant.tasks))

pub take-requires : goal.take-requires
take-requires c =
    effect_is_kept c.steps_commit_once.ensures.tables c.steps_commit_once.ensures.turns c.loop-made.core c.in_ok-next.next c.in-Some.task c.in-Some-did.did c.loop-made.invariant.beside.facts
    (subst (λ (o : Option Did). Tried c.loop-made.core c.in-Some.task c.in_ok-next.next o) c.in-Some-did.is c.in_ok-next.ensures.tried)

pub loop-made-preserved : goal.loop-made-preserved
loop-made-preserved c =
    let awake : IsAwake c.loop-made.resting.tasks.items c.in-Some.task = subst (λ (o : Option ℕ). IfSome o (λ task. IsAwake c.loop-made.resting.tasks.items task)) c.in-Some.is c.draw.ensures.some in
    elim c.match-did.branch as (λ _. Drawing c.args.core c.in_ok-next.next c.args.path.now c.match-did.path c.args.turns (c.loop-made._made + 1) c.match-did.effects c.match-did.resting.tasks.items) [
      | in-Some-did+in_ok-take+in_ok-resting-2 w ↦
          let tried = subst (λ (o : Option Did). Tried c.loop-made.core c.in-Some.task c.in_ok-next.next o) w.in-Some-did.is c.in_ok-next.ensures.tried in
          subst (λ (x : Path × ℕ × Resting). Drawing c.args.core c.in_ok-next.next c.args.path.now x.0 c.args.turns (c.loop-made._made + 1) x.1 x.2.tasks.items) (λ i. (sym w.path-is i, sym w.effects-is i, sym w.resting-is i))
          (drawing_effect _ _ _ _ _ _ _ _ c.loop-made.invariant (omega (arith, c.loop-made.invariant.few)) c.in-Some.task awake c.in_ok-next.next w.in-Some-did.did tried c.in_ok-next.ensures.steps w.take.new.self w.in_ok-take.ensures.turns
          (effect_durable c.steps_commit_once.ensures.tables c.steps_commit_once.ensures.turns c.loop-made.core c.in_ok-next.next c.in-Some.task w.in-Some-did.did c.loop-made.invariant.beside.facts tried c.loop-made.path.durable w.take.new.self.durable c.loop-made.invariant.beside.durable w.in_ok-take.ensures.durable)
          c.tasks-tasks.result c.tasks-tasks.ensures w.in_ok-resting-2.resting.tasks.items w.in_ok-resting-2.ensures)
      | in_default-did w ↦
          let tried = subst (λ (o : Option Did). Tried c.loop-made.core c.in-Some.task c.in_ok-next.next o) w.in_default-did.is c.in_ok-next.ensures.tried in
          subst (λ (x : Path × ℕ × Resting). Drawing c.args.core c.in_ok-next.next c.args.path.now x.0 c.args.turns (c.loop-made._made + 1) x.1 x.2.tasks.items) (λ i. (sym w.path-is i, sym w.effects-is i, sym w.resting-is i))
          (drawing_none _ _ _ _ _ _ _ _ c.loop-made.invariant c.in-Some.task awake c.in_ok-next.next tried c.in_ok-next.ensures.steps w.rest.new.self.tasks.items w.rest.ensures)
    ]

pub returns-clause-drew : goal.returns-clause-drew
returns-clause-drew c =
    elim c.if-effects-turns.branch as (λ _. Drew c.args.core c.args.path.now (Run c.args.turns ∷ []) c.loop-made.core c.if-effects-turns.path) [
      | then-effects-turns+in_ok-end_run-2 w ↦
          subst (Drew c.args.core c.args.path.now (Run c.args.turns ∷ []) c.loop-made.core) (sym w.path-is)
          (drawing_spent _ _ _ _ _ _ _ _ c.loop-made.invariant w.if-effects-turns.true (omega arith) w.end_run-then-effects-turns.new.self w.in_ok-end_run-2.ensures.turns w.end_run-then-effects-turns.ensures.durable)
      | else-effects-turns w ↦
          subst (Drew c.args.core c.args.path.now (Run c.args.turns ∷ []) c.loop-made.core) (sym w.path-is)
          (drawing_over _ _ _ _ _ _ _ _ c.loop-made.invariant w.if-effects-turns.false)
    ]
