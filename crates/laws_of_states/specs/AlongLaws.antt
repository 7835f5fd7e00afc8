-- Laws: what each step keeps, and what each step meets, along every script.
use Rattle.std.specs.Prelude.{◌≡◌, refl, ℕ, zero, suc, ◌+◌, ◌≤◌, Bool, true, false, List, [], ◌∷◌, All, ◌==◌, if◌then◌else◌}
use Rattle.std.proofs.Common.{arith}
use Rattle.std.proofs.lemmas.List.Elements.{All-nil, All-cons, All-head, All-tail}
use Rattle.application_types.specs.Statements.{IsWithin}
use Rattle.abstract_monitor.specs.declared.command.Command.{Command}
use Rattle.abstract_monitor.specs.declared.command.Command.TheVariants.{Input, Tick, Run, Turn, Drop, Print, PrintLast, Restart}
use Rattle.abstract_monitor.specs.Commands.{ScriptStep, next_task, in_a_row, turned_step, rotated, state_after, command_of, steps_of}
use Rattle.abstract_monitor.specs.State.{Application, State}
use Rattle.abstract_monitor.specs.Trace.{history}
use Rattle.abstract_monitor.specs.Turns.{turn_of}
use Rattle.laws_of_states.specs.Applications.{IsApplication}
use Rattle.abstract_monitor.specs.CommandsOf.{IsCommandOf}
use Rattle.laws_of_states.specs.EachStep.{EachStep}
use Rattle.laws_of_states.specs.EachStepLaws.{each_both}
use Rattle.laws_of_states.specs.Keeping.{Fact, Leads, IsScriptOf, HoldsAlong}
use Rattle.laws_of_states.specs.Along.{StepLaw, MeetsAlong}

-- each turn and each command from a state with the fact meets the law
pub record EachMeets (fact : Fact) (law : StepLaw) : Type 0 where
  pub turns : (app : Application) (s : State) (task : ℕ) → IsApplication app → IsWithin 1 app.generation.limits.tasks task → fact app s → law app s (turned_step (turn_of app s task))
  pub commands : (app : Application) (s : State) (c : Command) → IsApplication app → IsCommandOf app.generation c → fact app s → law app s (command_of app s c)

module _ (fact : Fact) (kept : Leads fact fact) (law : StepLaw) (each : EachMeets fact law) (app : Application) (is_app : IsApplication app) where
  -- all of some steps meet the law, and the fact holds after them
  record Meets (s : State) (steps : List ScriptStep) : Type 0 where
    all : EachStep (law app) s steps
    last : fact app (state_after s steps)

  -- the next task in rotation is one of the tasks
  next_within : (task : ℕ) → IsWithin 1 app.generation.limits.tasks task → IsWithin 1 app.generation.limits.tasks (next_task app task)
  next_within task w = by (task == app.generation.limits.tasks) refl
    where
      by : (b : Bool) → (task == app.generation.limits.tasks) ≡ b → IsWithin 1 app.generation.limits.tasks (if b then 1 else task + 1)
      by true e = (omega arith, is_app.tasks)
      by false e = let a : task ≤ app.generation.limits.tasks = w.1 in (omega arith, grind arith)

  turns_meet : (n : ℕ) (ended : Bool) (s : State) (task unmoved : ℕ) → IsWithin 1 app.generation.limits.tasks task → fact app s → Meets s (rotated app n ended s task unmoved)
  unfolding rotated state_after
  turns_meet zero ended s task unmoved w h = record { all = tt; last = h }
  turns_meet (suc n) true s task unmoved w h = record { all = tt; last = h }
  turns_meet (suc n) false s task unmoved w h =
      let turned = turn_of app s task in
      let row = in_a_row turned.moved unmoved in
      let rest = turns_meet n (row == app.generation.limits.tasks) turned.after (next_task app task) row (next_within task w) (kept.turns app s task is_app w h) in
      record { all = (each.turns app s task is_app w h, rest.all); last = rest.last }

  one_meets : (s : State) (c : Command) → IsCommandOf app.generation c → fact app s → Meets s (command_of app s c ∷ [])
  unfolding state_after
  one_meets s c w h = record { all = (each.commands app s c is_app w h, tt); last = kept.commands app s c is_app w h }

  steps_meet : (s : State) (c : Command) → IsCommandOf app.generation c → fact app s → Meets s (steps_of app s c)
  unfolding steps_of
  steps_meet s (Run turns) w h = turns_meet turns false s 1 0 (omega arith, is_app.tasks) h
  steps_meet s (Input pterm text) w h = one_meets s (Input pterm text) w h
  steps_meet s (Tick ticks) w h = one_meets s (Tick ticks) w h
  steps_meet s (Turn task) w h = one_meets s (Turn task) w h
  steps_meet s (Drop pterm) w h = one_meets s (Drop pterm) w h
  steps_meet s (Print pterm) w h = one_meets s (Print pterm) w h
  steps_meet s (PrintLast pterm) w h = one_meets s (PrintLast pterm) w h
  steps_meet s Restart w h = one_meets s Restart w h

  script_meets : (script : List Command) (s : State) → IsScriptOf app script → fact app s → EachStep (law app) s (history app s script)
  unfolding history
  script_meets [] s w h = tt
  script_meets (c ∷ cs) s w h =
      let here = steps_meet s c (All-head (IsCommandOf app.generation) c cs w) h in
      let steps = steps_of app s c in
      each_both (law app) s steps (history app (state_after s steps) cs) here.all
      (script_meets cs (state_after s steps) (All-tail (IsCommandOf app.generation) c cs w) here.last)

-- what each step from a state with a fact that each step keeps meets, each step of a script meets
pub meets_along : (fact : Fact) → Leads fact fact → (law : StepLaw) → EachMeets fact law → MeetsAlong fact law
meets_along fact kept law each app s script is_app w h = script_meets fact kept law each app is_app script s w h

-- a fact that each step keeps holds after each step of a script
pub holds_along : (fact : Fact) → Leads fact fact → HoldsAlong fact
holds_along fact kept app s script is_app w h = after_each s (history app s script) (meets_along fact kept behind each app s script is_app w h)
  where
    behind : StepLaw
    behind app s d = fact app d.after

    each : EachMeets fact behind
    each = record { turns = kept.turns; commands = kept.commands }

    after_each : (s : State) (steps : List ScriptStep) → EachStep (behind app) s steps → All (λ (d : ScriptStep). fact app d.after) steps
    after_each s [] h = All-nil (λ (d : ScriptStep). fact app d.after)
    after_each s (d ∷ ds) h = All-cons (λ (d : ScriptStep). fact app d.after) d ds h.0 (after_each d.after ds h.1)
