-- What the steps of a turn in rotation, of a command and of a script are.
use Rattle.std.specs.Prelude.{◌≡◌, refl, ℕ, zero, suc, ◌+◌, ◌≤◌, ◌<◌, Bool, true, false, List, [], ◌∷◌, ◌++◌, ◌==◌, if◌then◌else◌}
use Rattle.std.proofs.Common.{ap, ◌∙◌, arith}
use Rattle.application_types.specs.Statements.{IsWithin}
use Rattle.abstract_monitor.specs.declared.command.Command.{Command}
use Rattle.abstract_monitor.specs.declared.command.Command.TheVariants.{Run, Turn, Restart}
use Rattle.abstract_monitor.specs.Commands.{ScriptStep, command_of, in_a_row, next_task, rotated, state_after, steps_of, turned_step}
use Rattle.abstract_monitor.specs.State.{Application, State}
use Rattle.abstract_monitor.specs.Trace.{history}
use Rattle.abstract_monitor.specs.Turns.{turn_of}

-- ---- the state after steps

pub after_none : (s : State) → state_after s [] ≡ s
unfolding state_after
after_none s = refl

pub after_one : (s : State) (d : ScriptStep) → state_after s (d ∷ []) ≡ d.after
unfolding state_after
after_one s d = refl

-- ---- turns in rotation

-- no turns are left
pub rotated_none : (app : Application) (s : State) (task unmoved : ℕ) → rotated app 0 false s task unmoved ≡ []
unfolding rotated
rotated_none app s task unmoved = refl

-- enough turns in a row moved nothing
pub rotated_ended : (app : Application) (n : ℕ) (s : State) (task unmoved : ℕ) → rotated app n true s task unmoved ≡ []
unfolding rotated
rotated_ended app zero s task unmoved = refl
rotated_ended app (suc n) s task unmoved = refl

-- one turn, and those after it
pub rotated_more : (app : Application) (n : ℕ) (s : State) (task unmoved : ℕ)
    → rotated app (suc n) false s task unmoved
    ≡ (turned_step (turn_of app s task) ∷ []) ++ rotated app n (in_a_row (turn_of app s task).moved unmoved == app.generation.limits.tasks) (turn_of app s task).after (next_task app task) (in_a_row (turn_of app s task).moved unmoved)
unfolding rotated
rotated_more app n s task unmoved = refl

-- the next task is one of the tasks
pub next_within : (limit n : ℕ) → IsWithin 1 limit n → IsWithin 1 limit (if n == limit then 1 else n + 1)
next_within limit n w = by (n == limit) refl
  where
    by : (b : Bool) → (n == limit) ≡ b → IsWithin 1 limit (if b then 1 else n + 1)
    by true e = (omega arith, omega (arith, w.0, w.1))
    by false e = let a : n ≤ limit = w.1 in (omega arith, grind arith)

-- ---- a command

run_steps : (app : Application) (s : State) (turns : ℕ) → steps_of app s (Run turns) ≡ rotated app turns false s 1 0
unfolding steps_of
run_steps app s turns = refl

turn_is_step : (app : Application) (s : State) (task : ℕ) → steps_of app s (Turn task) ≡ turned_step (turn_of app s task) ∷ []
unfolding steps_of command_of
turn_is_step app s task = refl

restart_is_step : (app : Application) (s : State) → steps_of app s Restart ≡ command_of app s Restart ∷ []
unfolding steps_of
restart_is_step app s = refl

pub steps_of_run : (app : Application) (s : State) (command : Command) (turns : ℕ) → command ≡ Run turns → steps_of app s command ≡ rotated app turns false s 1 0
steps_of_run app s command turns is = ap (steps_of app s) is ∙ run_steps app s turns

pub steps_of_turn : (app : Application) (s : State) (command : Command) (task : ℕ) → command ≡ Turn task → steps_of app s command ≡ turned_step (turn_of app s task) ∷ []
steps_of_turn app s command task is = ap (steps_of app s) is ∙ turn_is_step app s task

pub steps_of_restart : (app : Application) (s : State) (command : Command) → command ≡ Restart → steps_of app s command ≡ command_of app s Restart ∷ []
steps_of_restart app s command is = ap (steps_of app s) is ∙ restart_is_step app s

-- ---- a script

pub no_history : (app : Application) (s : State) → history app s [] ≡ []
unfolding history
no_history app s = refl

-- the steps of its first command, and those of the others after it
pub history_next : (app : Application) (s : State) (c : Command) (cs : List Command) → history app s (c ∷ cs) ≡ steps_of app s c ++ history app (state_after s (steps_of app s c)) cs
unfolding history
history_next app s c cs = refl
