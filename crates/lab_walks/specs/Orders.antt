-- The orders in which the tasks of a script can work.
use Rattle.std.specs.Prelude.{◌≡◌, ℕ, zero, suc, ◌-◌, Bool, true, false, ◌&&◌, ◌||◌, not, ◌==◌, List, [], ◌∷◌, slice_get, Option, Some, None, if◌then◌else◌}
use Rattle.std.specs.List.{list_any}
use Rattle.std.specs.FinMap.{find}
use Rattle.application_types.specs.Statements.{IsWithin}
use Rattle.kdcs_types.specs.declared.key.ServiceId.{ServiceId}
use Rattle.kdcs_types.specs.Keys.{area_eq, id_cmp}
use Rattle.abstract_monitor.specs.declared.command.Command.{Command}
use Rattle.abstract_monitor.specs.declared.command.Command.TheVariants.{Input, Tick, Run, Turn, Drop, Print, PrintLast, Restart}
use Rattle.abstract_monitor.specs.Commands.{ScriptStep, command_of}
use Rattle.abstract_monitor.specs.Locks.{Waiting}
use Rattle.abstract_monitor.specs.State.{Application, State}
use Rattle.abstract_monitor.specs.Trace.{history}
use Rattle.abstract_monitor.specs.Turns.{turn_of}

-- ---- the effect of a turn

-- the request that waits of the service in a task, if it has one
abbrev pub wait_by : State → Option (Option ServiceId) → Option Waiting
wait_by s None = None
wait_by s (Some None) = None
wait_by s (Some (Some id)) = find id_cmp id s.waits

abbrev pub wait_in : State → (task : ℕ) → Option Waiting
wait_in s task = wait_by s (slice_get s.tasks (task - 1))

-- the same request, since the same clock
abbrev pub same_wait : Option Waiting → Option Waiting → Bool
same_wait None None = true
same_wait None (Some w) = false
same_wait (Some v) None = false
same_wait (Some v) (Some w) = area_eq v.0 w.0 && v.1 == w.1

-- a turn has an effect where it moves something, or where its request begins to wait
unfoldable pub has_effect : Application → State → (task : ℕ) → Bool
has_effect app s task = (turn_of app s task).moved || not (same_wait (wait_in s task) (wait_in (turn_of app s task).after task))

-- the turn of one of the tasks that has an effect
pub record IsTurn (app : Application) (s : State) (task : ℕ) : Type 0 where
  pub within : IsWithin 1 app.generation.limits.tasks task
  pub effect : has_effect app s task ≡ true

-- no task's turn has an effect
abbrev pub IsAtRest : Application → State → Type 0
IsAtRest app s = (task : ℕ) → IsTurn app s task → ⊥

-- ---- orders

-- the task is in the list
abbrev pub is_in : (task : ℕ) → List ℕ → Bool
is_in task tasks = list_any (λ t. t == task) tasks

-- a turn of a task other than these, which had turns without effect since the last turn with one
pub record IsNext (app : Application) (idle : List ℕ) (task : ℕ) : Type 0 where
  pub within : IsWithin 1 app.generation.limits.tasks task
  pub other : is_in task idle ≡ false

-- the one where a turn has an effect, else the other
abbrev pub by_effect : Bool → Type 0 → Type 0 → Type 0
by_effect true moved idle = moved
by_effect false moved idle = idle

-- the turns of a RUN of at most so many, and behind them the order of what follows: any task's turn, but a task that found nothing to do, or waits on, has its next one only after a turn with an effect; 0 ends the RUN before its last turn, where no task's turn has an effect any more
unfoldable pub RunsSo : Application → (turns : ℕ) → (idle : List ℕ) → (State → List ℕ → Type 0) → State → List ℕ → Type 0
RunsSo app zero idle Follows s order = Follows s order
RunsSo app (suc n) idle Follows s [] = ⊥
RunsSo app (suc n) idle Follows s (zero ∷ order) = IsAtRest app s × Follows s order
RunsSo app (suc n) idle Follows s (suc t ∷ order) =
    IsNext app idle (suc t) × by_effect (has_effect app s (suc t)) (RunsSo app n [] Follows (turn_of app s (suc t)).after order) (RunsSo app n (suc t ∷ idle) Follows s order)

-- the turns of all RUNs of a script, one after another
unfoldable pub IsOrder : Application → List Command → State → List ℕ → Type 0
IsOrder app [] s order = order ≡ []
IsOrder app (Run turns ∷ cs) s order = RunsSo app turns [] (IsOrder app cs) s order
IsOrder app (Input pterm text ∷ cs) s order = IsOrder app cs (command_of app s (Input pterm text)).after order
IsOrder app (Tick ticks ∷ cs) s order = IsOrder app cs (command_of app s (Tick ticks)).after order
IsOrder app (Turn task ∷ cs) s order = IsOrder app cs (command_of app s (Turn task)).after order
IsOrder app (Drop pterm ∷ cs) s order = IsOrder app cs (command_of app s (Drop pterm)).after order
IsOrder app (Print pterm ∷ cs) s order = IsOrder app cs (command_of app s (Print pterm)).after order
IsOrder app (PrintLast pterm ∷ cs) s order = IsOrder app cs (command_of app s (PrintLast pterm)).after order
IsOrder app (Restart ∷ cs) s order = IsOrder app cs (command_of app s Restart).after order

-- ---- an order without its turns without effect

-- of a RUN: 0 stands at its end where it is over before so many turns with an effect
unfoldable pub worked_run : Application → (turns effects : ℕ) → (State → List ℕ → List ℕ) → State → List ℕ → List ℕ
worked_run app zero zero follows s order = follows s order
worked_run app zero (suc m) follows s order = 0 ∷ follows s order
worked_run app (suc n) m follows s [] = []
worked_run app (suc n) m follows s (zero ∷ order) = 0 ∷ follows s order
worked_run app (suc n) m follows s (suc t ∷ order) =
    if has_effect app s (suc t) then suc t ∷ worked_run app n (m - 1) follows (turn_of app s (suc t)).after order else worked_run app n m follows s order

-- of a script
unfoldable pub worked : Application → List Command → State → List ℕ → List ℕ
worked app [] s order = []
worked app (Run turns ∷ cs) s order = worked_run app turns turns (worked app cs) s order
worked app (Input pterm text ∷ cs) s order = worked app cs (command_of app s (Input pterm text)).after order
worked app (Tick ticks ∷ cs) s order = worked app cs (command_of app s (Tick ticks)).after order
worked app (Turn task ∷ cs) s order = worked app cs (command_of app s (Turn task)).after order
worked app (Drop pterm ∷ cs) s order = worked app cs (command_of app s (Drop pterm)).after order
worked app (Print pterm ∷ cs) s order = worked app cs (command_of app s (Print pterm)).after order
worked app (PrintLast pterm ∷ cs) s order = worked app cs (command_of app s (PrintLast pterm)).after order
worked app (Restart ∷ cs) s order = worked app cs (command_of app s Restart).after order

-- ---- the script with TURN commands in place of RUNs

-- the TURN commands of a RUN, and then what follows
unfoldable pub turned_run : (turns : ℕ) → (List ℕ → List Command) → List ℕ → List Command
turned_run zero follows order = follows order
turned_run (suc n) follows [] = follows []
turned_run (suc n) follows (zero ∷ order) = follows order
turned_run (suc n) follows (suc t ∷ order) = Turn (suc t) ∷ turned_run n follows order

-- the script that an order stands for: TURN commands, and no RUN
unfoldable pub turned_script : List Command → List ℕ → List Command
turned_script [] order = []
turned_script (Run turns ∷ cs) order = turned_run turns (turned_script cs) order
turned_script (Input pterm text ∷ cs) order = Input pterm text ∷ turned_script cs order
turned_script (Tick ticks ∷ cs) order = Tick ticks ∷ turned_script cs order
turned_script (Turn task ∷ cs) order = Turn task ∷ turned_script cs order
turned_script (Drop pterm ∷ cs) order = Drop pterm ∷ turned_script cs order
turned_script (Print pterm ∷ cs) order = Print pterm ∷ turned_script cs order
turned_script (PrintLast pterm ∷ cs) order = PrintLast pterm ∷ turned_script cs order
turned_script (Restart ∷ cs) order = Restart ∷ turned_script cs order

-- its steps
abbrev pub order_steps : Application → List Command → State → List ℕ → List ScriptStep
order_steps app cs s order = history app s (turned_script cs order)
