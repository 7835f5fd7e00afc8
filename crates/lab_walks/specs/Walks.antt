-- Walks: what a search goes through. A walk is an order without its turns without effect.
use Rattle.std.specs.Prelude.{◌≡◌, ◌⊎◌, ◌+◌, ◌≤◌, ℕ, zero, suc, List, [], ◌∷◌, ◌++◌, if◌then◌else◌}
use Rattle.abstract_monitor.specs.declared.command.Command.{Command}
use Rattle.abstract_monitor.specs.declared.command.Command.TheVariants.{Input, Tick, Run, Turn, Drop, Print, PrintLast, Restart}
use Rattle.abstract_monitor.specs.Commands.{command_of}
use Rattle.abstract_monitor.specs.State.{Application, State}
use Rattle.abstract_monitor.specs.Turns.{turn_of}
use Rattle.lab_walks.specs.Orders.{IsAtRest, IsTurn, has_effect}

-- how many of so many tasks, from this one on, have turns without effect
abbrev pub idle_from : Application → State → (task tasks : ℕ) → ℕ
idle_from app s task zero = 0
idle_from app s task (suc n) = (if has_effect app s task then 0 else 1) + idle_from app s (task + 1) n

-- how many tasks have turns without effect
abbrev pub idle_count : Application → State → ℕ
idle_count app s = idle_from app s 1 app.generation.limits.tasks

-- where turns lead: into a RUN that has some turns left, one more than this, after at most so many turns of this RUN without effect; or to the end of the script
pub data Spot : Type 0 where
  InRun : (left room : ℕ) → State → Spot
  AtEnd : State → Spot

-- in a RUN of so many turns
unfoldable pub stand_run : Application → (turns room : ℕ) → (State → List ℕ → Spot) → State → List ℕ → Spot
stand_run app zero room follows s walk = follows s walk
stand_run app (suc n) room follows s [] = InRun n room s
stand_run app (suc n) room follows s (zero ∷ walk) = follows s walk
stand_run app (suc n) room follows s (suc t ∷ walk) = stand_run app n (room + idle_count app s) follows (turn_of app s (suc t)).after walk

-- in a script
unfoldable pub stand : Application → List Command → State → List ℕ → Spot
stand app [] s walk = AtEnd s
stand app (Run turns ∷ cs) s walk = stand_run app turns 0 (stand app cs) s walk
stand app (Input pterm text ∷ cs) s walk = stand app cs (command_of app s (Input pterm text)).after walk
stand app (Tick ticks ∷ cs) s walk = stand app cs (command_of app s (Tick ticks)).after walk
stand app (Turn task ∷ cs) s walk = stand app cs (command_of app s (Turn task)).after walk
stand app (Drop pterm ∷ cs) s walk = stand app cs (command_of app s (Drop pterm)).after walk
stand app (Print pterm ∷ cs) s walk = stand app cs (command_of app s (Print pterm)).after walk
stand app (PrintLast pterm ∷ cs) s walk = stand app cs (command_of app s (PrintLast pterm)).after walk
stand app (Restart ∷ cs) s walk = stand app cs (command_of app s Restart).after walk

-- what can be next there: a turn with an effect; or 0, where the RUN is over, since no task's turn has an effect, or since its turns are spent with as many without effect as there may have been
abbrev pub CanBe : Application → Spot → ℕ → Type 0
CanBe app (AtEnd s) t = ⊥
CanBe app (InRun left room s) zero = IsAtRest app s ⊎ (left + 1 ≤ room + idle_count app s)
CanBe app (InRun left room s) (suc t) = IsTurn app s (suc t)

abbrev pub IsEnd : Spot → Type 0
IsEnd (InRun left room s) = ⊥
IsEnd (AtEnd s) = Unit {0}

-- each turn of it can be next where those before it lead, and all of them lead to the end
pub record IsWalk (app : Application) (cs : List Command) (s : State) (walk : List ℕ) : Type 0 where
  pub can : (before : List ℕ) (t : ℕ) (behind : List ℕ) → walk ≡ before ++ t ∷ behind → CanBe app (stand app cs s before) t
  pub end : IsEnd (stand app cs s walk)
