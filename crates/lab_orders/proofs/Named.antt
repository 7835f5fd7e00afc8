-- The script that a walk stands for names what the generation has.
use Rattle.std.proofs.Common.{ℕ, zero, suc, ◌≤◌, List, [], ◌∷◌, arith}
use Rattle.std.proofs.lemmas.List.Elements.{All-nil, All-cons, All-head, All-tail}
use Rattle.abstract_monitor.specs.CommandsOf.{IsCommandOf}
use Rattle.abstract_monitor.specs.State.{Application}
use Rattle.abstract_monitor.specs.declared.command.Command.{Command}
use Rattle.abstract_monitor.specs.declared.command.Command.TheVariants.{Input, Tick, Run, Turn, Drop, Print, PrintLast, Restart}
use Rattle.laws_of_states.specs.Keeping.{IsScriptOf}
use Rattle.lab_walks.specs.Orders.{turned_run, turned_script}
use Rattle.lab_orders.specs.Laws.{WalksAreScripts}
use Rattle.lab_orders.specs.Performing.{AreTasks}
use Rattle.lab_orders.proofs.Performing.{walk_tasks}

module _ (app : Application) where
  run_names : (n : ℕ) (follows : List ℕ → List Command) (walk : List ℕ) → ((w : List ℕ) → AreTasks app w → IsScriptOf app (follows w)) → AreTasks app walk → IsScriptOf app (turned_run n follows walk)
  unfolding turned_run
  run_names zero follows walk then tasks = then walk tasks
  run_names (suc n) follows [] then tasks = then [] tasks
  run_names (suc n) follows (zero ∷ walk) then tasks = then walk (All-tail (λ t. t ≤ app.generation.limits.tasks) zero walk tasks)
  run_names (suc n) follows (suc t ∷ walk) then tasks =
      let most : suc t ≤ app.generation.limits.tasks = All-head (λ t. t ≤ app.generation.limits.tasks) (suc t) walk tasks in
      All-cons (IsCommandOf app.generation) (Turn (suc t)) (turned_run n follows walk) (omega arith, most) (run_names n follows walk then (All-tail (λ t. t ≤ app.generation.limits.tasks) (suc t) walk tasks))

  -- a command that is no RUN, before those behind it
  next_names : (c : Command) (cs turned : List Command) → IsScriptOf app (c ∷ cs) → IsScriptOf app turned → IsScriptOf app (c ∷ turned)
  next_names c cs turned names behind = All-cons (IsCommandOf app.generation) c turned (All-head (IsCommandOf app.generation) c cs names) behind

  script_names : (cs : List Command) (walk : List ℕ) → IsScriptOf app cs → AreTasks app walk → IsScriptOf app (turned_script cs walk)
  unfolding turned_script
  script_names [] walk names tasks = All-nil (IsCommandOf app.generation)
  script_names (Run turns ∷ cs) walk names tasks = run_names turns (turned_script cs) walk (λ w t. script_names cs w (All-tail (IsCommandOf app.generation) (Run turns) cs names) t) tasks
  script_names (Input pterm text ∷ cs) walk names tasks = next_names (Input pterm text) cs (turned_script cs walk) names (script_names cs walk (All-tail (IsCommandOf app.generation) (Input pterm text) cs names) tasks)
  script_names (Tick ticks ∷ cs) walk names tasks = next_names (Tick ticks) cs (turned_script cs walk) names (script_names cs walk (All-tail (IsCommandOf app.generation) (Tick ticks) cs names) tasks)
  script_names (Turn task ∷ cs) walk names tasks = next_names (Turn task) cs (turned_script cs walk) names (script_names cs walk (All-tail (IsCommandOf app.generation) (Turn task) cs names) tasks)
  script_names (Drop pterm ∷ cs) walk names tasks = next_names (Drop pterm) cs (turned_script cs walk) names (script_names cs walk (All-tail (IsCommandOf app.generation) (Drop pterm) cs names) tasks)
  script_names (Print pterm ∷ cs) walk names tasks = next_names (Print pterm) cs (turned_script cs walk) names (script_names cs walk (All-tail (IsCommandOf app.generation) (Print pterm) cs names) tasks)
  script_names (PrintLast pterm ∷ cs) walk names tasks = next_names (PrintLast pterm) cs (turned_script cs walk) names (script_names cs walk (All-tail (IsCommandOf app.generation) (PrintLast pterm) cs names) tasks)
  script_names (Restart ∷ cs) walk names tasks = next_names Restart cs (turned_script cs walk) names (script_names cs walk (All-tail (IsCommandOf app.generation) Restart cs names) tasks)

pub walks_are_scripts : WalksAreScripts
walks_are_scripts app cs s walk names is = script_names app cs walk names (walk_tasks app cs s walk is)
