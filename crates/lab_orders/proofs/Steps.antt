-- The steps of one turn of a RUN, and of a command.
use Rattle.std.proofs.Common.{◌≡◌, ℕ, ◌+◌, suc, List, [], ◌∷◌, refl, sym, subst}
use Rattle.abstract_monitor.specs.declared.command.Command.{Command}
use Rattle.abstract_monitor.specs.declared.command.Command.TheVariants.{Input, Tick, Run, Turn, Drop, Print, PrintLast, Restart}
use Rattle.abstract_monitor.specs.Commands.{ScriptStep, command_of, state_after, steps_of, turned_step}
use Rattle.abstract_monitor.specs.State.{Application, State}
use Rattle.abstract_monitor.specs.Trace.{history}
use Rattle.abstract_monitor.specs.Turns.{turn_of}
use Rattle.lab_walks.specs.Orders.{order_steps, turned_run, turned_script}
use Rattle.lab_orders.specs.Walking.{IsNoRun}
use Rattle.lab_walks.specs.Walks.{AtEnd, InRun, Spot, idle_count, stand, stand_run}

pub no_acts_after : (s : State) → state_after s [] ≡ s
unfolding state_after
no_acts_after s = refl

pub after_one : (s : State) (d : ScriptStep) (ds : List ScriptStep) → state_after s (d ∷ ds) ≡ state_after d.after ds
unfolding state_after
after_one s d ds = refl

-- the same at equal applications and states
pub moved : (P : Application → State → Type 0) {app app' : Application} {s s' : State} → app' ≡ app → s' ≡ s → P app s → P app' s'
moved P same state h = subst (λ (p : Application × State). P p.0 p.1) (λ i. (sym same i, sym state i)) h

-- ---- a RUN

module _ (app : Application) (s : State) where
  pub turn_steps : (n : ℕ) (follows : List ℕ → List Command) (t : ℕ) (o : List ℕ) → history app s (turned_run (suc n) follows (suc t ∷ o)) ≡ turned_step (turn_of app s (suc t)) ∷ history app (turn_of app s (suc t)).after (turned_run n follows o)
  unfolding turned_run history steps_of command_of state_after
  turn_steps n follows t o = refl

  pub rest_steps : (n : ℕ) (follows : List ℕ → List Command) (o : List ℕ) → history app s (turned_run (suc n) follows (0 ∷ o)) ≡ history app s (follows o)
  unfolding turned_run
  rest_steps n follows o = refl

  pub over_steps : (follows : List ℕ → List Command) (o : List ℕ) → history app s (turned_run 0 follows o) ≡ history app s (follows o)
  unfolding turned_run
  over_steps follows o = refl

  module _ (follows : State → List ℕ → Spot) (room : ℕ) where
    pub stand_over : (o : List ℕ) → stand_run app 0 room follows s o ≡ follows s o
    unfolding stand_run
    stand_over o = refl

    module _ (n : ℕ) where
      pub stand_none : stand_run app (suc n) room follows s [] ≡ InRun n room s
      unfolding stand_run
      stand_none = refl

      pub stand_rest : (o : List ℕ) → stand_run app (suc n) room follows s (0 ∷ o) ≡ follows s o
      unfolding stand_run
      stand_rest o = refl

      pub stand_turn : (t : ℕ) (o : List ℕ) → stand_run app (suc n) room follows s (suc t ∷ o) ≡ stand_run app n (room + idle_count app s) follows (turn_of app s (suc t)).after o
      unfolding stand_run
      stand_turn t o = refl

-- ---- a script

pub stand_begins : (app : Application) (n : ℕ) (cs : List Command) (s : State) (o : List ℕ) → stand app (Run n ∷ cs) s o ≡ stand_run app n 0 (stand app cs) s o
unfolding stand
stand_begins app n cs s o = refl

pub stand_ends : (app : Application) (s : State) (o : List ℕ) → stand app [] s o ≡ AtEnd s
unfolding stand
stand_ends app s o = refl

pub stand_behind : (app : Application) (c : Command) (cs : List Command) (s : State) → IsNoRun c → (o : List ℕ) → stand app (c ∷ cs) s o ≡ stand app cs (command_of app s c).after o
unfolding stand
stand_behind app (Run turns) cs s h o = absurd h
stand_behind app (Input pterm text) cs s h o = refl
stand_behind app (Tick ticks) cs s h o = refl
stand_behind app (Turn task) cs s h o = refl
stand_behind app (Drop pterm) cs s h o = refl
stand_behind app (Print pterm) cs s h o = refl
stand_behind app (PrintLast pterm) cs s h o = refl
stand_behind app Restart cs s h o = refl

pub run_steps : (app : Application) (n : ℕ) (cs : List Command) (s : State) (o : List ℕ) → order_steps app (Run n ∷ cs) s o ≡ history app s (turned_run n (turned_script cs) o)
unfolding turned_script
run_steps app n cs s o = refl

pub command_steps : (app : Application) (c : Command) (cs : List Command) (s : State) → IsNoRun c → (o : List ℕ) → order_steps app (c ∷ cs) s o ≡ command_of app s c ∷ order_steps app cs (command_of app s c).after o
unfolding turned_script history steps_of state_after
command_steps app (Run turns) cs s h o = absurd h
command_steps app (Input pterm text) cs s h o = refl
command_steps app (Tick ticks) cs s h o = refl
command_steps app (Turn task) cs s h o = refl
command_steps app (Drop pterm) cs s h o = refl
command_steps app (Print pterm) cs s h o = refl
command_steps app (PrintLast pterm) cs s h o = refl
command_steps app Restart cs s h o = refl

pub no_steps : (app : Application) (s : State) (o : List ℕ) → order_steps app [] s o ≡ []
unfolding turned_script history
no_steps app s o = refl
