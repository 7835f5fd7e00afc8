-- What an order without its turns without effect begins with.
use Rattle.std.proofs.Common.{◌≡◌, ℕ, suc, List, ◌∷◌, refl}
use Rattle.abstract_monitor.specs.declared.command.Command.{Command}
use Rattle.abstract_monitor.specs.declared.command.Command.TheVariants.{Input, Tick, Run, Turn, Drop, Print, PrintLast, Restart}
use Rattle.abstract_monitor.specs.Commands.{command_of}
use Rattle.abstract_monitor.specs.State.{Application, State}
use Rattle.lab_walks.specs.Orders.{worked, worked_run}
use Rattle.lab_orders.specs.Walking.{IsNoRun}

module _ (app : Application) (cs : List Command) where
  pub worked_over : (s : State) (o : List ℕ) → worked_run app 0 0 (worked app cs) s o ≡ worked app cs s o
  unfolding worked_run
  worked_over s o = refl

  pub worked_spent : (m : ℕ) (s : State) (o : List ℕ) → worked_run app 0 (suc m) (worked app cs) s o ≡ 0 ∷ worked app cs s o
  unfolding worked_run
  worked_spent m s o = refl

  pub worked_rest : (n m : ℕ) (s : State) (o : List ℕ) → worked_run app (suc n) m (worked app cs) s (0 ∷ o) ≡ 0 ∷ worked app cs s o
  unfolding worked_run
  worked_rest n m s o = refl

pub worked_begins : (app : Application) (n : ℕ) (cs : List Command) (s : State) (o : List ℕ) → worked app (Run n ∷ cs) s o ≡ worked_run app n n (worked app cs) s o
unfolding worked
worked_begins app n cs s o = refl

pub worked_behind : (app : Application) (c : Command) (cs : List Command) (s : State) → IsNoRun c → (o : List ℕ) → worked app (c ∷ cs) s o ≡ worked app cs (command_of app s c).after o
unfolding worked
worked_behind app (Run turns) cs s plain o = absurd plain
worked_behind app (Input pterm text) cs s plain o = refl
worked_behind app (Tick ticks) cs s plain o = refl
worked_behind app (Turn task) cs s plain o = refl
worked_behind app (Drop pterm) cs s plain o = refl
worked_behind app (Print pterm) cs s plain o = refl
worked_behind app (PrintLast pterm) cs s plain o = refl
worked_behind app Restart cs s plain o = refl
