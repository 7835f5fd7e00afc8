-- The commands of one step that are no turn and no restart, and how many turns and commands a script makes.
use Rattle.std.specs.Prelude.{◌≡◌, ◌⊎◌, ◌+◌, ◌<◌, refl, ℕ, List, [], ◌∷◌, length, drop, get_or, sum_by}
use Rattle.std.proofs.Common.{ap, inl, inr, subst, sym, ◌∙◌}
use Rattle.std.proofs.lemmas.List.{drop_more}
use Rattle.std.proofs.lemmas.List.Sums.{sum_by-cons}
use Rattle.abstract_monitor.specs.declared.command.Command.{Command}
use Rattle.abstract_monitor.specs.declared.command.Command.TheVariants.{Input, Tick, Run, Turn, Drop, Print, PrintLast, Restart}
use Rattle.abstract_monitor.specs.Commands.{command_of, steps_of}
use Rattle.abstract_monitor.specs.State.{Application, State}
use Rattle.monitor_core.specs.Commanding.{IsCoreCommand}
use Rattle.monitor_core.specs.CoreSteps.{turns_of}

-- a command that is one of these
pub single_of : (command : Command) → ((pterm : List ℕ) × (text : List ℕ) × (command ≡ Input pterm text)) ⊎ (((ticks : ℕ) × (command ≡ Tick ticks)) ⊎ (((pterm : List ℕ) × (command ≡ Drop pterm)) ⊎ (((pterm : List ℕ) × (command ≡ Print pterm)) ⊎ ((pterm : List ℕ) × (command ≡ PrintLast pterm)))))
    → IsCoreCommand command × (turns_of command ≡ 1)
single_of command (inl (pterm, text, is)) = (subst IsCoreCommand (sym is) tt, ap turns_of is)
single_of command (inr (inl (ticks, is))) = (subst IsCoreCommand (sym is) tt, ap turns_of is)
single_of command (inr (inr (inl (pterm, is)))) = (subst IsCoreCommand (sym is) tt, ap turns_of is)
single_of command (inr (inr (inr (inl (pterm, is))))) = (subst IsCoreCommand (sym is) tt, ap turns_of is)
single_of command (inr (inr (inr (inr (pterm, is))))) = (subst IsCoreCommand (sym is) tt, ap turns_of is)

-- and its step
pub steps_of_single : (app : Application) (s : State) (command : Command) → IsCoreCommand command → steps_of app s command ≡ command_of app s command ∷ []
unfolding steps_of
steps_of_single app s (Input pterm text) single = refl
steps_of_single app s (Tick ticks) single = refl
steps_of_single app s (Run turns) single = absurd single
steps_of_single app s (Turn task) single = absurd single
steps_of_single app s (Drop pterm) single = refl
steps_of_single app s (Print pterm) single = refl
steps_of_single app s (PrintLast pterm) single = refl
steps_of_single app s Restart single = absurd single

-- how many the commands from one on make: it, and those after it
pub script_turns : (cs : List Command) (i : ℕ) (command : Command) → command ≡ get_or cs i command → i < length cs → sum_by turns_of (drop i cs) ≡ turns_of command + sum_by turns_of (drop (i + 1) cs)
script_turns cs i command is lt = ap (sum_by turns_of) (drop_more cs i command lt) ∙ sum_by-cons turns_of (get_or cs i command) (drop (i + 1) cs) ∙ ap (λ (x : Command). turns_of x + sum_by turns_of (drop (i + 1) cs)) (sym is)
