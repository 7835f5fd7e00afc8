-- Laws: what is heard of steps and of commands, one after another.
use Rattle.std.specs.Prelude.{◌≡◌, refl, suc, List, [], ◌∷◌, ◌++◌, length}
use Rattle.std.proofs.Common.{sym, ap, subst, ◌∙◌, append_assoc}
use Rattle.std.proofs.lemmas.List.{append-nil}
use Rattle.abstract_monitor.specs.declared.command.Command.{Command}
use Rattle.abstract_monitor.specs.Commands.{ScriptStep, state_after, steps_of}
use Rattle.abstract_monitor.specs.State.{Application, State}
use Rattle.abstract_monitor.specs.Trace.{history}
use Rattle.laws_of_runs.specs.HistoryLaws.{after_none, history_next, no_history}
use Rattle.laws_of_runs.specs.ListsLaws.{after_both}
use Rattle.lab_turns.specs.Heard.{Heard, IsStep, AreSteps, TellsCommand, TellsScript}

-- ---- steps

pub steps_none : AreSteps [] []
unfolding AreSteps
steps_none = tt

pub steps_one : (h : Heard) (d : ScriptStep) → IsStep h d → AreSteps (h ∷ []) (d ∷ [])
unfolding AreSteps
steps_one h d is = (is, tt)

pub steps_both : (xs ys : List Heard) (ds es : List ScriptStep) → AreSteps xs ds → AreSteps ys es → AreSteps (xs ++ ys) (ds ++ es)
unfolding AreSteps
steps_both [] ys [] es none later = later
steps_both [] ys (d ∷ ds) es none later = absurd none
steps_both (x ∷ xs) ys [] es none later = absurd none
steps_both (x ∷ xs) ys (d ∷ ds) es (is, more) later = (is, steps_both xs ys ds es more later)

-- as many were heard of as there are
pub as_many : (xs : List Heard) (ds : List ScriptStep) → AreSteps xs ds → length xs ≡ length ds
unfolding AreSteps
as_many [] [] told = refl
as_many [] (d ∷ ds) none = absurd none
as_many (x ∷ xs) [] none = absurd none
as_many (x ∷ xs) (d ∷ ds) (is, more) = ap suc (as_many xs ds more)

-- ---- scripts

module _ (app : Application) where
  pub script_none : (s : State) → TellsScript app s [] []
  unfolding TellsScript
  script_none s = refl

  -- one command behind those before it
  pub script_one_more : (s : State) (cs : List Command) (c : Command) (tale more : List Heard) → TellsScript app s cs tale → TellsCommand app (state_after s (history app s cs)) c more → TellsScript app s (cs ++ c ∷ []) (tale ++ more)
  unfolding TellsScript
  script_one_more s [] c tale more none told =
      (more, [], subst (λ (u : State). TellsCommand app u c more) (ap (state_after s) (no_history app s) ∙ after_none s) told, refl, ap (λ (l : List Heard). l ++ more) none ∙ sym (append-nil more))
  script_one_more s (x ∷ xs) c tale more (first, rest, here, later, all) told =
      let steps = steps_of app s x in
      let next = state_after s steps in (
        first,
        rest ++ more,
        here,
        script_one_more next xs c rest more later (subst (λ (u : State). TellsCommand app u c more) (ap (state_after s) (history_next app s x xs) ∙ after_both s steps (history app next xs)) told),
        ap (λ (l : List Heard). l ++ more) all ∙ append_assoc first rest more,
      )
