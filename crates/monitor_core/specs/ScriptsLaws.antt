-- Laws: a script up to one of its commands.
use Rattle.std.proofs.Common.{◌≡◌, ℕ, ◌+◌, ◌<◌, ◌≤◌, List, [], ◌∷◌, ◌++◌, length, take, drop, get_or, refl, sym, ap, subst, ◌∙◌, append_assoc}
use Rattle.std.proofs.lemmas.List.{append-nil, drop_more, take-append-drop, take_all, take_more}
use Rattle.abstract_monitor.specs.CommandsOf.{IsCommandOf}
use Rattle.abstract_monitor.specs.declared.command.Command.{Command}
use Rattle.abstract_monitor.specs.declared.command.Command.TheVariants.{Restart}
use Rattle.abstract_monitor.specs.Commands.{ScriptStep, state_after, steps_of}
use Rattle.abstract_monitor.specs.State.{Application, State}
use Rattle.abstract_monitor.specs.Trace.{history}
use Rattle.laws_of_states.specs.Keeping.{IsScriptOf}
use Rattle.laws_of_runs.specs.HistoryLaws.{history_next, no_history}
use Rattle.laws_of_runs.specs.ListsLaws.{after_both}
use Rattle.monitor_core.specs.CoreValue.{CoreValue}
use Rattle.monitor_core.specs.Sinks.{SinkGoesOn, Stopped}

module _ (app : Application) where
  history_both : (s : State) (cs ds : List Command) → history app s (cs ++ ds) ≡ history app s cs ++ history app (state_after s (history app s cs)) ds
  unfolding history state_after
  history_both s [] ds = refl
  history_both s (c ∷ cs) ds =
      let steps = steps_of app s c in
      let next = state_after s steps in
      ap (λ (l : List ScriptStep). steps ++ l) (history_both next cs ds)
      ∙ sym (append_assoc steps (history app next cs) (history app (state_after next (history app next cs)) ds))
      ∙ ap (λ (u : State). (steps ++ history app next cs) ++ history app u ds) (sym (after_both s steps (history app next cs)))

  history_one : (s : State) (c : Command) → history app s (c ∷ []) ≡ steps_of app s c
  history_one s c = history_next app s c [] ∙ ap (λ (l : List ScriptStep). steps_of app s c ++ l) (no_history app (state_after s (steps_of app s c))) ∙ append-nil (steps_of app s c)

-- the script around its command at i
module _ (cs : List Command) (i : ℕ) (command : Command) (is : command ≡ get_or cs i command) (lt : i < length cs) where
  around : cs ≡ take i cs ++ command ∷ drop (i + 1) cs
  around = sym (take-append-drop i cs) ∙ ap (λ (l : List Command). take i cs ++ l) (drop_more cs i command lt) ∙ ap (λ (x : Command). take i cs ++ x ∷ drop (i + 1) cs) (sym is)

  one_more : take (i + 1) cs ≡ take i cs ++ command ∷ []
  one_more = take_more cs i command lt ∙ ap (λ (x : Command). take i cs ++ x ∷ []) (sym is)

  module _ (c d : CoreValue) (app : d.application ≡ c.application) (state : d.state ≡ state_after c.state (history c.application c.state (take i cs))) where
    steps_here : steps_of c.application (state_after c.state (history c.application c.state (take i cs))) command ≡ steps_of d.application d.state command
    steps_here = λ k. steps_of (sym app k) (sym state k) command

    pub history_around : history c.application c.state cs ≡ history c.application c.state (take i cs) ++ (steps_of d.application d.state command ++ history c.application (state_after (state_after c.state (history c.application c.state (take i cs))) (steps_of c.application (state_after c.state (history c.application c.state (take i cs))) command)) (drop (i + 1) cs))
    history_around =
        let now = state_after c.state (history c.application c.state (take i cs)) in
        let rest = history c.application (state_after now (steps_of c.application now command)) (drop (i + 1) cs) in
        ap (history c.application c.state) around
        ∙ history_both c.application c.state (take i cs) (command ∷ drop (i + 1) cs)
        ∙ ap (λ (l : List ScriptStep). history c.application c.state (take i cs) ++ l) (history_next c.application now command (drop (i + 1) cs))
        ∙ ap (λ (l : List ScriptStep). history c.application c.state (take i cs) ++ (l ++ rest)) steps_here

    pub history_more : history c.application c.state (take (i + 1) cs) ≡ history c.application c.state (take i cs) ++ steps_of d.application d.state command
    history_more =
        let now = state_after c.state (history c.application c.state (take i cs)) in
        ap (history c.application c.state) one_more
        ∙ history_both c.application c.state (take i cs) (command ∷ [])
        ∙ ap (λ (l : List ScriptStep). history c.application c.state (take i cs) ++ l) (history_one c.application now command ∙ steps_here)

-- ---- the commands so far

module _ {S E : Type 0} (ready : S → CoreValue → Type 0) (known : S → Type 0) (took : S → CoreValue → List ScriptStep → S → CoreValue → Type 0) (failed : S → CoreValue → List ScriptStep → E → S → Type 0) (goes : SinkGoesOn ready known took failed) (s : S) (c : CoreValue) (cs : List Command) where
  pub script_start : ready s c → took s c (history c.application c.state (take 0 cs)) s c
  script_start is_ready = subst (λ (l : List ScriptStep). took s c l s c) (sym (no_history c.application c.state)) (goes.none s c is_ready)

  module _ (t : S) (d : CoreValue) (i : ℕ) (run : took s c (history c.application c.state (take i cs)) t d) where
    pub script_over : length cs ≤ i → took s c (history c.application c.state cs) t d
    script_over over = subst (λ (l : List Command). took s c (history c.application c.state l) t d) (take_all i cs over) run

    module _ (command : Command) (is : command ≡ get_or cs i command) (lt : i < length cs) where
      app : d.application ≡ c.application
      app = goes.application s t c d (history c.application c.state (take i cs)) run

      reached : known s → d.state ≡ state_after c.state (history c.application c.state (take i cs))
      reached is_known = goes.state s t c d (history c.application c.state (take i cs)) run is_known

      pub script_names : IsScriptOf c.application cs → IsCommandOf d.application.generation command
      script_names names = subst (λ (x : Command). IsCommandOf d.application.generation x) (sym is) (subst (λ (x : Application). IsCommandOf x.generation (get_or cs i command)) (sym app) (names i command lt))

      -- one command more is done
      pub script_more : (u : S) (e : CoreValue) → took t d (steps_of d.application d.state command) u e → took s c (history c.application c.state (take (i + 1) cs)) u e
      script_more u e here =
          goes.more s t u c d e (history c.application c.state (take i cs)) (steps_of d.application d.state command) (history c.application c.state (take (i + 1) cs)) run here
          (λ is_known. history_more cs i command is lt c d app (reached is_known))

      -- or it fails
      module _ (e : E) (u : S) (here : failed t d (steps_of d.application d.state command) e u) where
        pub script_failed : failed s c (history c.application c.state cs) e u
        script_failed =
            let now = state_after c.state (history c.application c.state (take i cs)) in
            goes.fails s t u c d (history c.application c.state (take i cs)) (steps_of d.application d.state command) (history c.application (state_after now (steps_of c.application now command)) (drop (i + 1) cs)) (history c.application c.state cs) e run here
            (λ is_known. history_around cs i command is lt c d app (reached is_known))

        pub script_stopped : (unopened : S → CoreValue → E → S → Type 0) → (command ≡ Restart → unopened t d e u) → Stopped took failed unopened s c cs i e u
        script_stopped unopened restart = record {
          command = command;
          rest = drop (i + 1) cs;
          split = around cs i command is lt;
          t = t;
          d = d;
          done = run;
          here = here;
          restart = restart;
        }
