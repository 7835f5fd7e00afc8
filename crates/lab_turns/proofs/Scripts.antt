-- What is heard of a script up to one of its commands.
use Rattle.std.proofs.Common.{◌≡◌, ℕ, ◌+◌, ◌<◌, ◌≤◌, List, [], ◌∷◌, ◌++◌, length, take, get_or, sym, ap, subst, ◌∙◌}
use Rattle.std.proofs.lemmas.List.{take_all, take_more}
use Rattle.abstract_monitor.specs.CommandsOf.{IsCommandOf}
use Rattle.abstract_monitor.specs.declared.command.Command.{Command}
use Rattle.abstract_monitor.specs.Commands.{steps_of}
use Rattle.abstract_monitor.specs.State.{Application, State}
use Rattle.abstract_monitor.specs.Trace.{history}
use Rattle.laws_of_states.specs.Keeping.{IsScriptOf}
use Rattle.monitor_core.specs.CoreValue.{CoreValue}
use Rattle.monitor_core.specs.ScriptsLaws.{script_more, script_names, script_start}
use Rattle.lab_turns.specs.Heard.{Heard, HearsCommand, HearsScript, TellsCommand, TellsScript}
use Rattle.lab_turns.specs.HeardLaws.{script_none, script_one_more}
use Rattle.lab_turns.specs.Running.{DidSteps}
use Rattle.lab_turns.specs.RunningLaws.{did_goes}

-- the first i commands are done and heard of
pub record SoFar {L : Type 0} (hears : L → List Heard → L → Type 0) (c : CoreValue) (cs : List Command) (a : L) (i : ℕ) (b : L) (d : CoreValue) : Type 0 where
  pub did : DidSteps c (history c.application c.state (take i cs)) d
  pub heard : HearsScript hears c.application c.state (take i cs) a b

module _ {L : Type 0} (hears : L → List Heard → L → Type 0) (none : (l : L) → hears l [] l) (both : (a b c : L) (xs ys : List Heard) → hears a xs b → hears b ys c → hears a (xs ++ ys) c) (c : CoreValue) (cs : List Command) (a : L) where
  pub so_far_start : SoFar hears c cs a 0 a c
  so_far_start = record {
    did = script_start _ _ _ _ (did_goes {L = L} {E = Unit {0}}) a c cs tt;
    heard = ([], script_none c.application c.state, none a);
  }

  module _ (i : ℕ) (b : L) (d : CoreValue) (sofar : SoFar hears c cs a i b d) where
    pub all_done : length cs ≤ i → DidSteps c (history c.application c.state cs) d
    all_done over = subst (λ (l : List Command). DidSteps c (history c.application c.state l) d) (take_all i cs over) sofar.did

    pub all_heard : length cs ≤ i → HearsScript hears c.application c.state cs a b
    all_heard over = subst (λ (l : List Command). HearsScript hears c.application c.state l a b) (take_all i cs over) sofar.heard

    module _ (command : Command) (is : command ≡ get_or cs i command) (lt : i < length cs) where
      pub so_far_names : IsScriptOf c.application cs → IsCommandOf d.application.generation command
      so_far_names names = script_names _ _ _ _ (did_goes {L = L} {E = Unit {0}}) a c cs b d i sofar.did command is lt names

      pub so_far_more : (e : L) (f : CoreValue) → DidSteps d (steps_of d.application d.state command) f → HearsCommand hears d.application d.state command b e → SoFar hears c cs a (i + 1) e f
      so_far_more e f did (more, told, heard) = by sofar.heard
        where
          by : HearsScript hears c.application c.state (take i cs) a b → SoFar hears c cs a (i + 1) e f
          by (tale, tells, before) = record {
            did = script_more _ _ _ _ (did_goes {L = L} {E = Unit {0}}) a c cs b d i sofar.did command is lt e f did;
            heard = (
              tale ++ more,
              subst (λ (l : List Command). TellsScript c.application c.state l (tale ++ more)) (sym (take_more cs i command lt ∙ ap (λ (x : Command). take i cs ++ x ∷ []) (sym is)))
                  (script_one_more c.application c.state (take i cs) command tale more tells (subst (λ (s : State). TellsCommand c.application s command more) sofar.did.state (subst (λ (app : Application). TellsCommand app d.state command more) sofar.did.application told))),
              both a b e tale more before heard,
            );
          }
