-- Laws: how what a listener hears goes on.
use Rattle.std.specs.Prelude.{◌≡◌, refl, ℕ, ◌+◌, List, [], ◌∷◌, ◌++◌, length}
use Rattle.std.proofs.Common.{sym, ap, subst, ◌∙◌, arith, length-append}
use Rattle.kdcs_types.specs.Tables.{TableRows}
use Rattle.abstract_monitor.specs.declared.command.Command.{Command}
use Rattle.abstract_monitor.specs.Commands.{ScriptStep, state_after, steps_of}
use Rattle.abstract_monitor.specs.State.{State}
use Rattle.laws_of_runs.specs.HistoryLaws.{after_none, after_one}
use Rattle.laws_of_runs.specs.ListsLaws.{after_both}
use Rattle.laws_of_states.specs.Applications.{IsApplication}
use Rattle.laws_of_states.specs.Keeping.{HasFacts}
use Rattle.monitor_core.specs.CoreSteps.{durable_of}
use Rattle.monitor_core.specs.CoreValue.{CoreValue}
use Rattle.monitor_core.specs.Sinks.{SinkGoesOn}
use Rattle.lab_turns.specs.Heard.{Heard, Asked, IsStep, AreSteps, IsEnding, HearsCommand}
use Rattle.lab_turns.specs.HeardLaws.{as_many, steps_both, steps_none, steps_one}
use Rattle.lab_turns.specs.Running.{DidSteps, IsBeside, ToldSteps, Watched}

-- ---- the states

did_more : (c d e : CoreValue) (xs ys all : List ScriptStep) → DidSteps c xs d → DidSteps d ys e → all ≡ xs ++ ys → DidSteps c all e
did_more c d e xs ys all first next is = record {
  application = next.application ∙ first.application;
  state = next.state ∙ ap (λ (s : State). state_after s ys) first.state ∙ sym (after_both c.state xs ys) ∙ ap (state_after c.state) (sym is);
}

did_nothing : (c : CoreValue) → DidSteps c [] c
did_nothing c = record { application = refl; state = sym (after_none c.state) }

-- whatever hears of them
pub did_goes : {L E : Type 0} → SinkGoesOn {S = L} {E = E} (λ l c. Unit {0}) (λ _. Unit {0}) (λ a c steps b d. DidSteps c steps d) (λ _ _ _ _ _. Unit {0})
did_goes = record {
  none = λ a c ready. did_nothing c;
  application = λ a b c d xs did. did.application;
  state = λ a b c d xs did known. did.state;
  again = λ a b c d xs ready did. tt;
  more = λ a b l c d e xs ys all first next is. did_more c d e xs ys all first next (is tt);
  fails = λ a b l c d xs ys rest all e did failed is. tt;
}

-- ---- with who hears of them

module _ {L : Type 0} (hears : L → List Heard → L → Type 0) (none : (l : L) → hears l [] l) (both : (a b c : L) (xs ys : List Heard) → hears a xs b → hears b ys c → hears a (xs ++ ys) c) where
  told_more : (c d e : CoreValue) (a b l : L) (xs ys all : List ScriptStep) → ToldSteps hears c xs a b d → ToldSteps hears d ys b l e → all ≡ xs ++ ys → ToldSteps hears c all a l e
  told_more c d e a b l xs ys all first next is = record {
    did = did_more c d e xs ys all first.did next.did is;
    own = first.own ++ next.own;
    told = subst (AreSteps (first.own ++ next.own)) (sym is) (steps_both first.own next.own xs ys first.told next.told);
    heard = both a b l first.own next.own first.heard next.heard;
  }

  -- it heard of no step
  told_nothing : (c : CoreValue) (a : L) → ToldSteps hears c [] a a c
  told_nothing c a = record { did = did_nothing c; own = []; told = steps_none; heard = none a }

  -- with the durable tables beside the monitor
  pub watch_goes : {S E : Type 0} (durable : S → TableRows) (listener : S → L) (count : S → ℕ) (place : S → List ℕ)
      → SinkGoesOn {E = E} (λ w c. IsBeside c (durable w)) (λ _. Unit {0}) (λ v c steps w d. Watched hears c steps (listener v) (listener w) d (durable w) (count v) (count w) (place v) (place w)) (λ _ _ _ _ _. Unit {0})
  watch_goes durable listener count place = record {
    none = λ w c ready. record { told = told_nothing c (listener w); beside = ready; counted = omega arith; same_place = refl };
    application = λ v w c d xs took. took.told.did.application;
    state = λ v w c d xs took known. took.told.did.state;
    again = λ v w c d xs ready took. took.beside;
    more = λ v w u c d e xs ys all took more is. record {
      told = told_more c d e (listener v) (listener w) (listener u) xs ys all took.told more.told (is tt);
      beside = more.beside;
      counted = more.counted ∙ ap (λ (n : ℕ). n + length ys) took.counted ∙ counted_both (count v) xs ys all (is tt);
      same_place = more.same_place ∙ took.same_place;
    };
    fails = λ v w u c d xs ys rest all e took failed is. tt;
  }
    where
      counted_both : (n : ℕ) (xs ys all : List ScriptStep) → all ≡ xs ++ ys → (n + length xs) + length ys ≡ n + length all
      counted_both n xs ys all is = let e : length all ≡ length xs + length ys = ap length is ∙ length-append xs ys in omega (arith, e)

  -- nothing was done
  pub watched_nothing : (c : CoreValue) (a : L) (t : TableRows) (count : ℕ) (place : List ℕ) → IsBeside c t → Watched hears c [] a a c t count count place place
  watched_nothing c a t count place beside = record { told = told_nothing c a; beside = beside; counted = omega arith; same_place = refl }

  -- a command is heard of, then its steps, and then how it ended
  pub hears_command : (c : CoreValue) (command : Command) (a b l m : L) (d : CoreValue) (n : ℕ) → hears a (Asked command ∷ []) b → ToldSteps hears c (steps_of c.application c.state command) b l d → n ≡ length (steps_of c.application c.state command)
      → (tail : List Heard) × IsEnding command d.state n tail × hears l tail m → HearsCommand hears c.application c.state command a m
  hears_command c command a b l m d n asked told counted (tail, ending, heard) = (
    Asked command ∷ told.own ++ tail,
    record {
      own = told.own;
      tail = tail;
      steps = told.told;
      ending = subst (λ (k : ℕ). IsEnding command (state_after c.state (steps_of c.application c.state command)) k tail) (counted ∙ sym (as_many told.own (steps_of c.application c.state command) told.told)) (subst (λ (s : State). IsEnding command s n tail) told.did.state ending);
      all = refl;
    },
    both a b m (Asked command ∷ []) (told.own ++ tail) asked (both b l m told.own tail told.heard heard),
  )

-- a step was heard of, and its commit is in the tables beside the monitor
pub watched_step : {L : Type 0} (hears : L → List Heard → L → Type 0) (c : CoreValue) (step : ScriptStep) (before after : L) (d : CoreValue) (t : TableRows) (count count' : ℕ) (place : List ℕ) → IsApplication c.application → HasFacts d.application d.state → t ≡ durable_of d
    → d.application ≡ c.application → d.state ≡ step.after → (h : Heard) → IsStep h step → hears before (h ∷ []) after → count' ≡ count + 1 → Watched hears c (step ∷ []) before after d t count count' place place
watched_step hears c step before after d t count count' place application facts beside app state h is heard counted = record {
  told = record {
    did = record { application = app; state = state ∙ sym (after_one c.state step) };
    own = h ∷ [];
    told = steps_one h step is;
    heard = heard;
  };
  beside = record { application = subst IsApplication (sym app) application; facts = facts; durable = beside };
  counted = counted;
  same_place = refl;
}
