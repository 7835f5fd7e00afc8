-- Laws: how the entries of steps go on from one another.
use Rattle.std.specs.Prelude.{◌≡◌, refl, List, [], ◌∷◌, ◌++◌, Option, Some, None}
use Rattle.std.specs.List.{cons_option}
use Rattle.std.specs.Option.{option_to_list}
use Rattle.std.proofs.Common.{sym, ap, subst, ◌∙◌, append_assoc}
use Rattle.std.proofs.lemmas.List.{append-nil}
use Rattle.std.proofs.lemmas.List.Elements.{filter_map-append}
use Rattle.abstract_monitor.specs.Commands.{ScriptStep, state_after}
use Rattle.abstract_monitor.specs.State.{State}
use Rattle.laws_of_states.specs.Applications.{IsApplication}
use Rattle.laws_of_runs.specs.HistoryLaws.{after_none, after_one}
use Rattle.laws_of_runs.specs.ListsLaws.{after_both}
use Rattle.monitor_core.specs.CoreSteps.{durable_of}
use Rattle.monitor_core.specs.CoreValue.{CoreValue}
use Rattle.audit_trail.specs.declared.entry.TrailEntry.{TrailEntry}
use Rattle.monitor_core.specs.Sinks.{SinkGoesOn}
use Rattle.trail_run.specs.declared.kept.Kept.{Kept}
use Rattle.trail_run.specs.Entries.{entry_in, entries_in}
use Rattle.trail_run.specs.Running.{DidSteps, IsReady}

pub kept_goes : {E : Type 0} → SinkGoesOn {E = E} IsReady (λ _. Unit {0}) (λ before c steps after d. DidSteps c before steps d after) (λ _ _ _ _ _. Unit {0})
kept_goes = record {
  none = λ s c ready. record { application = refl; state = sym (after_none c.state); durable = ready.durable; entries = sym (append-nil s.entries) };
  application = λ s t c d xs did. did.application;
  state = λ s t c d xs did known. did.state;
  again = λ s t c d xs ready did. record { application = subst IsApplication (sym did.application) ready.application; durable = did.durable };
  more = λ s t u c d e xs ys all did more is. record {
    application = more.application ∙ did.application;
    state = more.state ∙ ap (λ (x : State). state_after x ys) did.state ∙ sym (after_both c.state xs ys) ∙ ap (state_after c.state) (sym (is tt));
    durable = more.durable;
    entries =
        more.entries
        ∙ ap (λ (l : List TrailEntry). l ++ entries_in ys) did.entries
        ∙ append_assoc s.entries (entries_in xs) (entries_in ys)
        ∙ ap (λ (l : List TrailEntry). s.entries ++ l) (sym (filter_map-append entry_in xs ys))
        ∙ ap (λ (l : List ScriptStep). s.entries ++ entries_in l) (sym (is tt));
  };
  fails = λ s t u c d xs ys rest all e did failed is. tt;
}

one_item : (e : Option TrailEntry) → option_to_list e ≡ cons_option e []
one_item None = refl
one_item (Some e) = refl

-- a core did a step, and its entry was kept
pub did_step : (c : CoreValue) (before : Kept) (step : ScriptStep) (d : CoreValue) (after : Kept) → d.application ≡ c.application → d.state ≡ step.after → after.durable ≡ durable_of d
    → (e : Option TrailEntry) → e ≡ entry_in step → after.entries ≡ before.entries ++ option_to_list e → DidSteps c before (step ∷ []) d after
did_step c before step d after app state beside e is entries = record {
  application = app;
  state = state ∙ sym (after_one c.state step);
  durable = beside;
  entries = entries ∙ ap (λ (o : Option TrailEntry). before.entries ++ option_to_list o) is ∙ ap (λ (l : List TrailEntry). before.entries ++ l) (one_item (entry_in step));
}
