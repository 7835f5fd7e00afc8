-- Turns of free tasks where there is no work: nothing is stored or sent.
use Rattle.std.proofs.Common.{◌≡◌, ◌≤◌, ◌<◌, ◌+◌, ◌^◌, ℕ, List, [], sym, ap, subst, ◌∙◌}
use Rattle.std.specs.Prelude.{IsTrue}
use Rattle.kd_device.specs.Device.{State}
use Rattle.kd_records.specs.Identity.{Identity}
use Rattle.kd_records.specs.declared.content.Content.{Content}
use Rattle.kd_records.specs.declared.content.Patch.{Patch}
use Rattle.application_types.specs.Soundness.{AreLimits}
use Rattle.kdcs_types.specs.declared.act.Act.{Act}
use Rattle.abstract_monitor.specs.Commands.{acts_of}
use Rattle.abstract_monitor.specs.Endings.{durable}
use Rattle.abstract_monitor.specs.State.{Application, State as MonitorState}
use Rattle.abstract_monitor.specs.Trace.{tables_after}
use Rattle.laws_of_states.specs.Applications.{IsApplication}
use Rattle.laws_of_states.specs.Cut.{commits_in}
use Rattle.laws_of_states.specs.Keeping.{HasFacts}
use Rattle.monitor_core.specs.CoreSteps.{durable_of, idle_steps}
use Rattle.monitor_core.specs.CoreValue.{CoreValue, Rested}
use Rattle.monitor_core.specs.IdleLaws.{idle_acts, idle_after}
use Rattle.device_acts.specs.Acting.{DidActs, JoinsParts, WithinActs}
use Rattle.device_acts.specs.Stands.{identity_for}
use Rattle.device_run.specs.Keeping.{IsRunningWith, KeepsRows, StandsForRows}
use Rattle.device_run.specs.Running.{commits_most_with, identity_of}
use Rattle.device_run.specs.Storing.{IsReadyWith, TookSteps}
use Rattle.device_run.specs.StoringLaws.{took_nothing}

-- a core of the same application and state runs with the same files
same_running : (fingerprint : List ℕ) (c d : CoreValue) (j : Identity) (x : Content) → IsRunningWith fingerprint c j x → d.application ≡ c.application → d.state ≡ c.state → HasFacts d.application d.state → IsRunningWith fingerprint d j x
same_running fingerprint c d j x running app state facts = record {
  application = subst IsApplication (sym app) running.application;
  limits = subst (λ (z : Application). AreLimits z.generation.limits) (sym app) running.limits;
  facts = facts;
  keeps =
      subst (λ (s : MonitorState). KeepsRows (identity_for d.application.generation fingerprint) j x (durable d.application.generation s.tables)) (sym state)
      (subst (λ (z : Application). KeepsRows (identity_for z.generation fingerprint) j x (durable z.generation c.state.tables)) (sym app) running.keeps);
}

module _ (stands : Identity → Content → List ℕ → Type 0) (most : Identity → Patch → ℕ) (fine : State → State → Type 0) (on : JoinsParts fine) (fingerprint place : List ℕ) (c d : CoreValue) (turns : ℕ) (j : Identity) (x : Content) (file : List ℕ → Type 0) (a : State) (la : ℕ → List ℕ → List ℕ → Type 0) (m : ℕ) where
  pub took_idle : IsReadyWith fingerprint c j x file a la → Rested c d turns → HasFacts d.application d.state → TookSteps stands most fine fingerprint fingerprint place place c (idle_steps c.state turns) d j x file a a la la m m
  took_idle ready rested facts =
      let nothing = took_nothing stands most fine on fingerprint place c j x file a la m ready in
      let none : [] ≡ acts_of (idle_steps c.state turns) = sym (idle_acts c.state turns) in
      record {
        within = subst (λ (acts : List Act). WithinActs tables_after (StandsForRows stands (identity_of fingerprint c)) (durable_of c) acts a a la la) none nothing.within;
        did = record {
          application = rested.application;
          running = same_running fingerprint c d j x ready.running rested.application rested.state facts;
          state = λ told. rested.state ∙ sym (idle_after c.state turns);
          tables = λ told. (λ i. durable (rested.application i).generation (rested.state i).tables) ∙ nothing.did.tables told ∙ ap (tables_after (durable_of c)) none;
          acts = subst (λ (acts : List Act). DidActs fine file acts a a la) none nothing.did.acts;
        };
        put = subst (λ (acts : List Act). IsTrue a.told → a.put ≤ a.put + commits_most_with most (identity_of fingerprint c) acts) none nothing.put;
        counted = subst (λ (acts : List Act). IsTrue a.told → m + commits_in acts < 2 ^ 64 → m ≡ m + commits_in acts) none nothing.counted;
        same_fingerprint = nothing.same_fingerprint;
        same_place = nothing.same_place;
      }
