-- A run that stopped within one of its commands.
use Rattle.std.proofs.Common.{◌≡◌, ◌⊎◌, inl, inr, ⊎_elim, ◌≤◌, arith, ℕ, List, ◌++◌, sym, subst, ◌∙◌, take}
use Rattle.std.specs.Prelude.{IsTrue}
use Rattle.kd_device.specs.Device.{State, Rose}
use Rattle.kd_records.specs.Identity.{Identity}
use Rattle.kd_records.specs.declared.content.Content.{Content}
use Rattle.kd_records.specs.declared.content.Patch.{Patch}
use Rattle.kdcs_types.specs.Tables.{TableRows}
use Rattle.abstract_monitor.specs.Bytes.{Bytes}
use Rattle.abstract_monitor.specs.State.{Application}
use Rattle.abstract_monitor.specs.declared.command.Command.{Command}
use Rattle.abstract_monitor.specs.Commands.{ScriptStep, acts_of, state_after, steps_of}
use Rattle.abstract_monitor.specs.Trace.{bytes_of, history, tables_after}
use Rattle.monitor_core.specs.CoreSteps.{durable_of}
use Rattle.monitor_core.specs.CoreValue.{CoreValue}
use Rattle.device_acts.specs.Acting.{IsCutOf}
use Rattle.device_acts.specs.ActingLaws.{cut_none}
use Rattle.device_acts.specs.Stands.{identity_for}
use Rattle.device_acts.specs.declared.warm_start.error.OpenError.{OpenError}
use Rattle.monitor_core.specs.Sinks.{Stopped}
use Rattle.device_run.specs.Running.{SaysNothing, StoppedIn, identity_of}
use Rattle.device_run.specs.Keeping.{StandsForRows, WithinStepsWith}
use Rattle.device_run.specs.Storing.{FailedSteps, TookSteps}
use Rattle.device_run.specs.SteppingLaws.{rows_stand}
use Rattle.device_run.specs.TablesLaws.{tables_go}

module _ (stands : Identity → Content → List ℕ → Type 0) (most : Identity → Patch → ℕ) (fine : State → State → Type 0) {S : Type 0} {ready : S → Type 0} {fingerprint place : S → List ℕ} {identity : S → Identity} {kept : S → Content} {file : S → List ℕ → Type 0} {state : S → State} {leaves : S → ℕ → List ℕ → List ℕ → Type 0} {commits : S → ℕ}
    (s u : S) (c : CoreValue) (cs : List Command) (n : ℕ) (e : OpenError) (h : Stopped (λ s c steps t d. ready t × TookSteps stands most fine (fingerprint s) (fingerprint t) (place s) (place t) c steps d (identity t) (kept t) (file t) (state s) (state t) (leaves s) (leaves t) (commits s) (commits t)) (λ s c steps e t. FailedSteps stands most fine (fingerprint s) (place s) (place t) c steps e (state s) (state t) (leaves s) (leaves t)) (λ s c e t. IsTrue (state s).told → SaysNothing (state s) (state t)) s c cs n e u) (told : IsTrue (state s).told)
    (means : (k : S) (c : List ℕ) → file k c → stands (identity k) (kept k) c) (sent_now : (k : S) (c out : List ℕ) → IsTrue (state k).told → leaves k (state k).moment c out → out ≡ (state k).sent) (earlier : (k : S) (t u : ℕ) (c out : List ℕ) → IsTrue (state k).told → t ≤ u → leaves k u c out → leaves k t c out) where
  told_then : IsTrue (state h.t).told
  told_then = subst IsTrue (sym h.done.1.within.frame.told) told

  abbrev first : List ScriptStep
  first = history c.application c.state (take n cs)

  abbrev here : List ScriptStep
  here = steps_of h.d.application h.d.state h.command

  abbrev rows : CoreValue → TableRows → Bytes → Type 0
  rows d = StandsForRows stands (identity_of (fingerprint s) d)

  within : WithinStepsWith stands (fingerprint s) h.d here (state h.t) (state u) (leaves h.t) (leaves u)
  within = subst (λ f. WithinStepsWith stands f h.d here (state h.t) (state u) (leaves h.t) (leaves u)) h.done.1.same_fingerprint h.here.within

  module _ (image : Bytes) (now : leaves u (state u).moment image (state u).sent) where
    -- where nothing was sent, and the files are as they were before the command
    untouched : leaves h.t (state h.t).moment image (state u).sent → IsCutOf tables_after (rows h.d) (durable_of h.d) (acts_of here) (state h.t).sent image (state u).sent
    untouched past =
        let same = sent_now h.t image (state u).sent told_then past in
        let kept_then = h.done.1.did.acts.rest told image (subst (leaves h.t (state h.t).moment image) same past) in
        subst (λ (o : Bytes). IsCutOf tables_after (rows h.d) (durable_of h.d) (acts_of here) (state h.t).sent image o) (sym same)
        (cut_none tables_after tables_go (rows h.d) (durable_of h.d) (acts_of here) (state h.t).sent image (rows_stand (fingerprint s) h.d (identity h.t) (kept h.t) h.done.1.did.running stands image (means h.t image kept_then)))

    part : IsCutOf tables_after (rows h.d) (durable_of h.d) (acts_of here) (state h.t).sent image (state u).sent
    part =
        let told_now : IsTrue (state u).told = subst IsTrue (sym within.frame.told) told_then in
        let left = earlier u (state h.t).moment (state u).moment image (state u).sent told_now within.frame.moment now in
        ⊎_elim untouched (λ cut. cut) ((within.any_moment told_then).only (state h.t).moment image (state u).sent (omega arith) left)

    said : SaysNothing (state h.t) (state u) → ((state u).sent ≡ (state s).sent ++ bytes_of (acts_of first)) ⊎ Rose (state s).line_faults (state u).line_faults
    said (inl same) = inl (same ∙ h.done.1.did.acts.sent told)
    said (inr rose) = let frame = h.done.1.within.frame.line_faults in inr (omega (arith, frame, rose))

    pub stopped_in : StoppedIn (rows c) c cs n (state s) (state u) image
    stopped_in =
        let steps : here ≡ steps_of c.application (state_after c.state first) h.command = λ n. steps_of (h.done.1.did.application n) (h.done.1.did.state told n) h.command in
        let out = (state u).sent in
        let at_application = subst (λ (z : Application). IsCutOf tables_after (StandsForRows stands (identity_for z.generation (fingerprint s))) (durable_of h.d) (acts_of here) (state h.t).sent image out) h.done.1.did.application part in
        let at_tables = subst (λ (t : TableRows). IsCutOf tables_after (rows c) t (acts_of here) (state h.t).sent image out) (h.done.1.did.tables told) at_application in
        let at_steps = subst (λ (l : List ScriptStep). IsCutOf tables_after (rows c) (tables_after (durable_of c) (acts_of first)) (acts_of l) (state h.t).sent image out) steps at_tables in
        record {
          command = h.command;
          rest = h.rest;
          split = h.split;
          part = subst (λ (o : Bytes). IsCutOf tables_after (rows c) (tables_after (durable_of c) (acts_of first)) (acts_of (steps_of c.application (state_after c.state first) h.command)) o image out) (h.done.1.did.acts.sent told) at_steps;
          restart = λ restart. said (h.restart restart told_then);
        }
