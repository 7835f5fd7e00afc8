-- The report and the script of an errand, over copies that were opened.
use Rattle.std.proofs.Common.{◌≡◌, ◌≤◌, ◌+◌, ℕ, List, refl, sym, ap, subst, ◌∙◌}
use Rattle.std.specs.Prelude.{sum_by, ◌^◌}
use Rattle.kd_records.specs.Identity.{Identity}
use Rattle.kd_device.specs.Twin.{Both}
use Rattle.application_types.specs.Soundness.{AreLimits}
use Rattle.kdcs_types.specs.declared.act.Act.{Act}
use Rattle.kdcs_types.specs.Tables.{TableRows}
use Rattle.abstract_monitor.specs.State.{Application}
use Rattle.abstract_monitor.specs.declared.command.Command.{Command}
use Rattle.abstract_monitor.specs.Commands.{started, acts_of}
use Rattle.abstract_monitor.specs.Trace.{history, trace}
use Rattle.laws_of_states.specs.Applications.{IsApplication}
use Rattle.laws_of_states.specs.Keeping.{HasFacts}
use Rattle.laws_of_states.specs.Suits.{Suits}
use Rattle.monitor_core.specs.CoreSteps.{durable_of, turns_of}
use Rattle.monitor_core.specs.CoreValue.{CoreValue}
use Rattle.kdcfile_double.specs.Opening.{KeepsTablesTwice, identity_twice}
use Rattle.kdcfile_double.specs.Twice.{Twice, identity_of}
use Rattle.twin_run.specs.Running.{IsRunningTwice, RanTwice, WithinTwice}
use Rattle.call_parts.specs.Asking.{CanRun, Errand, app_of}
use Rattle.call_parts.specs.Report.{report}
use Rattle.utm_cli.proofs.Doing.{core_is, durable_is as durable_begun}
use Rattle.call_parts.specs.declared.words.Word.{Word}
use Rattle.call_parts.specs.declared.words.Word.TheVariants.{Gen, Run}
use Rattle.utm_cli.specs.Doing.{acts_by, own}
use Rattle.utm_cli.specs.DoingTwo.{acts_two}
use Rattle.call_parts.specs.Opening.{identity_of_two}
use Rattle.utm_cli.proofs.Turns.{turns_from}

-- facts of copies, in words of what they were made with
module _ (i : Identity) (s : Twice) (identity : identity_of s ≡ i) (t : TableRows) (acts : List Act) (a b : Both) where
  pub keeps_own : KeepsTablesTwice i s t → KeepsTablesTwice (identity_of s) s t
  keeps_own keeps = record { identity_is = refl; tables = keeps.tables; content = keeps.content }

  pub within_own : (la lb : ℕ → List ℕ → List ℕ → List ℕ → Type 0) → WithinTwice (identity_of s) s t acts a b la lb → WithinTwice i s t acts a b la lb
  within_own la lb h = subst (λ (j : Identity). WithinTwice j s t acts a b la lb) identity h

  pub ran_own : (lb : ℕ → List ℕ → List ℕ → List ℕ → Type 0) → RanTwice (identity_of s) s t acts a b lb → RanTwice i s t acts a b lb
  ran_own lb h = subst (λ (j : Identity). RanTwice j s t acts a b lb) identity h

-- ---- the report

module _ (e : Errand) (gen : e.word ≡ Gen) (acts : List Act) (made : acts ≡ report e.application.generation) (s : Twice) (identity : identity_of s ≡ identity_of_two e) (a b : Both) where
  report_is : (t : TableRows) → acts ≡ acts_two e t
  report_is t = made ∙ sym (ap (λ (word : Word). acts_by word e (own e t)) gen)

  pub report_within : (la lb : ℕ → List ℕ → List ℕ → List ℕ → Type 0) → ((t : TableRows) → KeepsTablesTwice (identity_of s) s t → WithinTwice (identity_of s) s t acts a b la lb) → (t : TableRows) → KeepsTablesTwice (identity_of_two e) s t → WithinTwice (identity_of_two e) s t (acts_two e t) a b la lb
  report_within la lb h t keeps =
      subst (λ (l : List Act). WithinTwice (identity_of_two e) s t l a b la lb) (report_is t) (within_own (identity_of_two e) s identity t acts a b la lb (h t (keeps_own (identity_of_two e) s identity t acts a b keeps)))

  pub report_ran : (lb : ℕ → List ℕ → List ℕ → List ℕ → Type 0) → ((t : TableRows) → KeepsTablesTwice (identity_of s) s t → RanTwice (identity_of s) s t acts a b lb) → (t : TableRows) → KeepsTablesTwice (identity_of_two e) s t → RanTwice (identity_of_two e) s t (acts_two e t) a b lb
  report_ran lb h t keeps =
      subst (λ (l : List Act). RanTwice (identity_of_two e) s t l a b lb) (report_is t) (ran_own (identity_of_two e) s identity t acts a b lb (h t (keeps_own (identity_of_two e) s identity t acts a b keeps)))

-- ---- the script

module _ (e : Errand) (t : TableRows) (core : CoreValue) (application : core.application ≡ app_of e) (state : core.state ≡ started core.application t) (steps : core.steps ≡ 0) (suits : Suits e.application.generation t) where
  durable_is : durable_of core ≡ t
  durable_is = ap durable_of (core_is e t core application state steps) ∙ durable_begun e t core application state steps suits

  pub core_runs : CanRun e → HasFacts core.application core.state → AreLimits core.application.generation.limits → (s : Twice) → KeepsTablesTwice (identity_of_two e) s t → IsRunningTwice e.fingerprint core s
  core_runs can facts limits s keeps = record {
    application = subst IsApplication (sym application) can.applies;
    limits = limits;
    facts = facts;
    keeps = subst (λ (app : Application). KeepsTablesTwice (identity_twice app.generation e.fingerprint) s (durable_of core)) (sym application) (subst (λ (u : TableRows). KeepsTablesTwice (identity_of_two e) s u) (sym durable_is) keeps);
  }

  pub core_turns : CanRun e → core.steps + sum_by turns_of e.commands ≤ 10 ^ 18
  core_turns can = turns_from e core.steps steps e.commands refl can

  module _ (run : e.word ≡ Run) where
    script_is : acts_of (history core.application core.state e.commands) ≡ acts_two e t
    unfolding trace
    script_is = ap (λ (c : CoreValue). acts_of (history c.application c.state e.commands)) (core_is e t core application state steps) ∙ sym (ap (λ (word : Word). acts_by word e (own e t)) run)

    module _ (s : Twice) (keeps : KeepsTablesTwice (identity_of_two e) s t) (a b : Both) where
      pub script_within : (la lb : ℕ → List ℕ → List ℕ → List ℕ → Type 0) → WithinTwice (identity_of s) s (durable_of core) (acts_of (history core.application core.state e.commands)) a b la lb → WithinTwice (identity_of_two e) s t (acts_two e t) a b la lb
      script_within la lb h =
          let own = within_own (identity_of_two e) s keeps.identity_is (durable_of core) (acts_of (history core.application core.state e.commands)) a b la lb h in
          subst (λ (u : TableRows). WithinTwice (identity_of_two e) s u (acts_two e t) a b la lb) durable_is (subst (λ (l : List Act). WithinTwice (identity_of_two e) s (durable_of core) l a b la lb) script_is own)

      pub script_ran : (lb : ℕ → List ℕ → List ℕ → List ℕ → Type 0) → RanTwice (identity_of s) s (durable_of core) (acts_of (history core.application core.state e.commands)) a b lb → RanTwice (identity_of_two e) s t (acts_two e t) a b lb
      script_ran lb h =
          let own = ran_own (identity_of_two e) s keeps.identity_is (durable_of core) (acts_of (history core.application core.state e.commands)) a b lb h in
          subst (λ (u : TableRows). RanTwice (identity_of_two e) s u (acts_two e t) a b lb) durable_is (subst (λ (l : List Act). RanTwice (identity_of_two e) s (durable_of core) l a b lb) script_is own)

-- ---- the script as it is handed on

module _ (e : Errand) (t : TableRows) (core : CoreValue) (application : core.application ≡ app_of e) (state : core.state ≡ started core.application t) (steps : core.steps ≡ 0) (suits : Suits e.application.generation t) (commands : List Command) (is : commands ≡ e.commands) where
  pub parts_turns : CanRun e → core.steps + sum_by turns_of commands ≤ 10 ^ 18
  parts_turns can = subst (λ (l : List Command). core.steps + sum_by turns_of l ≤ 10 ^ 18) (sym is) (core_turns e t core application state steps suits can)

  module _ (run : e.word ≡ Run) (s : Twice) (keeps : KeepsTablesTwice (identity_of_two e) s t) (a b : Both) where
    pub parts_within : (la lb : ℕ → List ℕ → List ℕ → List ℕ → Type 0) → WithinTwice (identity_of s) s (durable_of core) (acts_of (history core.application core.state commands)) a b la lb → WithinTwice (identity_of_two e) s t (acts_two e t) a b la lb
    parts_within la lb h = script_within e t core application state steps suits run s keeps a b la lb (subst (λ (l : List Command). WithinTwice (identity_of s) s (durable_of core) (acts_of (history core.application core.state l)) a b la lb) is h)

    pub parts_ran : (lb : ℕ → List ℕ → List ℕ → List ℕ → Type 0) → RanTwice (identity_of s) s (durable_of core) (acts_of (history core.application core.state commands)) a b lb → RanTwice (identity_of_two e) s t (acts_two e t) a b lb
    parts_ran lb h = script_ran e t core application state steps suits run s keeps a b lb (subst (λ (l : List Command). RanTwice (identity_of s) s (durable_of core) (acts_of (history core.application core.state l)) a b lb) is h)
