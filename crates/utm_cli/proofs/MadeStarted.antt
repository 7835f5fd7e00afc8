-- A monitor that starts from the empty tables, and the lines on its run.
use Rattle.std.proofs.Common.{◌≡◌, ℕ, List, refl, sym, ap, subst, ◌∙◌}
use Rattle.std.specs.Prelude.{Result, Ok, Err, IfOk}
use Rattle.application_types.specs.Soundness.{AreLimits}
use Rattle.kdcfile_store.specs.Paged.{Paged}
use Rattle.kdcs_types.specs.declared.act.Act.{Act}
use Rattle.kdcs_types.specs.Tables.{TableRows, empty_tables}
use Rattle.laws_of_states.specs.Applications.{IsApplication}
use Rattle.laws_of_states.specs.Cut.{commits_in}
use Rattle.laws_of_states.specs.Keeping.{HasFacts, IsScriptOf}
use Rattle.laws_of_states.specs.Suits.{Suits}
use Rattle.abstract_monitor.specs.Commands.{started, acts_of}
use Rattle.abstract_monitor.specs.declared.command.Command.{Command}
use Rattle.abstract_monitor.specs.Endings.{durable}
use Rattle.abstract_monitor.specs.Bytes.{Bytes}
use Rattle.abstract_monitor.specs.State.{Application}
use Rattle.abstract_monitor.specs.Trace.{history, trace, tables_after, bytes_of}
use Rattle.monitor_core.specs.CoreValue.{CoreValue}
use Rattle.monitor_core.specs.CoreSteps.{durable_of}
use Rattle.device_run.specs.Running.{IsRunning}
use Rattle.device_acts.specs.Stands.{KeepsTables, identity_for}
use Rattle.call_parts.specs.MadeReport.{report_with, report_by, report_of}
use Rattle.laws_of_states.specs.EndsLaws.{durable_same}
use Rattle.laws_of_states.specs.TablesStayLaws.{started_tables}

-- a monitor that starts from the empty tables
abbrev fresh : Application → CoreValue
fresh app = record { application = app; state = started app empty_tables; steps = 0 }

module _ (app : Application) (fingerprint : List ℕ) (t : TableRows) (is : t ≡ empty_tables) (suits : Suits app.generation t) (core : CoreValue) (application : core.application ≡ app) (state : core.state ≡ started core.application t) (steps : core.steps ≡ 0) where
  core_is : core ≡ fresh app
  core_is =
      let here : core.state ≡ started app empty_tables = state ∙ (λ i. started (application i) (is i)) in
      λ i. record { application = application i; state = here i; steps = steps i }

  durable_is : durable app.generation (started app empty_tables).tables ≡ empty_tables
  durable_is = ap (durable app.generation) (started_tables app empty_tables) ∙ durable_same app.generation empty_tables (subst (λ (u : TableRows). Suits app.generation u) is suits)

  pub runs : IsApplication core.application → AreLimits core.application.generation.limits → HasFacts core.application core.state → (store : Paged) → KeepsTables (identity_for app.generation fingerprint) store t → IsRunning fingerprint core store
  runs applies limits facts store keeps = record {
    application = applies;
    limits = limits;
    facts = facts;
    keeps = subst (λ (c : CoreValue). KeepsTables (identity_for c.application.generation fingerprint) store (durable c.application.generation c.state.tables)) (sym core_is)
        (subst (λ (u : TableRows). KeepsTables (identity_for app.generation fingerprint) store u) (is ∙ sym durable_is) keeps);
  }

  trace_is : (commands : List Command) → acts_of (history app (started app empty_tables) commands) ≡ trace app empty_tables commands
  unfolding trace
  trace_is commands = refl

  -- the lines by what the core does are those by the trace
  pub report_is : (n : ℕ) (commands : List Command) → report_by n (durable_of core) (acts_of (history core.application core.state commands)) ≡ report_of n app commands
  report_is n commands =
      ap (λ (c : CoreValue). report_by n (durable_of c) (acts_of (history c.application c.state commands))) core_is
      ∙ (λ i. report_by n (durable_is i) (trace_is commands i))

  pub script_is : (commands : List Command) → IsScriptOf app commands → IsScriptOf core.application commands
  script_is commands names = subst (λ (a : Application). IsScriptOf a commands) (sym application) names

-- the lines by what was counted, sent and stored are those by the acts
pub reported : (n : ℕ) (t : TableRows) (acts : List Act) (commits : ℕ) (sent : Bytes) (u : TableRows) → commits ≡ commits_in acts → sent ≡ bytes_of acts → u ≡ tables_after t acts
    → {E : Type 0} (r : Result Bytes E) → IfOk r (λ lines. lines ≡ report_with n commits sent u) → IfOk r (λ lines. lines ≡ report_by n t acts)
reported n t acts commits sent u counted said stored {E} (Ok lines) is = is ∙ (λ i. report_with n (counted i) (said i) (stored i))
reported n t acts commits sent u counted said stored {E} (Err e) is = tt

pub handed : {E : Type 0} (r : Result Bytes E) (p q : Bytes) → IfOk r (λ lines. lines ≡ p) → p ≡ q → IfOk r (λ lines. lines ≡ q)
handed (Ok lines) p q is same = is ∙ same
handed (Err e) p q is same = tt
