-- The acts of an errand, from tables that a store keeps.
use Rattle.std.proofs.Common.{◌≡◌, inl, inr, ⊎_elim, arith, true, ℕ, List, ◌++◌, sym, ap, subst, ◌∙◌, Result, Ok, Err}
use Rattle.std.specs.Prelude.{IsTrue, OnOk}
use Rattle.application_types.specs.Soundness.{AreLimits}
use Rattle.kd_device.specs.Device.{State}
use Rattle.kd_records.specs.Identity.{Identity}
use Rattle.kd_records.specs.declared.content.Content.{Content}
use Rattle.kdcfile_layout.specs.Layout.{StandsFor}
use Rattle.kdcfile_store.specs.Kept.{IsKept}
use Rattle.kdcfile_store.specs.Paged.{Paged, HasFile}
use Rattle.application_types.specs.Generation.{Generated}
use Rattle.kdcs_types.specs.declared.act.Act.{Act}
use Rattle.kdcs_types.specs.Tables.{TableRows}
use Rattle.abstract_monitor.specs.State.{Application}
use Rattle.abstract_monitor.specs.declared.command.Command.{Command}
use Rattle.abstract_monitor.specs.Commands.{started, acts_of as acts_in}
use Rattle.abstract_monitor.specs.Endings.{durable}
use Rattle.abstract_monitor.specs.Trace.{history, tables_after, bytes_of, trace}
use Rattle.laws_of_states.specs.Applications.{IsApplication}
use Rattle.laws_of_states.specs.Keeping.{HasFacts, IsScriptOf}
use Rattle.laws_of_states.specs.Suits.{Suits}
use Rattle.device_acts.specs.MeaningLaws.{kept_means, kept_stands}
use Rattle.device_acts.specs.Stands.{StandsForTables, KeepsTables, identity_for}
use Rattle.monitor_core.specs.CoreValue.{CoreValue}
use Rattle.device_acts.specs.Acting.{commits_nothing, content_after, AreCommittable, LineOrDisk, WithinActs, WritesBegun, Sent}
use Rattle.device_acts.specs.LinesLaws.{tables_same, kept_content, lines_within}
use Rattle.device_acts.specs.WritingLaws.{quiet_begun}
use Rattle.device_run.specs.Running.{commits_most, IsRunning, WithinSteps, StepsWrite, Stops, Ran as RanSteps}
use Rattle.device_run.specs.TablesLaws.{tables_go}
use Rattle.call_parts.specs.declared.words.Word.{Word}
use Rattle.call_parts.specs.declared.words.Word.TheVariants.{Gen, Run}
use Rattle.call_parts.specs.Asking.{Errand, CanRun, app_of}
use Rattle.call_parts.specs.Opening.{identity_of}
use Rattle.utm_cli.specs.Doing.{own, acts_by, acts_of}
use Rattle.call_parts.specs.Report.{report}
use Rattle.utm_cli.specs.Parts.{ErrandHalts, ErrandStops, ErrandWrites}
use Rattle.utm_cli.specs.Promise.{RanOver, begun_with}
use Rattle.laws_of_states.specs.EndsLaws.{durable_same}
use Rattle.laws_of_states.specs.TablesStayLaws.{started_tables}

-- what follows from two facts of a success
pub on_ok_both : {X E : Type 0} (r : Result X E) (P Q R : Type 0) → (P → Q → R) → OnOk r P → OnOk r Q → OnOk r R
on_ok_both (Ok x) P Q R f h k = f h k
on_ok_both (Err e) P Q R f h k = h

-- ---- the report

-- lines ask nothing of a store
pub report_can : (g : Generated) (store : Paged) (acts : List Act) → acts ≡ report g → AreCommittable store.identity store.content acts
report_can g store acts made = subst (λ (l : List Act). AreCommittable store.identity store.content l) (sym made) tt

module _ (e : Errand) (t : TableRows) (acts : List Act) (gen : e.word ≡ Gen) (made : acts ≡ report e.application.generation) where
  pub report_is : acts ≡ acts_of e (own e t)
  report_is = made ∙ sym (ap (λ (word : Word). acts_by word e (own e t)) gen)

  report_lines : commits_nothing acts ≡ true
  report_lines = ap commits_nothing made

  module _ (store : Paged) (keeps : KeepsTables (identity_of e) store t) (a b : State) (la lb : ℕ → List ℕ → List ℕ → Type 0) where
    pub report_within : WithinActs content_after (StandsFor store.identity) store.content acts a b la lb → WithinActs tables_after (StandsForTables (identity_of e)) t (acts_of e (own e t)) a b la lb
    report_within h =
        subst (λ (l : List Act). WithinActs tables_after (StandsForTables (identity_of e)) t l a b la lb) report_is
        (lines_within (StandsFor store.identity) store.content (StandsForTables (identity_of e)) t (kept_means (identity_of e) store t keeps) acts report_lines a b la lb h)

    pub report_writes : WithinActs content_after (StandsFor store.identity) store.content acts a b la lb → (IsTrue a.told → IsKept (HasFile store) a la) → (IsTrue a.told → (c out : List ℕ) → la a.moment c out → out ≡ a.sent) → (IsTrue a.told → lb a.moment b.holds b.sent) → ErrandWrites e t a b
    report_writes h kept sent now = λ told.
        let quiet = (h.quiet told report_lines).put in
        quiet_begun tables_after tables_go (StandsForTables (identity_of e)) t (commits_most (identity_of e)) (acts_of e (own e t)) a b b.holds la lb (omega (arith, quiet)) (sent told)
        (λ c left. subst (λ (l : List ℕ). StandsForTables (identity_of e) t l) (sym ((kept told).at_rest c left)) (kept_stands (identity_of e) store t a.holds keeps (kept told).bytes)) ((report_within h).any_moment told) (now told)

    pub report_ran : (after : Paged) → after.identity ≡ store.identity → after.content ≡ content_after store.content acts → Sent (HasFile after) acts a b lb → IsTrue a.told → RanOver (identity_of e) (acts_of e (own e t)) t a b lb
    report_ran after identity content sent told =
        let file : StandsFor after.identity after.content b.holds = (after.second, after.layout, (sent.rest told).bytes) in
        let here : StandsFor store.identity store.content b.holds = subst (λ (x : Content). StandsFor store.identity x b.holds) (kept_content acts store.content after.content report_lines content) (subst (λ (j : Identity). StandsFor j after.content b.holds) identity file) in
        let holds = subst (λ (u : TableRows). StandsForTables (identity_of e) u b.holds) (sym (tables_same acts t report_lines)) (kept_means (identity_of e) store t keeps b.holds here) in
        record {
          sent = subst (λ (l : List Act). b.sent ≡ a.sent ++ bytes_of l) report_is (sent.sent told);
          holds = subst (λ (l : List Act). StandsForTables (identity_of e) (tables_after t l) b.holds) report_is holds;
          at_rest = (sent.rest told).at_rest;
        }

-- ---- the script

module _ (e : Errand) (t : TableRows) (core : CoreValue) (application : core.application ≡ app_of e) (state : core.state ≡ started core.application t) (steps : core.steps ≡ 0) where
  pub core_is : core ≡ begun_with (app_of e) t
  core_is =
      let here : core.state ≡ started (app_of e) t = state ∙ ap (λ (app : Application). started app t) application in
      λ i. record { application = application i; state = here i; steps = steps i }

  pub durable_is : Suits e.application.generation t → durable e.application.generation (started (app_of e) t).tables ≡ t
  durable_is suits = ap (durable e.application.generation) (started_tables (app_of e) t) ∙ durable_same e.application.generation t suits

  pub core_runs : CanRun e → Suits e.application.generation t → HasFacts core.application core.state → AreLimits core.application.generation.limits → (store : Paged) → KeepsTables (identity_of e) store t → IsRunning e.fingerprint core store
  core_runs can suits facts limits store keeps = record {
    application = subst IsApplication (sym application) can.applies;
    limits = limits;
    facts = facts;
    keeps = subst (λ (c : CoreValue). KeepsTables (identity_for c.application.generation e.fingerprint) store (durable c.application.generation c.state.tables)) (sym core_is)
        (subst (λ (u : TableRows). KeepsTables (identity_of e) store u) (sym (durable_is suits)) keeps);
  }

  pub core_script : CanRun e → IsScriptOf core.application e.commands
  core_script can = subst (λ (app : Application). IsScriptOf app e.commands) (sym application) can.names

  module _ (run : e.word ≡ Run) (suits : Suits e.application.generation t) (a b : State) (la lb : ℕ → List ℕ → List ℕ → Type 0) where
    script_is : acts_in (history (app_of e) (started (app_of e) t) e.commands) ≡ acts_of e (own e t)
    unfolding trace
    script_is = sym (ap (λ (word : Word). acts_by word e (own e t)) run)

    pub script_within : WithinSteps e.fingerprint core (history core.application core.state e.commands) a b la lb → WithinActs tables_after (StandsForTables (identity_of e)) t (acts_of e (own e t)) a b la lb
    script_within h =
        let here = subst (λ (c : CoreValue). WithinSteps e.fingerprint c (history c.application c.state e.commands) a b la lb) core_is h in
        subst (λ (u : TableRows). WithinActs tables_after (StandsForTables (identity_of e)) u (acts_of e (own e t)) a b la lb) (durable_is suits)
        (subst (λ (l : List Act). WithinActs tables_after (StandsForTables (identity_of e)) (durable e.application.generation (started (app_of e) t).tables) l a b la lb) script_is here)

    pub script_writes : StepsWrite e.fingerprint core (history core.application core.state e.commands) a b → ErrandWrites e t a b
    script_writes h =
        let here = subst (λ (c : CoreValue). StepsWrite e.fingerprint c (history c.application c.state e.commands) a b) core_is h in
        subst (λ (u : TableRows). IsTrue a.told → WritesBegun tables_after (StandsForTables (identity_of e)) u (commits_most (identity_of e)) (acts_of e (own e t)) a b b.holds) (durable_is suits)
        (subst (λ (l : List Act). IsTrue a.told → WritesBegun tables_after (StandsForTables (identity_of e)) (durable e.application.generation (started (app_of e) t).tables) (commits_most (identity_of e)) l a b b.holds) script_is here)

    pub script_stops : (n : ℕ) → Stops e.fingerprint core e.commands n a b → ErrandStops e t a b
    script_stops n h told is = inr (n, subst (λ (c : CoreValue). Stops e.fingerprint c e.commands n a b) core_is h told)

    pub script_halts : LineOrDisk (acts_in (history core.application core.state e.commands)) a b → ErrandHalts e t a b
    script_halts h told is =
        let here = subst (λ (c : CoreValue). LineOrDisk (acts_in (history c.application c.state e.commands)) a b) core_is h in
        let at = subst (λ (l : List Act). LineOrDisk l a b) script_is here told in
        ⊎_elim (λ line. inl line) (λ halts. inr (inr halts)) at

    pub script_ran : RanSteps e.fingerprint core (history core.application core.state e.commands) a b lb → RanOver (identity_of e) (acts_of e (own e t)) t a b lb
    script_ran h =
        let here = subst (λ (c : CoreValue). RanSteps e.fingerprint c (history c.application c.state e.commands) a b lb) core_is h in
        record {
          sent = subst (λ (l : List Act). b.sent ≡ a.sent ++ bytes_of l) script_is here.sent;
          holds = subst (λ (u : TableRows). StandsForTables (identity_of e) (tables_after u (acts_of e (own e t))) b.holds) (durable_is suits)
              (subst (λ (l : List Act). StandsForTables (identity_of e) (tables_after (durable e.application.generation (started (app_of e) t).tables) l) b.holds) script_is here.holds);
          at_rest = here.at_rest;
        }

-- ---- the script as it is handed on

module _ (e : Errand) (t : TableRows) (core : CoreValue) (application : core.application ≡ app_of e) (state : core.state ≡ started core.application t) (steps : core.steps ≡ 0) (commands : List Command) (is : commands ≡ e.commands) where
  pub parts_script : CanRun e → IsScriptOf core.application commands
  parts_script can = subst (λ (l : List Command). IsScriptOf core.application l) (sym is) (core_script e t core application state steps can)

  module _ (run : e.word ≡ Run) (suits : Suits e.application.generation t) (a b : State) (la lb : ℕ → List ℕ → List ℕ → Type 0) where
    pub parts_within : WithinSteps e.fingerprint core (history core.application core.state commands) a b la lb → WithinActs tables_after (StandsForTables (identity_of e)) t (acts_of e (own e t)) a b la lb
    parts_within h = script_within e t core application state steps run suits a b la lb (subst (λ (l : List Command). WithinSteps e.fingerprint core (history core.application core.state l) a b la lb) is h)

    pub parts_writes : StepsWrite e.fingerprint core (history core.application core.state commands) a b → ErrandWrites e t a b
    parts_writes h = script_writes e t core application state steps run suits a b la lb (subst (λ (l : List Command). StepsWrite e.fingerprint core (history core.application core.state l) a b) is h)

    pub parts_stops : (n : ℕ) → Stops e.fingerprint core commands n a b → ErrandStops e t a b
    parts_stops n h = script_stops e t core application state steps run suits a b la lb n (subst (λ (l : List Command). Stops e.fingerprint core l n a b) is h)

    pub parts_halts : LineOrDisk (acts_in (history core.application core.state commands)) a b → ErrandHalts e t a b
    parts_halts h = script_halts e t core application state steps run suits a b la lb (subst (λ (l : List Command). LineOrDisk (acts_in (history core.application core.state l)) a b) is h)

    pub parts_ran : RanSteps e.fingerprint core (history core.application core.state commands) a b lb → RanOver (identity_of e) (acts_of e (own e t)) t a b lb
    parts_ran h = script_ran e t core application state steps run suits a b la lb (subst (λ (l : List Command). RanSteps e.fingerprint core (history core.application core.state l) a b lb) is h)
