-- How steps of a script go on from one another.
use Rattle.std.proofs.Common.{◌≡◌, ◌≤◌, ◌+◌, ℕ, List, [], ◌∷◌, ◌++◌, sym, ap, subst, ◌∙◌}
use Rattle.std.specs.Prelude.{IsTrue}
use Rattle.std.proofs.lemmas.List.{append-nil}
use Rattle.std.proofs.lemmas.Grind.{flat_map-append}
use Rattle.kd_device.specs.Device.{State}
use Rattle.kd_records.specs.Identity.{Identity}
use Rattle.kd_records.specs.declared.content.Content.{Content}
use Rattle.kd_records.specs.declared.content.Patch.{Patch}
use Rattle.kdcs_types.specs.declared.act.Act.{Act}
use Rattle.kdcs_types.specs.Tables.{TableRows, IsSortedTables}
use Rattle.laws_of_states.specs.Applications.{IsApplication}
use Rattle.laws_of_states.specs.Keeping.{HasFacts}
use Rattle.laws_of_states.specs.Steps.{CommitsOnce, StepsMakeTheirTables}
use Rattle.laws_of_runs.specs.HistoryLaws.{after_one}
use Rattle.laws_of_runs.specs.ListsLaws.{after_both, tables_both}
use Rattle.application_types.specs.Soundness.{AreLimits}
use Rattle.abstract_monitor.specs.State.{Application, State as MonitorState}
use Rattle.abstract_monitor.specs.Commands.{ScriptStep, acts_of, state_after}
use Rattle.abstract_monitor.specs.Endings.{durable}
use Rattle.abstract_monitor.specs.Trace.{tables_after, bytes_of}
use Rattle.record_codec.specs.Records.{content_of_tables}
use Rattle.device_acts.specs.Stands.{AreTables, identity_for}
use Rattle.monitor_core.specs.CoreValue.{CoreValue}
use Rattle.device_acts.specs.Storing.{AreStorable}
use Rattle.device_acts.specs.Acting.{JoinsParts, DidActs, WithinActs, WritesBegun, WritesWithin, acts_most, content_after, AreCommittable}
use Rattle.monitor_core.specs.CoreSteps.{durable_of}
use Rattle.device_run.specs.Running.{identity_of, commits_most_with}
use Rattle.device_run.specs.Keeping.{DidSteps, IsRunningWith, KeepsRows, RanWith, StandsForRows, StepsWriteWith, WithinStepsWith}
use Rattle.device_acts.specs.ActingLaws.{Running, running_within, running_more}
use Rattle.device_acts.specs.WritingLaws.{begun_within, put_then}
use Rattle.device_run.specs.TablesLaws.{tables_go, tables_stay, contents_are, committable, tables_within, most_of, commits_add, commits_written}

pub acts_both : (xs ys : List ScriptStep) → acts_of (xs ++ ys) ≡ acts_of xs ++ acts_of ys
acts_both xs ys = flat_map-append (λ (d : ScriptStep). d.acts) xs ys

pub acts_of_one : (d : ScriptStep) → acts_of (d ∷ []) ≡ d.acts
acts_of_one d = append-nil d.acts

-- images that stand for what the files of a running core keep
pub rows_stand : (fingerprint : List ℕ) (c : CoreValue) (j : Identity) (x : Content) → IsRunningWith fingerprint c j x → (stands : Identity → Content → List ℕ → Type 0) (image : List ℕ) → stands j x image → StandsForRows stands (identity_of fingerprint c) (durable_of c) image
rows_stand fingerprint c j x running stands image here = record {
  tables = running.keeps.tables;
  content = subst (λ (y : Content). stands (identity_of fingerprint c) y image) running.keeps.content (subst (λ (k : Identity). stands k x image) running.keeps.identity_is here);
}

-- ---- one step whose acts are performed

-- a step of a core, whose acts these are, and which its keeper can take
pub record CanStep (fingerprint : List ℕ) (c : CoreValue) (j : Identity) (x : Content) (step : ScriptStep) (acts : List Act) : Type 0 where
  pub running : IsRunningWith fingerprint c j x
  pub same : acts ≡ step.acts
  pub storable : AreStorable c.application.generation.limits.blksize c.application.generation.limits.pgpool (durable_of c) step.acts

module _ (fingerprint : List ℕ) (c : CoreValue) (j : Identity) (x : Content) (step : ScriptStep) (acts : List Act) (can : CanStep fingerprint c j x step acts) where
  pub can_act : AreCommittable j x acts
  can_act =
      subst (λ (i : Identity). AreCommittable i x acts) (sym can.running.keeps.identity_is)
      (subst (λ (y : Content). AreCommittable (identity_of fingerprint c) y acts) (sym can.running.keeps.content)
      (subst (λ (l : List Act). AreCommittable (identity_of fingerprint c) (content_of_tables (durable_of c)) l) (sym can.same) (committable (identity_of fingerprint c) (durable_of c) step.acts can.storable)))

  pub step_within : (stands : Identity → Content → List ℕ → Type 0) (a b : State) (la lb : ℕ → List ℕ → List ℕ → Type 0) → WithinActs content_after (stands j) x acts a b la lb → WithinStepsWith stands fingerprint c (step ∷ []) a b la lb
  step_within stands a b la lb p =
      let i = identity_of fingerprint c in
      let at_identity = subst (λ (k : Identity). WithinActs content_after (stands k) x acts a b la lb) can.running.keeps.identity_is p in
      let at_content = subst (λ (y : Content). WithinActs content_after (stands i) y acts a b la lb) can.running.keeps.content at_identity in
      let at_acts = subst (λ (l : List Act). WithinActs content_after (stands i) (content_of_tables (durable_of c)) l a b la lb) can.same at_content in
      subst (λ (l : List Act). WithinActs tables_after (StandsForRows stands i) (durable_of c) l a b la lb) (sym (acts_of_one step)) (tables_within i stands (durable_of c) step.acts a b la lb can.running.keeps.tables can.storable at_acts)

  pub step_writes : (stands : Identity → Content → List ℕ → Type 0) (written : Identity → Content → Patch → ℕ) (most : Identity → Patch → ℕ) → ((i : Identity) (y : Content) (patch : Patch) → written i y patch ≤ most i patch) → (a b : State) (lb : ℕ → List ℕ → List ℕ → Type 0) → WritesWithin content_after (stands j) x (acts_most written j x) acts a b lb
      → StepsWriteWith stands most fingerprint c (step ∷ []) a b lb
  step_writes stands written most bounded a b lb h = λ told image left.
      let i = identity_of fingerprint c in
      let rows = content_of_tables (durable_of c) in
      let at_identity = subst (λ (k : Identity). WritesBegun content_after (stands k) x (acts_most written k x) acts a b image) can.running.keeps.identity_is (h told image left) in
      let at_content = subst (λ (y : Content). WritesBegun content_after (stands i) y (acts_most written i y) acts a b image) can.running.keeps.content at_identity in
      let at_acts = subst (λ (l : List Act). WritesBegun content_after (stands i) rows (acts_most written i rows) l a b image) can.same at_content in
      subst (λ (l : List Act). WritesBegun tables_after (StandsForRows stands i) (durable_of c) (commits_most_with most i) l a b image) (sym (acts_of_one step)) (commits_written most i written bounded stands (durable_of c) step.acts a b image can.running.keeps.tables can.storable at_acts)

  pub did_step : (fine : State → State → Type 0) → StepsMakeTheirTables → CommitsOnce c.application c.state step → (d : CoreValue) (k : Identity) (y : Content) (file : List ℕ → Type 0) (a b : State) (lb : ℕ → List ℕ → List ℕ → Type 0) → d.application ≡ c.application → HasFacts d.application d.state → d.state ≡ step.after
      → k ≡ j → y ≡ content_after x acts → DidActs fine file acts a b lb → DidSteps fine fingerprint c (step ∷ []) d k y file a b lb
  did_step fine make once d k y file a b lb app facts after identity content sent =
      let i = identity_of fingerprint c in
      let made = make c.application c.state step can.running.facts.1.order (subst (λ (s : MonitorState). IsSortedTables s.tables) after facts.1.order) once in
      let now : durable_of d ≡ durable c.application.generation step.after.tables = λ n. durable (app n).generation (after n).tables in
      let tables_are : tables_after (durable_of c) step.acts ≡ durable_of d = made ∙ sym now in
      let at_acts : y ≡ content_after (content_of_tables (durable_of c)) step.acts = content ∙ (λ n. content_after (can.running.keeps.content n) (can.same n)) in
      record {
        application = app;
        running = record {
          application = subst IsApplication (sym app) can.running.application;
          limits = subst (λ (z : Application). AreLimits z.generation.limits) (sym app) can.running.limits;
          facts = facts;
          keeps = record {
            identity_is = identity ∙ can.running.keeps.identity_is ∙ ap (λ (z : Application). identity_for z.generation fingerprint) (sym app);
            tables = subst AreTables tables_are (tables_stay i (durable_of c) step.acts can.running.keeps.tables can.storable);
            content = at_acts ∙ contents_are i (durable_of c) step.acts can.storable ∙ ap content_of_tables tables_are;
          };
        };
        state = λ told. after ∙ sym (after_one c.state step);
        tables = λ told. sym tables_are ∙ ap (λ (l : List Act). tables_after (durable_of c) l) (sym (acts_of_one step));
        acts = subst (λ (l : List Act). DidActs fine file l a b lb) (can.same ∙ sym (acts_of_one step)) sent;
      }

-- ---- steps so far, of all

-- some first steps of all are done: a is the keeper at the start, and b the keeper now
pub record Stepping (stands : Identity → Content → List ℕ → Type 0) (most : Identity → Patch → ℕ) (fine : State → State → Type 0) (fingerprint : List ℕ) (c d : CoreValue) (j : Identity) (x : Content) (file : List ℕ → Type 0) (all done : List ScriptStep) (a b : State) (la lb : ℕ → List ℕ → List ℕ → Type 0) : Type 0 where
  pub within : WithinStepsWith stands fingerprint c all a b la lb
  pub did : DidSteps fine fingerprint c done d j x file a b lb
  pub put : IsTrue a.told → b.put ≤ a.put + commits_most_with most (identity_of fingerprint c) (acts_of done)

module _ (stands : Identity → Content → List ℕ → Type 0) (most : Identity → Patch → ℕ) (fine : State → State → Type 0) (on : JoinsParts fine) (fingerprint : List ℕ) (c d : CoreValue) (j : Identity) (x : Content) (file : List ℕ → Type 0) (all done here rest : List ScriptStep) (a b e : State) (la lb le : ℕ → List ℕ → List ℕ → Type 0) (run : Stepping stands most fine fingerprint c d j x file all done a b la lb) (split : IsTrue a.told → all ≡ done ++ (here ++ rest)) (step : WithinStepsWith stands fingerprint d here b e lb le) where
  told_then : IsTrue a.told → IsTrue b.told
  told_then told = rw run.within.frame.told told

  same_identity : identity_of fingerprint d ≡ identity_of fingerprint c
  same_identity = ap (λ (z : Application). identity_for z.generation fingerprint) run.did.application

  step_here : WithinActs tables_after (StandsForRows stands (identity_of fingerprint c)) (durable_of d) (acts_of here) b e lb le
  step_here = subst (λ (i : Identity). WithinActs tables_after (StandsForRows stands i) (durable_of d) (acts_of here) b e lb le) same_identity step

  so_far : Running fine tables_after (StandsForRows stands (identity_of fingerprint c)) file (durable_of c) (acts_of all) (acts_of done) a b la lb
  so_far = record { within = run.within; sent = run.did.acts }

  split_acts : IsTrue a.told → acts_of all ≡ acts_of done ++ (acts_of here ++ acts_of rest)
  split_acts told = ap acts_of (split told) ∙ acts_both done (here ++ rest) ∙ ap (λ (l : List Act). acts_of done ++ l) (acts_both here rest)

  pub stepping_within : WithinStepsWith stands fingerprint c all a e la le
  stepping_within =
      running_within fine on tables_after tables_go (StandsForRows stands (identity_of fingerprint c)) file (durable_of c) (durable_of d) (acts_of all) (acts_of done) (acts_of here) (acts_of rest) a b e la lb le run.did.tables split_acts so_far step_here

  pub stepping_writes : StepsWriteWith stands most fingerprint d here b e le → StepsWriteWith stands most fingerprint c all a e le
  stepping_writes writes = λ told image left.
      let i = identity_of fingerprint c in
      let next = subst (λ (k : Identity). WritesBegun tables_after (StandsForRows stands k) (durable_of d) (commits_most_with most k) (acts_of here) b e image) same_identity (writes (told_then told) image left) in
      begun_within tables_after tables_go (StandsForRows stands i) (most_of most i) (commits_add most i) (durable_of c) (durable_of d) (acts_of done) (acts_of here) a b e (run.did.tables told) (run.put told) (acts_of all) (acts_of rest) image (run.did.acts.sent told) next (split_acts told)

  pub stepping_more : (next : CoreValue) (k : Identity) (y : Content) (file' : List ℕ → Type 0) (done' : List ScriptStep) → (IsTrue a.told → done' ≡ done ++ here) → (IsTrue b.told → e.put ≤ b.put + commits_most_with most (identity_of fingerprint d) (acts_of here)) → DidSteps fine fingerprint d here next k y file' b e le → Stepping stands most fine fingerprint c next k y file' all done' a e la le
  stepping_more next k y file' done' more put did =
      let i = identity_of fingerprint c in
      let acts_more : Running fine tables_after (StandsForRows stands i) file' (durable_of c) (acts_of all) (acts_of done ++ acts_of here) a e la le =
      running_more fine on tables_after tables_go (StandsForRows stands i) file (durable_of c) (durable_of d) (acts_of all) (acts_of done) (acts_of here) (acts_of rest) a b e la lb le run.did.tables split_acts so_far step_here file' did.acts in
      let done_acts : IsTrue a.told → acts_of done' ≡ acts_of done ++ acts_of here = λ told. ap acts_of (more told) ∙ acts_both done here in
      record {
        within = acts_more.within;
        did = record {
          application = did.application ∙ run.did.application;
          running = did.running;
          state = λ told. did.state (told_then told) ∙ ap (λ (s : MonitorState). state_after s here) (run.did.state told) ∙ sym (after_both c.state done here) ∙ ap (λ (l : List ScriptStep). state_after c.state l) (sym (more told));
          tables = λ told. did.tables (told_then told) ∙ ap (λ (t : TableRows). tables_after t (acts_of here)) (run.did.tables told) ∙ sym (tables_both (durable_of c) (acts_of done) (acts_of here)) ∙ ap (λ (l : List Act). tables_after (durable_of c) l) (sym (done_acts told));
          acts = record {
            rest = acts_more.sent.rest;
            sent = λ told. acts_more.sent.sent told ∙ ap (λ (l : List Act). a.sent ++ bytes_of l) (sym (done_acts told));
            calls = acts_more.sent.calls;
          };
        };
        put = λ told.
            let here_most = subst (λ (j : Identity). e.put ≤ b.put + commits_most_with most j (acts_of here)) same_identity (put (told_then told)) in
            subst (λ (l : List Act). e.put ≤ a.put + commits_most_with most i l) (sym (done_acts told))
            (put_then tables_after tables_go (StandsForRows stands i) (most_of most i) (commits_add most i) (durable_of c) (durable_of d) (acts_of done) (acts_of here) a b e (run.did.tables told) (run.put told) here_most);
      }

-- all steps were done
pub steps_ran : (fine : State → State → Type 0) (fingerprint : List ℕ) (c d : CoreValue) (j : Identity) (x : Content) (file : List ℕ → Type 0) (steps : List ScriptStep) (a b : State) (lb : ℕ → List ℕ → List ℕ → Type 0) → DidSteps fine fingerprint c steps d j x file a b lb → IsTrue a.told → RanWith fingerprint c steps j x file a b lb
steps_ran fine fingerprint c d j x file steps a b lb did told =
    let same : identity_of fingerprint d ≡ identity_of fingerprint c = ap (λ (z : Application). identity_for z.generation fingerprint) did.application in
    record {
      sent = did.acts.sent told;
      keeps = subst (λ (t : TableRows). KeepsRows (identity_of fingerprint c) j x t) (did.tables told) (subst (λ (i : Identity). KeepsRows i j x (durable_of d)) same did.running.keeps);
      at_rest = did.acts.rest told;
    }
