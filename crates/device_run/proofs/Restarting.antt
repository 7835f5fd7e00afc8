-- A restart: the files are opened again, and a line is said.
use Rattle.std.proofs.Common.{◌≡◌, ℕ, List, [], ◌∷◌, ◌++◌, take, refl, sym, ap, subst, ◌∙◌}
use Rattle.std.specs.Prelude.{IsTrue}
use Rattle.std.proofs.lemmas.List.{append-nil}
use Rattle.kd_device.specs.Device.{State, Frame, SameNames, LeavesOnly}
use Rattle.kd_device.specs.TimeLaws.{leaves_weaker, told_after}
use Rattle.kd_records.specs.Identity.{Identity}
use Rattle.kd_records.specs.declared.content.Content.{Content}
use Rattle.application_types.specs.Generation.{Generated}
use Rattle.kdcs_types.specs.declared.act.Act.{Act}
use Rattle.kdcs_types.specs.declared.act.Act.TheVariants.{Emit}
use Rattle.kdcs_types.specs.Tables.{TableRows}
use Rattle.abstract_monitor.specs.Commands.{ScriptStep, acts_of, command_of, started, state_after}
use Rattle.abstract_monitor.specs.declared.command.Command.TheVariants.{Restart}
use Rattle.abstract_monitor.specs.Endings.{durable}
use Rattle.abstract_monitor.specs.Lines.{restart_line}
use Rattle.application_types.specs.Soundness.{AreLimits}
use Rattle.abstract_monitor.specs.State.{Application}
use Rattle.abstract_monitor.specs.Trace.{tables_after, bytes_of}
use Rattle.laws_of_states.specs.Applications.{IsApplication}
use Rattle.laws_of_states.specs.Keeping.{HasFacts}
use Rattle.record_codec.specs.Records.{content_of_tables}
use Rattle.device_acts.specs.Stands.{AreTables, identity_for}
use Rattle.monitor_core.specs.CoreValue.{CoreValue}
use Rattle.device_acts.specs.Acting.{JoinsParts, IsCutOf, IsKeptBy, DidActs, WithinActs}
use Rattle.monitor_core.specs.CoreSteps.{durable_of}
use Rattle.device_run.specs.Running.{identity_of}
use Rattle.device_run.specs.Keeping.{DidSteps, IsAgain, IsRunningWith, KeepsSuited, Reopening, StandsForRows, WithinStepsWith}
use Rattle.device_acts.specs.Said.{Said, SaidPart}
use Rattle.device_acts.specs.ActingLaws.{no_bytes, cut_none, Running, running_within}
use Rattle.device_acts.specs.ContentsLaws.{line_within, line_sent}
use Rattle.device_run.specs.SteppingLaws.{rows_stand}
use Rattle.device_run.specs.TablesLaws.{tables_go}
use Rattle.laws_of_states.specs.EndsLaws.{durable_same}
use Rattle.laws_of_states.specs.TablesStayLaws.{started_tables}

abbrev pub again : CoreValue → ScriptStep
again c = command_of c.application c.state Restart

pub acts_again : (c : CoreValue) → acts_of (again c ∷ []) ≡ Emit restart_line ∷ []
unfolding command_of
acts_again c = refl

state_again : (c : CoreValue) → state_after c.state (again c ∷ []) ≡ started c.application (durable_of c)
unfolding command_of state_after
state_again c = refl

line_makes_nothing : (t : TableRows) (line : List ℕ) → tables_after t (Emit line ∷ []) ≡ t
unfolding tables_after
line_makes_nothing t line = refl

module _ (fingerprint : List ℕ) (c : CoreValue) (j : Identity) (x : Content) (running : IsRunningWith fingerprint c j x) where
  -- what its files keep suits its generation
  pub own_suited : (g : Generated) → c.application.generation ≡ g → KeepsSuited g fingerprint j x (durable_of c)
  own_suited g is = subst (λ (h : Generated). KeepsSuited h fingerprint j x (durable_of c)) is (record { keeps = running.keeps; suits = running.facts.1.suits })

  pub reopening_rows : (stands : Identity → Content → List ℕ → Type 0) (a b : State) (la lb : ℕ → List ℕ → List ℕ → Type 0) → Reopening (stands j x) a b la lb → Reopening (StandsForRows stands (identity_of fingerprint c) (durable_of c)) a b la lb
  reopening_rows stands a b la lb h = record {
    disk = h.disk;
    sent = h.sent;
    leaves = leaves_weaker a b la lb (λ image out. (out ≡ a.sent) × stands j x image) (λ image out. (out ≡ a.sent) × StandsForRows stands (identity_of fingerprint c) (durable_of c) image) h.leaves (λ image out left. (left.0, rows_stand fingerprint c j x running stands image left.1));
  }

  -- a core that starts from the tables that the files were opened with
  pub starts_again : (fine : State → State → Type 0) (g : Generated) → c.application.generation ≡ g → (t : TableRows) (next : CoreValue) (k : Identity) (y : Content) (file : List ℕ → Type 0) (a b : State) (lb : ℕ → List ℕ → List ℕ → Type 0) → KeepsSuited g fingerprint k y t → (IsTrue a.told → t ≡ durable_of c) → (IsTrue a.told → IsKeptBy file b lb) → fine a b
      → next.application ≡ c.application → next.state ≡ started next.application t → HasFacts next.application next.state → next.steps ≡ 0
      → IsAgain fine fingerprint c next k y file a b lb
  starts_again fine g is t next k y file a b lb now same kept went app state facts steps =
      let tables_are : durable_of next ≡ t = (λ n. durable (app n).generation (state n).tables) ∙ ap (λ (u : TableRows). durable c.application.generation u) (started_tables next.application t) ∙ ap (λ (h : Generated). durable h t) is ∙ durable_same g t now.suits in
      let identity : identity_for g fingerprint ≡ identity_of fingerprint next = ap (λ (h : Generated). identity_for h fingerprint) (sym is ∙ ap (λ (z : Application). z.generation) (sym app)) in
      record {
        application = app;
        running = record {
          application = subst IsApplication (sym app) running.application;
          limits = subst (λ (z : Application). AreLimits z.generation.limits) (sym app) running.limits;
          facts = facts;
          keeps = record { identity_is = now.keeps.identity_is ∙ identity; tables = subst AreTables (sym tables_are) now.keeps.tables; content = now.keeps.content ∙ ap content_of_tables (sym tables_are) };
        };
        steps = steps;
        state = λ told. state ∙ (λ n. started (app n) (same told n));
        tables = λ told. tables_are ∙ same told;
        kept = kept;
        calls = went;
      }

module _ (stands : Identity → Content → List ℕ → Type 0) (fingerprint : List ℕ) (c : CoreValue) (a b : State) (la lb : ℕ → List ℕ → List ℕ → Type 0) (frame : Frame a b) (names : SameNames a b) (still : IsTrue a.told → Reopening (StandsForRows stands (identity_of fingerprint c) (durable_of c)) a b la lb) where
  in_opening : (acts : List Act) (image out : List ℕ) → (out ≡ a.sent) × StandsForRows stands (identity_of fingerprint c) (durable_of c) image → IsCutOf tables_after (StandsForRows stands (identity_of fingerprint c)) (durable_of c) acts a.sent image out
  in_opening acts image out now =
      let i = identity_of fingerprint c in
      subst (λ (o : List ℕ). IsCutOf tables_after (StandsForRows stands i) (durable_of c) acts a.sent image o) (sym now.0)
      (cut_none tables_after tables_go (StandsForRows stands i) (durable_of c) acts a.sent image now.1)

  -- the opening alone
  pub opening_within : WithinStepsWith stands fingerprint c (again c ∷ []) a b la lb
  opening_within =
      let acts = acts_of (again c ∷ []) in record {
        frame = frame;
        names = names;
        any_moment = λ told. leaves_weaker a b la lb (λ image out. (out ≡ a.sent) × StandsForRows stands (identity_of fingerprint c) (durable_of c) image) (IsCutOf tables_after (StandsForRows stands (identity_of fingerprint c)) (durable_of c) acts a.sent) (still told).leaves (in_opening acts);
        quiet = λ told lines. (still told).disk;
      }

  module _ (fine : State → State → Type 0) (on : JoinsParts fine) (next : CoreValue) (k : Identity) (y : Content) (file : List ℕ → Type 0) (begun : IsAgain fine fingerprint c next k y file a b lb) (d : State) (ld : ℕ → List ℕ → List ℕ → Type 0) where
    told_before : IsTrue b.told → IsTrue a.told
    told_before told = subst IsTrue frame.told told

    module _ (means : (image : List ℕ) → file image → stands k y image) (frame' : Frame b d) (names' : SameNames b d) (part : IsTrue b.told → SaidPart restart_line b d) (left : IsTrue b.told → LeavesOnly b d lb ld (λ image out. lb b.moment image b.sent × ((n : ℕ) × (out ≡ b.sent ++ take n restart_line)))) where
      opened_stands : IsTrue b.told → (image : List ℕ) → lb b.moment image b.sent → StandsForRows stands (identity_of fingerprint c) (durable_of c) image
      opened_stands told image now =
          let before = told_before told in
          subst (λ (t : TableRows). StandsForRows stands (identity_of fingerprint c) t image) (begun.tables before)
          (subst (λ (z : Application). StandsForRows stands (identity_for z.generation fingerprint) (durable_of next) image) begun.application
          (rows_stand fingerprint next k y begun.running stands image (means image (begun.kept before image now))))

      said : WithinActs tables_after (StandsForRows stands (identity_of fingerprint c)) (durable_of c) (acts_of (again c ∷ [])) b d lb ld
      said =
          subst (λ (l : List Act). WithinActs tables_after (StandsForRows stands (identity_of fingerprint c)) (durable_of c) l b d lb ld) (sym (acts_again c))
          (line_within tables_after tables_go (StandsForRows stands (identity_of fingerprint c)) (durable_of c) b d lb ld (Emit restart_line) restart_line refl frame' names' opened_stands part left)

      so_far : Running fine tables_after (StandsForRows stands (identity_of fingerprint c)) file (durable_of c) (acts_of (again c ∷ [])) [] a b la lb
      so_far = record {
        within = opening_within;
        sent = record { rest = begun.kept; sent = λ told. (still told).sent ∙ sym (ap (λ (l : List ℕ). a.sent ++ l) no_bytes ∙ append-nil a.sent); calls = begun.calls };
      }

      pub restart_within : WithinStepsWith stands fingerprint c (again c ∷ []) a d la ld
      restart_within =
          running_within fine on tables_after tables_go (StandsForRows stands (identity_of fingerprint c)) file (durable_of c) (durable_of c) (acts_of (again c ∷ [])) [] (acts_of (again c ∷ [])) [] a b d la lb ld
          (λ told. sym (tables_go.none (durable_of c))) (λ told. sym (append-nil (acts_of (again c ∷ [])))) so_far said

    pub did_restart : (k' : Identity) (y' : Content) (file' : List ℕ → Type 0) → k' ≡ k → y' ≡ y → (IsTrue b.told → IsKeptBy file b lb → IsKeptBy file' d ld) → (IsTrue b.told → Said restart_line b d) → fine b d → DidSteps fine fingerprint c (again c ∷ []) next k' y' file' a d ld
    did_restart k' y' file' same_identity same_content kept said_all went =
        let line : DidActs fine file' (Emit restart_line ∷ []) b d ld = line_sent fine file' b d ld (Emit restart_line) restart_line refl (λ told. kept told (begun.kept (told_before told))) said_all went in
        record {
          application = begun.application;
          running = subst (λ (z : Content). IsRunningWith fingerprint next k' z) (sym same_content) (subst (λ (i : Identity). IsRunningWith fingerprint next i y) (sym same_identity) begun.running);
          state = λ told. begun.state told ∙ sym (state_again c);
          tables = λ told. begun.tables told ∙ sym (line_makes_nothing (durable_of c) restart_line) ∙ ap (λ (l : List Act). tables_after (durable_of c) l) (sym (acts_again c));
          acts = subst (λ (l : List Act). DidActs fine file' l a d ld) (sym (acts_again c)) (record {
            rest = λ told. line.rest (told_after a b frame told);
            sent = λ told. line.sent (told_after a b frame told) ∙ ap (λ (l : List ℕ). l ++ bytes_of (Emit restart_line ∷ [])) (still told).sent;
            calls = on.after a b d begun.calls line.calls;
          });
        }
