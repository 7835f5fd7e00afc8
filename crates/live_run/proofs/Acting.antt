-- What becomes of a text that is sent, of commands that are performed, and of nothing.
use Rattle.std.proofs.Common.{◌≡◌, ◌⊎◌, inl, inr, ℕ, zero, suc, List, [], ◌∷◌, ◌++◌, refl, sym, subst, take, ap, ◌∙◌, arith}
use Rattle.std.specs.Prelude.{IsTrue, Result, Ok, Err, IsErrAnd, IsErrOf}
use Rattle.std.proofs.lemmas.List.{append-nil}
use Rattle.kd_device.specs.Device.{State, Frame, Rose, SameNames}
use Rattle.kd_device.specs.declared.error.DeviceError.{DeviceError}
use Rattle.kd_device.specs.declared.error.DeviceError.TheVariants as device
use Rattle.kd_records.specs.Identity.{Identity}
use Rattle.kd_records.specs.declared.content.Content.{Content}
use Rattle.kd_records.specs.declared.content.Patch.{Patch}
use Rattle.kdcs_types.specs.declared.act.Act.{Act}
use Rattle.kdcs_types.specs.declared.act.Act.TheVariants.{Emit}
use Rattle.kdcs_types.specs.Tables.{TableRows}
use Rattle.abstract_monitor.specs.Commands.{ScriptStep, acts_of, state_after}
use Rattle.abstract_monitor.specs.State.{State as MonitorState}
use Rattle.abstract_monitor.specs.Trace.{bytes_of, history, tables_after}
use Rattle.abstract_monitor.specs.declared.command.Command.{Command}
use Rattle.abstract_monitor.specs.declared.command.Command.TheVariants.{Restart}
use Rattle.monitor_core.specs.CoreSteps.{durable_of}
use Rattle.monitor_core.specs.CoreValue.{CoreValue}
use Rattle.device_acts.specs.Acting.{IsKeptBy, JoinsParts, LineOrDisk, WithinActs, WritesWithin}
use Rattle.device_acts.specs.ActingLaws.{cut_within_line, none_within, running_start}
use Rattle.device_acts.specs.ContentsLaws.{line_sent, line_within}
use Rattle.device_acts.specs.Said.{LeavesFront, Said, SaidPart}
use Rattle.device_acts.specs.WritingLaws.{cut_begun, none_begun}
use Rattle.device_acts.specs.declared.warm_start.error.OpenError.{OpenError}
use Rattle.device_acts.specs.declared.warm_start.error.OpenError.TheVariants as opening
use Rattle.device_run.specs.Running.{SaysNothing, acts_before, commits_most_with, identity_of}
use Rattle.device_run.specs.Keeping.{DidSteps, IsRunningWith, StandsForRows, StepsWriteWith, StopsWith, WithinStepsWith}
use Rattle.device_run.specs.SteppingLaws.{rows_stand}
use Rattle.device_run.specs.TablesLaws.{tables_go}
use Rattle.live_run.specs.Causes.{of_device, of_open}
use Rattle.live_run.specs.Performing.{RestartsFirst, TookActs}
use Rattle.live_run.specs.declared.error.LiveError.{LiveError}
use Rattle.live_run.specs.declared.error.LiveError.TheVariants as live
use Rattle.live_run.proofs.Errors.{device_failed, device_is_no_input, device_knows_no_other, device_refuses_nothing, device_went, open_failed, open_is_no_input, open_other, open_refused, open_went}

text_makes_nothing : (t : TableRows) (text : List ℕ) → tables_after t (Emit text ∷ []) ≡ t
unfolding tables_after
text_makes_nothing t text = refl

-- an error that is handed on
pub took_handed : {stands : Identity → Content → List ℕ → Type 0} {most : Identity → Patch → ℕ} {fine : State → State → Type 0} {fingerprint : List ℕ} {c : CoreValue} {acts : List Act} {s : MonitorState} {j : Identity} {y : Content} {file : List ℕ → Type 0} {a b : State} {la lb : ℕ → List ℕ → List ℕ → Type 0} (r : Result CoreValue LiveError) (e : LiveError) → IsErrAnd r (λ x. x ≡ e) → TookActs stands most fine fingerprint c acts s j y file a b la lb (Err e)
    → TookActs stands most fine fingerprint c acts s j y file a b la lb r
took_handed (Ok d) e is took = absurd is
took_handed {stands = stands} {most = most} {fine = fine} {fingerprint = fingerprint} {c = c} {acts = acts} {s = s} {j = j} {y = y} {file = file} {a = a} {b = b} {la = la} {lb = lb} (Err x) e is took = subst (λ (z : LiveError). TookActs stands most fine fingerprint c acts s j y file a b la lb (Err z)) (sym is) took

module _ (stands : Identity → Content → List ℕ → Type 0) (most : Identity → Patch → ℕ) (fine : State → State → Type 0) (fingerprint : List ℕ) (c : CoreValue) where
  abbrev rows : TableRows → List ℕ → Type 0
  rows = StandsForRows stands (identity_of fingerprint c)

  abbrev bound : List Act → ℕ
  bound acts = commits_most_with most (identity_of fingerprint c) acts

  -- what a stop leaves of a keeper at rest
  pub rows_rest : (j : Identity) (y : Content) (file : List ℕ → Type 0) (a : State) (la : ℕ → List ℕ → List ℕ → Type 0) → IsRunningWith fingerprint c j y → (IsTrue a.told → IsKeptBy file a la) → ((image : List ℕ) → file image → stands j y image) → IsTrue a.told → (image : List ℕ) → la a.moment image a.sent → rows (durable_of c) image
  rows_rest j y file a la running kept means told image left = rows_stand fingerprint c j y running stands image (means image (kept told image left))

  -- nothing was written
  none_written : (acts : List Act) (a : State) (la : ℕ → List ℕ → List ℕ → Type 0) → (IsTrue a.told → (image : List ℕ) → la a.moment image a.sent → rows (durable_of c) image) → WritesWithin tables_after rows (durable_of c) bound acts a a la
  none_written acts a la rest = λ told image left. none_begun tables_after tables_go rows (durable_of c) bound acts a a image (omega arith) refl (rest told image left)

  -- an error came before anything was done
  module _ (on : JoinsParts fine) (acts : List Act) (s : MonitorState) (j : Identity) (y : Content) (file : List ℕ → Type 0) (a : State) (la : ℕ → List ℕ → List ℕ → Type 0) (rest : IsTrue a.told → (image : List ℕ) → la a.moment image a.sent → rows (durable_of c) image) where
    took_nothing : (e : LiveError) → (e ≡ live.Failed → ⊥) → (e ≡ live.NotKdcfile → ⊥) → ((stored : List ℕ) → e ≡ live.OtherGeneration stored → ⊥) → (e ≡ live.Input → ⊥) → TookActs stands most fine fingerprint c acts s j y file a a la la (Err e)
    took_nothing e failed refused other input = record {
      within = none_within tables_after tables_go rows (durable_of c) acts a la;
      written = none_written acts a la rest;
      done = tt;
      went = λ none. on.none a;
      failed = λ is. absurd (failed cc);
      halted = λ is. absurd (failed cc);
      refused = λ is told. refused cc;
      other = λ stored is told. other stored cc;
      no_input = λ is. input cc;
    }

    pub took_memory : TookActs stands most fine fingerprint c acts s j y file a a la la (Err live.Memory)
    took_memory = took_nothing live.Memory (λ is. cc) (λ is. cc) (λ stored is. cc) (λ is. cc)

    pub took_spent : TookActs stands most fine fingerprint c acts s j y file a a la la (Err live.Spent)
    took_spent = took_nothing live.Spent (λ is. cc) (λ is. cc) (λ stored is. cc) (λ is. cc)

  -- a line that asks for nothing to be done
  pub took_no_acts : JoinsParts fine → (j : Identity) (y : Content) (file : List ℕ → Type 0) (a : State) (la : ℕ → List ℕ → List ℕ → Type 0) → IsRunningWith fingerprint c j y → (IsTrue a.told → IsKeptBy file a la) → ((image : List ℕ) → file image → stands j y image) → TookActs stands most fine fingerprint c [] c.state j y file a a la la (Ok c)
  took_no_acts on j y file a la running kept means = record {
    within = none_within tables_after tables_go rows (durable_of c) [] a la;
    written = none_written [] a la (rows_rest j y file a la running kept means);
    done = record {
      application = refl;
      running = running;
      state = λ told. refl;
      tables = λ told. sym (tables_go.none (durable_of c));
      acts = (running_start fine on tables_after tables_go rows file (durable_of c) [] a la kept).sent;
    };
    went = λ none. on.none a;
    failed = λ is. absurd cc;
    halted = λ is. absurd cc;
    refused = λ is told. absurd cc;
    other = λ stored is told. absurd cc;
    no_input = λ is. cc;
  }

  -- ---- a text

  module _ (j : Identity) (y : Content) (file : List ℕ → Type 0) (a : State) (la : ℕ → List ℕ → List ℕ → Type 0) (running : IsRunningWith fingerprint c j y) (kept : IsTrue a.told → IsKeptBy file a la) (means : (image : List ℕ) → file image → stands j y image) (text : List ℕ)
      (j' : Identity) (y' : Content) (file' : List ℕ → Type 0) (b : State) (lb : ℕ → List ℕ → List ℕ → Type 0) (frame : Frame a b) (names : SameNames a b) (part : IsTrue a.told → SaidPart text a b) (left : IsTrue a.told → LeavesFront text a b la lb)
      (identity : j' ≡ j) (content : y' ≡ y) (still : IsTrue a.told → IsKeptBy file a la → IsKeptBy file' b lb) (means' : (image : List ℕ) → file' image → stands j' y' image) where
    text_within : WithinActs tables_after rows (durable_of c) (Emit text ∷ []) a b la lb
    text_within = line_within tables_after tables_go rows (durable_of c) a b la lb (Emit text) text refl frame names (λ told image now. rows_stand fingerprint c j y running stands image (means image (kept told image now))) part left

    still_running : IsRunningWith fingerprint c j' y'
    still_running = subst (λ (i : Identity). IsRunningWith fingerprint c i y') (sym identity) (subst (λ (x : Content). IsRunningWith fingerprint c j x) (sym content) running)

    text_written : WritesWithin tables_after rows (durable_of c) bound (Emit text ∷ []) a b lb
    text_written = λ told image now.
        let said = part told in
        let put = said.disk.put in
        cut_begun tables_after tables_go rows (durable_of c) bound (Emit text ∷ []) a b image (omega (arith, put))
        (cut_within_line tables_after tables_go rows (durable_of c) text [] a.sent image b.sent said.sent.0 (rows_stand fingerprint c j' y' still_running stands image (means' image (still told (kept told) image now))) said.sent.1)

    pub took_text : (IsTrue a.told → Said text a b) → fine a b → TookActs stands most fine fingerprint c (Emit text ∷ []) c.state j' y' file' a b la lb (Ok c)
    took_text said went = record {
      within = text_within;
      written = text_written;
      done = record {
        application = refl;
        running = still_running;
        state = λ told. refl;
        tables = λ told. sym (text_makes_nothing (durable_of c) text);
        acts = line_sent fine file' a b lb (Emit text) text refl (λ told. still told (kept told)) said went;
      };
      went = λ none. went;
      failed = λ is. absurd cc;
      halted = λ is. absurd cc;
      refused = λ is told. absurd cc;
      other = λ stored is told. absurd cc;
      no_input = λ is. cc;
    }

    pub text_failed : {T : Type 0} (e : DeviceError) → ((IsErrOf {T = T} (Err e) device.Failed → ⊥) → fine a b) → (IsErrOf {T = T} (Err e) device.Failed → Rose a.line_faults b.line_faults) → TookActs stands most fine fingerprint c (Emit text ∷ []) c.state j' y' file' a b la lb (Err (of_device e))
    text_failed e went rose = record {
      within = text_within;
      written = text_written;
      done = tt;
      went = device_went (fine a b) e went;
      failed = device_failed (Rose a.disk_faults b.disk_faults ⊎ Rose a.line_faults b.line_faults) e (λ is. inr (rose is));
      halted = device_failed (LineOrDisk (Emit text ∷ []) a b) e (λ is told. inl (rose is));
      refused = λ is told. device_refuses_nothing e is;
      other = λ stored is told. device_knows_no_other e stored is;
      no_input = device_is_no_input e;
    }

  -- ---- commands

  module _ (steps : List ScriptStep) (j : Identity) (y : Content) (file : List ℕ → Type 0) (a b : State) (la lb : ℕ → List ℕ → List ℕ → Type 0) (within : WithinStepsWith stands fingerprint c steps a b la lb) (written : StepsWriteWith stands most fingerprint c steps a b lb) where
    pub took_commands : (d : CoreValue) → DidSteps fine fingerprint c steps d j y file a b lb → TookActs stands most fine fingerprint c (acts_of steps) (state_after c.state steps) j y file a b la lb (Ok d)
    took_commands d did = record {
      within = within;
      written = written;
      done = record { application = did.application; running = did.running; state = did.state; tables = did.tables; acts = did.acts };
      went = λ none. did.acts.calls;
      failed = λ is. absurd cc;
      halted = λ is. absurd cc;
      refused = λ is told. absurd cc;
      other = λ stored is told. absurd cc;
      no_input = λ is. cc;
    }

    pub commands_failed : {T : Type 0} (e : OpenError) → ((IsErrOf {T = T} (Err e) opening.Failed → ⊥) → fine a b) → (IsErrOf {T = T} (Err e) opening.Failed → Rose a.disk_faults b.disk_faults ⊎ Rose a.line_faults b.line_faults) → (IsErrOf {T = T} (Err e) opening.Failed → LineOrDisk (acts_of steps) a b)
        → (IsErrOf {T = T} (Err e) opening.NotKdcfile → IsTrue a.told → ⊥) → ((stored : List ℕ) → IsErrOf {T = T} (Err e) (opening.OtherGeneration stored) → IsTrue a.told → ⊥) → TookActs stands most fine fingerprint c (acts_of steps) (state_after c.state steps) j y file a b la lb (Err (of_open e))
    commands_failed e went failed halted refused other = record {
      within = within;
      written = written;
      done = tt;
      went = open_went (fine a b) e went;
      failed = open_failed (Rose a.disk_faults b.disk_faults ⊎ Rose a.line_faults b.line_faults) e failed;
      halted = open_failed (LineOrDisk (acts_of steps) a b) e halted;
      refused = open_refused (IsTrue a.told → ⊥) e refused;
      other = λ stored. open_other (IsTrue a.told → ⊥) stored e (other stored);
      no_input = open_is_no_input e;
    }

-- ---- a RESTART that was not done

-- nothing was done
pub restart_idle : (commands : List Command) (a : State) (r : Result CoreValue LiveError) → RestartsFirst commands a a r
restart_idle commands a (Ok d) = tt
restart_idle commands a (Err e) = λ told is. inl refl

-- other commands are no RESTART
pub no_restart : (commands : List Command) (a b : State) (r : Result CoreValue LiveError) → (commands ≡ Restart ∷ [] → ⊥) → RestartsFirst commands a b r
no_restart commands a b (Ok d) none = tt
no_restart commands a b (Err e) none = λ told is. absurd (none is)

no_end : (front : List Command) (x : Command) (rest : List Command) → [] ≡ front ++ x ∷ rest → ⊥
no_end [] x rest is = cc
no_end (y ∷ front) x rest is = cc

-- of one command that stopped nothing was done before it
none_before : (n : ℕ) (command : Command) (rest : List Command) → Restart ∷ [] ≡ take n (Restart ∷ []) ++ command ∷ rest → (take n (Restart ∷ []) ≡ []) × (command ≡ Restart)
none_before zero command rest is = (refl, cc)
none_before (suc n) command rest is = let behind : [] ≡ take n [] ++ command ∷ rest = cc in absurd (no_end (take n []) command rest behind)

no_acts : (c : CoreValue) → bytes_of (acts_of (history c.application c.state [])) ≡ []
unfolding history bytes_of
no_acts c = refl

module _ (stands : Identity → Content → List ℕ → Type 0) (fingerprint : List ℕ) (c : CoreValue) (commands : List Command) (n : ℕ) (a b : State) (lb : ℕ → List ℕ → List ℕ → Type 0) (stops : StopsWith stands fingerprint c commands n a b lb) (left : IsTrue a.told → (image : List ℕ) × lb b.moment image b.sent) where
  says_first : (out : List ℕ) → out ≡ a.sent → (b.sent ≡ out) ⊎ Rose a.line_faults b.line_faults → SaysNothing a b
  says_first out same (inl said) = inl (said ∙ same)
  says_first out same (inr rose) = inr rose

  stopped_first : IsTrue a.told → commands ≡ Restart ∷ [] → SaysNothing a b
  stopped_first told is =
      let image = left told in
      let here = stops told image.0 image.1 in
      let first = none_before n here.command here.rest (sym is ∙ here.split ∙ ap (λ (l : List Command). take n l ++ here.command ∷ here.rest) is) in
      let none : acts_before c commands n ≡ acts_of (history c.application c.state []) = ap (λ (l : List Command). acts_of (history c.application c.state l)) (ap (λ (l : List Command). take n l) is ∙ first.0) in
      says_first (a.sent ++ bytes_of (acts_before c commands n)) (ap (λ (l : List Act). a.sent ++ bytes_of l) none ∙ ap (λ (l : List ℕ). a.sent ++ l) (no_acts c) ∙ append-nil a.sent) (here.restart first.1)

  -- one that stopped
  pub restart_stopped : (r : Result CoreValue LiveError) → RestartsFirst commands a b r
  restart_stopped (Ok d) = tt
  restart_stopped (Err e) = stopped_first
