-- A step whose acts are performed, or are not.
use Rattle.std.proofs.Common.{◌≡◌, ◌⊎◌, ◌≤◌, ◌<◌, ◌+◌, ◌^◌, ℕ, List, [], ◌∷◌, refl, sym, ap, subst, ◌∙◌, arith}
use Rattle.std.specs.Prelude.{IsTrue, Err, IsErrOf}
use Rattle.kd_device.specs.Device.{State, Rose}
use Rattle.kd_device.specs.TimeLaws.{told_after}
use Rattle.kd_device.specs.declared.error.DeviceError.{DeviceError}
use Rattle.kd_device.specs.declared.error.DeviceError.TheVariants as device
use Rattle.kd_records.specs.Identity.{Identity}
use Rattle.kd_records.specs.declared.content.Content.{Content}
use Rattle.kd_records.specs.declared.content.Patch.{Patch}
use Rattle.kdcs_types.specs.declared.act.Act.{Act}
use Rattle.abstract_monitor.specs.Commands.{ScriptStep, acts_of}
use Rattle.abstract_monitor.specs.Trace.{tables_after}
use Rattle.laws_of_states.specs.Cut.{commits_in}
use Rattle.laws_of_states.specs.Keeping.{HasFacts}
use Rattle.laws_of_states.specs.Steps.{CommitsOnce, StepsMakeTheirTables}
use Rattle.monitor_core.specs.CoreSteps.{durable_of}
use Rattle.monitor_core.specs.CoreValue.{CoreValue}
use Rattle.device_acts.specs.Acting.{JoinsParts, LineOrDisk, DidActs, WithinActs, WritesWithin, acts_most, content_after}
use Rattle.device_acts.specs.ActingLaws.{none_within}
use Rattle.device_acts.specs.Causes.{of_device}
use Rattle.device_acts.specs.WritingLaws.{none_begun, quiet_begun, writes_most}
use Rattle.device_acts.specs.declared.warm_start.error.OpenError.TheVariants as opening
use Rattle.device_run.specs.Running.{commits_most_with, identity_of}
use Rattle.device_run.specs.Keeping.{StandsForRows, StepsWriteWith, WithinStepsWith}
use Rattle.device_run.specs.Storing.{FailedSteps, IsReadyWith, TookSteps}
use Rattle.device_run.specs.TablesLaws.{commits_add, most_of, tables_go}
use Rattle.device_run.specs.SteppingLaws.{CanStep, acts_of_one, did_step, rows_stand, step_within, step_writes}

-- where a keeper is ready, what a stop leaves stands for the durable tables
pub ready_stands : (stands : Identity → Content → List ℕ → Type 0) (fingerprint : List ℕ) (c : CoreValue) (j : Identity) (x : Content) (file : List ℕ → Type 0) (a : State) (la : ℕ → List ℕ → List ℕ → Type 0) → ((image : List ℕ) → file image → stands j x image) → IsReadyWith fingerprint c j x file a la
    → IsTrue a.told → (image : List ℕ) → la a.moment image a.sent → StandsForRows stands (identity_of fingerprint c) (durable_of c) image
ready_stands stands fingerprint c j x file a la means ready told image left = rows_stand fingerprint c j x ready.running stands image (means image (ready.kept told image left))

module _ (stands : Identity → Content → List ℕ → Type 0) (most : Identity → Patch → ℕ) (fingerprint : List ℕ) (c : CoreValue) (steps : List ScriptStep) (a : State) (la : ℕ → List ℕ → List ℕ → Type 0) (rests : IsTrue a.told → (image : List ℕ) → la a.moment image a.sent → StandsForRows stands (identity_of fingerprint c) (durable_of c) image) where
  -- memory ran out before anything was done
  pub nothing_done : (fine : State → State → Type 0) → JoinsParts fine → (place : List ℕ) → FailedSteps stands most fine fingerprint place place c steps opening.Memory a a la la
  nothing_done fine on place = record {
    within = none_within tables_after tables_go (StandsForRows stands (identity_of fingerprint c)) (durable_of c) (acts_of steps) a la;
    put = λ told image left. none_begun tables_after tables_go (StandsForRows stands (identity_of fingerprint c)) (durable_of c) (commits_most_with most (identity_of fingerprint c)) (acts_of steps) a a image (omega arith) refl (rests told image left);
    went = λ none. on.none a;
    failed = λ is. absurd cc;
    halted = λ is. absurd cc;
    refused = λ is told. absurd cc;
    other = λ stored is told. absurd cc;
    same_place = refl;
  }

  -- whatever became of steps that wrote nothing
  pub nothing_written : (b : State) (lb : ℕ → List ℕ → List ℕ → Type 0) → ((image out : List ℕ) → IsTrue a.told → la a.moment image out → out ≡ a.sent) → ((t u : ℕ) (image out : List ℕ) → IsTrue b.told → t ≤ u → lb u image out → lb t image out) → WithinStepsWith stands fingerprint c steps a b la lb → (IsTrue a.told → b.put ≡ a.put)
      → StepsWriteWith stands most fingerprint c steps a b lb
  nothing_written b lb sent_now earlier within same = λ told image left.
      let put = same told in
      quiet_begun tables_after tables_go (StandsForRows stands (identity_of fingerprint c)) (durable_of c) (commits_most_with most (identity_of fingerprint c)) (acts_of steps) a b image la lb (omega (arith, put)) (λ d out past. sent_now d out told past) (rests told) (within.any_moment told)
      (earlier a.moment b.moment image b.sent (told_after a b within.frame told) within.frame.moment left)

-- which error of a device is one of the opening
failed_only : (e : DeviceError) → of_device e ≡ opening.Failed → e ≡ device.Failed
failed_only device.Failed is = refl
failed_only device.Memory is = absurd cc

pub device_refuses_nothing : (e : DeviceError) → of_device e ≡ opening.NotKdcfile → ⊥
device_refuses_nothing device.Failed is = cc
device_refuses_nothing device.Memory is = cc

pub device_knows_no_other : (e : DeviceError) (stored : List ℕ) → of_device e ≡ opening.OtherGeneration stored → ⊥
device_knows_no_other device.Failed stored is = cc
device_knows_no_other device.Memory stored is = cc

-- what a call says of this error, where it answered it
pub device_failed : {T : Type 0} (P : Type 0) (e : DeviceError) → (IsErrOf {T = T} (Err e) device.Failed → P) → of_device e ≡ opening.Failed → P
device_failed P e answered is = answered (ap (λ z. Err z) (failed_only e is))

pub device_went : {T : Type 0} (P : Type 0) (e : DeviceError) → ((IsErrOf {T = T} (Err e) device.Failed → ⊥) → P) → (of_device e ≡ opening.Failed → ⊥) → P
device_went P device.Failed answered none = absurd (none refl)
device_went P device.Memory answered none = answered (λ is. cc)

module _ (fingerprint : List ℕ) (c : CoreValue) (j : Identity) (x : Content) (step : ScriptStep) (acts : List Act) (can : CanStep fingerprint c j x step acts) (stands : Identity → Content → List ℕ → Type 0) (written : Identity → Content → Patch → ℕ) (most : Identity → Patch → ℕ) (bounded : (i : Identity) (y : Content) (patch : Patch) → written i y patch ≤ most i patch) (fine : State → State → Type 0) (place place' : List ℕ) (same_place : place' ≡ place) (a b : State) (la lb : ℕ → List ℕ → List ℕ → Type 0) (within : WithinActs content_after (stands j) x acts a b la lb) (put : WritesWithin content_after (stands j) x (acts_most written j x) acts a b lb) where
  here : WithinStepsWith stands fingerprint c (step ∷ []) a b la lb
  here = step_within fingerprint c j x step acts can stands a b la lb within

  writes : StepsWriteWith stands most fingerprint c (step ∷ []) a b lb
  writes = step_writes fingerprint c j x step acts can stands written most bounded a b lb put

  pub step_failed : (T : Type 0) (e : DeviceError) → ((IsErrOf {T = T} (Err e) device.Failed → ⊥) → fine a b) → (IsErrOf {T = T} (Err e) device.Failed → Rose a.disk_faults b.disk_faults ⊎ Rose a.line_faults b.line_faults) → (IsErrOf {T = T} (Err e) device.Failed → LineOrDisk acts a b) → FailedSteps stands most fine fingerprint place place' c (step ∷ []) (of_device e) a b la lb
  step_failed T e went failed halted = record {
    within = here;
    put = writes;
    went = device_went (fine a b) e went;
    failed = device_failed (Rose a.disk_faults b.disk_faults ⊎ Rose a.line_faults b.line_faults) e failed;
    halted = λ is. subst (λ (l : List Act). LineOrDisk l a b) (can.same ∙ sym (acts_of_one step)) (device_failed (LineOrDisk acts a b) e halted is);
    refused = λ is told. device_refuses_nothing e is;
    other = λ stored is told. device_knows_no_other e stored is;
    same_place = same_place;
  }

  pub step_took : (IsTrue b.told → (image : List ℕ) × lb b.moment image b.sent) → StepsMakeTheirTables → CommitsOnce c.application c.state step → (d : CoreValue) (k : Identity) (y : Content) (file : List ℕ → Type 0) → d.application ≡ c.application → HasFacts d.application d.state → d.state ≡ step.after → k ≡ j → y ≡ content_after x acts → DidActs fine file acts a b lb
      → (m n : ℕ) → (m + commits_in acts < 2 ^ 64 → n ≡ m + commits_in acts) → TookSteps stands most fine fingerprint fingerprint place place' c (step ∷ []) d k y file a b la lb m n
  step_took left make once d k y file app facts after identity content done m n counted = record {
    within = here;
    did = did_step fingerprint c j x step acts can fine make once d k y file a b lb app facts after identity content done;
    put = λ told.
        let now = left (told_after a b within.frame told) in
        writes_most tables_after (most_of most (identity_of fingerprint c)) (commits_add most (identity_of fingerprint c)) (durable_of c) (acts_of (step ∷ [])) a b (writes told now.0 now.1).writes;
    counted = λ told. subst (λ (l : List Act). m + commits_in l < 2 ^ 64 → n ≡ m + commits_in l) (can.same ∙ sym (acts_of_one step)) counted;
    same_fingerprint = refl;
    same_place = same_place;
  }
