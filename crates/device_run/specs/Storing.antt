-- What a run comes to that stores and sends the acts of some steps.
use Rattle.std.specs.Prelude.{◌≡◌, ◌⊎◌, ◌≤◌, ◌<◌, ◌+◌, ◌^◌, ℕ, IsTrue, List}
use Rattle.kd_device.specs.Device.{State, Rose}
use Rattle.kd_records.specs.Identity.{Identity}
use Rattle.kd_records.specs.declared.content.Content.{Content}
use Rattle.kd_records.specs.declared.content.Patch.{Patch}
use Rattle.abstract_monitor.specs.Commands.{ScriptStep, acts_of}
use Rattle.laws_of_states.specs.Cut.{commits_in}
use Rattle.monitor_core.specs.CoreValue.{CoreValue}
use Rattle.device_acts.specs.Acting.{IsKeptBy, LineOrDisk}
use Rattle.device_acts.specs.declared.warm_start.error.OpenError.{OpenError}
use Rattle.device_acts.specs.declared.warm_start.error.OpenError.TheVariants.{Failed, NotKdcfile, OtherGeneration}
use Rattle.device_run.specs.Keeping.{DidSteps, IsRunningWith, StepsWriteWith, WithinStepsWith}
use Rattle.device_run.specs.Running.{commits_most_with, identity_of}

-- files that were made with j keep the durable tables of the core, and a stop leaves no image but theirs
pub record IsReadyWith (fingerprint : List ℕ) (c : CoreValue) (j : Identity) (x : Content) (file : List ℕ → Type 0) (a : State) (la : ℕ → List ℕ → List ℕ → Type 0) : Type 0 where
  pub running : IsRunningWith fingerprint c j x
  pub kept : IsTrue a.told → IsKeptBy file a la

-- all steps are done, and their commits are counted where they are not too many
pub record TookSteps (stands : Identity → Content → List ℕ → Type 0) (most : Identity → Patch → ℕ) (fine : State → State → Type 0) (fingerprint fingerprint' place place' : List ℕ) (c : CoreValue) (steps : List ScriptStep) (d : CoreValue) (j : Identity) (x : Content) (file : List ℕ → Type 0) (a b : State) (la lb : ℕ → List ℕ → List ℕ → Type 0) (m n : ℕ) : Type 0 where
  pub within : WithinStepsWith stands fingerprint c steps a b la lb
  pub did : DidSteps fine fingerprint c steps d j x file a b lb
  pub put : IsTrue a.told → b.put ≤ a.put + commits_most_with most (identity_of fingerprint c) (acts_of steps)
  pub counted : IsTrue a.told → m + commits_in (acts_of steps) < 2 ^ 64 → n ≡ m + commits_in (acts_of steps)
  pub same_fingerprint : fingerprint' ≡ fingerprint
  pub same_place : place' ≡ place

-- no more than the steps are done, for this error
pub record FailedSteps (stands : Identity → Content → List ℕ → Type 0) (most : Identity → Patch → ℕ) (fine : State → State → Type 0) (fingerprint place place' : List ℕ) (c : CoreValue) (steps : List ScriptStep) (e : OpenError) (a b : State) (la lb : ℕ → List ℕ → List ℕ → Type 0) : Type 0 where
  pub within : WithinStepsWith stands fingerprint c steps a b la lb
  pub put : StepsWriteWith stands most fingerprint c steps a b lb
  pub went : (e ≡ Failed → ⊥) → fine a b
  pub failed : e ≡ Failed → Rose a.disk_faults b.disk_faults ⊎ Rose a.line_faults b.line_faults
  pub halted : e ≡ Failed → LineOrDisk (acts_of steps) a b
  pub refused : e ≡ NotKdcfile → IsTrue a.told → ⊥
  pub other : (stored : List ℕ) → e ≡ OtherGeneration stored → IsTrue a.told → ⊥
  pub same_place : place' ≡ place
