-- A content that is kept in one file of a device, as any that is kept.
use Rattle.std.proofs.Common.{ℕ, List, sym, subst, refl}
use Rattle.kd_device.specs.Device.{State, SameFaults}
use Rattle.kd_device.specs.TimeLaws.{faults_then}
use Rattle.kdcfile_store.specs.Kept.{IsKept}
use Rattle.device_acts.specs.Acting.{JoinsParts, IsKeptBy, OwnFile}

pub faults_go : JoinsParts SameFaults
faults_go = record { none = λ a. record { disk = refl; line = refl }; after = faults_then }

module _ (file : List ℕ → Type 0) (s : State) (leaves : ℕ → List ℕ → List ℕ → Type 0) where
  -- a stop leaves just the bytes of its file
  pub kept_single : IsKept file s leaves → IsKeptBy (OwnFile file s) s leaves
  kept_single kept c left = let same = kept.at_rest c left in (subst file (sym same) kept.bytes, same)
