-- What a store keeps, and what a stop within a commit leaves.
use Rattle.std.specs.Prelude.{◌≡◌, ◌⊎◌, ℕ, List}
use Rattle.kd_device.specs.Device.{State, LeavesOnly, Only}
use Rattle.kd_records.specs.Contents.{patched}
use Rattle.kd_records.specs.declared.content.Content.{Content}
use Rattle.kd_records.specs.declared.content.Patch.{Patch}
use Rattle.kd_records.specs.Identity.{Identity}
use Rattle.kdcfile_layout.specs.Bound.{write_bound}

-- the file is this store's, and a stop leaves just these bytes
pub record IsKept (file : List ℕ → Type 0) (s : State) (leaves : ℕ → List ℕ → List ℕ → Type 0) : Type 0 where
  pub bytes : file s.holds
  pub at_rest : Only s.holds s leaves

-- nothing more was sent, and the image stands for the old content or the new one
abbrev pub OldOrNew : (Content → List ℕ → Type 0) → Content → Content → List ℕ → List ℕ → List ℕ → Type 0
OldOrNew stands x y sent c out = (out ≡ sent) × (stands x c ⊎ stands y c)

-- a stop within a commit leaves no more than the content with the patch or without it
abbrev pub LeavesPatched : (Content → List ℕ → Type 0) → Content → Patch → (a b : State) → (la lb : ℕ → List ℕ → List ℕ → Type 0) → Type 0
LeavesPatched stands x patch a b la lb = LeavesOnly a b la lb (OldOrNew stands x (patched x patch) a.sent)

-- how many bytes a commit of a patch writes at most
abbrev pub write_most : Identity → Content → Patch → ℕ
write_most i x patch = write_bound i patch
