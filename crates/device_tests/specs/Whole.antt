-- A store that keeps its content in whole images.
use Rattle.std.specs.Prelude.{ℕ, ◌+◌, ◌*◌, Bool, List, length, sum_by}
use Rattle.kd_device.specs.Device.{State, LeavesOnly}
use Rattle.kd_records.specs.Identity.{Identity}
use Rattle.kd_records.specs.declared.content.Content.{Content}
use Rattle.kd_records.specs.declared.content.Patch.{Patch}
use Rattle.kd_records.specs.Contents.{patched}
use Rattle.kd_records.specs.Charged.{record_length}
use Rattle.device_tests.specs.File.{Stands, StandsFor, image_size}
use Rattle.device_tests.specs.Opened.{Opened, identity_of}
use Rattle.device_tests.specs.declared.whole_store.image.Root.{Root}
use Rattle.kdcfile_store.specs.Kept.{OldOrNew}

pub record Whole : Type 0 where
  pub identity : Identity
  pub second : Bool  -- whether image B is selected
  pub content : Content

-- the bytes of its file
abbrev pub HasFile : Whole → List ℕ → Type 0
HasFile s bytes = Stands s.identity s.second s.content bytes

-- how many bytes a fresh file has
abbrev pub made_length : Identity → ℕ
made_length i = 8192 + 2 * image_size i

-- where the file stands for a content, a stop leaves that one or this
abbrev pub LeavesOldOr : Opened → (new : Content) → (a b : State) → (la lb : ℕ → List ℕ → List ℕ → Type 0) → Type 0
LeavesOldOr i new a b la lb =
    (x : Content) → Stands (identity_of i) i.second x a.holds → LeavesOnly a b la lb (OldOrNew (StandsFor (identity_of i)) x new a.sent)

-- the root of the same file for this content
abbrev pub root_with : Opened → Content → Root
root_with o y = record { fingerprint = o.root.fingerprint; clock = y.clock; next_job = y.next_job; pgpool = o.root.pgpool; records = length y.items }

-- how many bytes a commit writes at most: all records of the new content, the root and the selector
abbrev pub whole_most : Identity → Content → Patch → ℕ
whole_most i x patch = sum_by record_length (patched x patch).items + 65
