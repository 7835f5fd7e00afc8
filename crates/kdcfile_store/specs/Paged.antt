-- A store that keeps its content in pages.
use Rattle.std.specs.Prelude.{◌≡◌, ◌⊎◌, Bool, List, ℕ}
use Rattle.kd_device.specs.Device.{State, LeavesOnly}
use Rattle.kd_records.specs.Identity.{Identity}
use Rattle.kd_records.specs.declared.content.Content.{Content}
use Rattle.kdcfile_layout.specs.Layout.{Layout, Stands, StandsFor, IsNoImage, fresh}
use Rattle.kdcfile_layout.specs.Stored.{IsStored}
use Rattle.kdcfile_layout.specs.Fresh.{fresh_length}
use Rattle.kdcfile_store.specs.declared.store.StoreLimits.{StoreLimits}

pub record Paged : Type 0 where
  pub identity : Identity
  pub second : Bool  -- whether image B is selected
  pub content : Content
  pub layout : Layout
  pub used : List Bool  -- for each page, whether it is used

-- what is known of it on any device
abbrev pub IsPaged : Paged → Type 0
IsPaged s = IsStored s.identity s.content s.layout s.used

-- the bytes of its file
abbrev pub HasFile : Paged → List ℕ → Type 0
HasFile s bytes = Stands s.identity s.second s.content s.layout bytes

-- what a file with these limits and this fingerprint is made with
abbrev pub identity_with : StoreLimits → List ℕ → Identity
identity_with l fingerprint = record { blksize = l.blksize; pages = l.pgpool; fingerprint = fingerprint }

-- how many bytes a fresh file has
abbrev pub made_length : Identity → ℕ
made_length i = fresh_length i

-- within a making nothing more is sent, and the file is no image yet, or has the first content
abbrev pub Made : Identity → List ℕ → List ℕ → List ℕ → Type 0
Made i sent c out = (out ≡ sent) × (IsNoImage c ⊎ StandsFor i fresh c)

abbrev pub LeavesMade : Identity → (a b : State) → (la lb : ℕ → List ℕ → List ℕ → Type 0) → Type 0
LeavesMade i a b la lb = LeavesOnly a b la lb (Made i a.sent)
