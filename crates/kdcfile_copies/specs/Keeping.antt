-- What a store of a copy keeps, and what a stop within its making or a commit leaves.
use Rattle.std.specs.Prelude.{◌≡◌, ◌⊎◌, ◌<◌, ◌+◌, ◌^◌, ℕ, List, IsTrue}
use Rattle.std.specs.FinMap.{is_sorted}
use Rattle.kd_device.specs.Device.{State, LeavesOnly}
use Rattle.kd_records.specs.declared.content.Content.{Content}
use Rattle.kd_records.specs.Charge.{IsBlockSize}
use Rattle.kd_records.specs.Identity.{Identity}
use Rattle.kd_records.specs.Keys.{key_cmp}
use Rattle.kdcfile_layout.specs.Layout.{fresh}
use Rattle.kdcfile_store.specs.Paged.{Paged}
use Rattle.kdcfile_copies.specs.Copies.{IsBare, IsCopyOf, IsNoCopy, with_sequence}

-- the store keeps the copy of this sequence with this content
pub record CopyKeeps (store : Paged) (n : ℕ) (x : Content) : Type 0 where
  pub content : store.content ≡ with_sequence n x
  pub bare : IsBare x
  pub small : n < 2 ^ 64
  pub ascending : IsTrue (is_sorted key_cmp x.items)
  pub blksize : IsBlockSize store.identity.blksize

-- at a stop within the making nothing more is sent, and the file is no copy yet, or the first one
abbrev pub BeingMade : Identity → List ℕ → List ℕ → List ℕ → Type 0
BeingMade i sent c out = (out ≡ sent) × (IsNoCopy c ⊎ IsCopyOf i 0 fresh c)

abbrev pub LeavesCopyMade : Identity → (a b : State) → (la lb : ℕ → List ℕ → List ℕ → Type 0) → Type 0
LeavesCopyMade i a b la lb = LeavesOnly a b la lb (BeingMade i a.sent)

-- a stop now leaves no copy
abbrev pub LeavesNoCopy : State → (ℕ → List ℕ → List ℕ → Type 0) → Type 0
LeavesNoCopy s leaves = (c : List ℕ) → leaves s.moment c s.sent → IsNoCopy c

-- at a stop within a commit nothing more is sent, and the file is the old copy or the next one
abbrev pub OldOrNextCopy : Identity → ℕ → (x y : Content) → List ℕ → List ℕ → List ℕ → Type 0
OldOrNextCopy i n x y sent c out = (out ≡ sent) × (IsCopyOf i n x c ⊎ IsCopyOf i (n + 1) y c)

abbrev pub LeavesNextCopy : Identity → ℕ → (x y : Content) → (a b : State) → (la lb : ℕ → List ℕ → List ℕ → Type 0) → Type 0
LeavesNextCopy i n x y a b la lb = LeavesOnly a b la lb (OldOrNextCopy i n x y a.sent)
