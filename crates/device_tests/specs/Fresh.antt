-- A fresh file, and what a stop within its making leaves.
use Rattle.kdcfile_layout.specs.Layout.{zeros}
use Rattle.std.specs.Prelude.{◌≡◌, ◌⊎◌, ℕ, ◌+◌, ◌*◌, List, ◌∷◌, ◌++◌}
use Rattle.kd_device.specs.Device.{State, LeavesOnly}
use Rattle.kd_records.specs.Identity.{Identity}
use Rattle.device_tests.specs.File.{StandsFor, IsNoImage, mark, root}
use Rattle.kdcfile_layout.specs.Layout.{fresh}
use Rattle.device_tests.specs.declared.whole_store.image.Root.{Root}

-- a list, and zero bytes up to the end of an image
abbrev pub in_image : Identity → List ℕ → List ℕ
in_image i part = part ++ zeros (8128 + i.pages * i.blksize)

-- after the gate: the mark, and two images with no records
abbrev pub fresh_rest : Identity → List ℕ
fresh_rest i = mark i ++ zeros 8175 ++ in_image i (root i fresh) ++ in_image i (root i fresh)

-- after the sizes: a gap, and two images with this root
abbrev pub two_images : (root : List ℕ) → (gap left : ℕ) → List ℕ
two_images root gap left = zeros gap ++ (root ++ zeros left) ++ (root ++ zeros left)

-- a fresh file: the open gate, and what is after it
abbrev pub fresh_file : Identity → List ℕ
fresh_file i = 75 ∷ fresh_rest i

-- the root of both images
abbrev pub fresh_root : Identity → Root
fresh_root i = record { fingerprint = i.fingerprint; clock = 0; next_job = 1; pgpool = i.pages; records = 0 }

-- nothing more was sent, and the file is no image or stands for the fresh content
abbrev pub Made : Identity → List ℕ → List ℕ → List ℕ → Type 0
Made i sent c out = (out ≡ sent) × (IsNoImage c ⊎ StandsFor i fresh c)

-- a stop within a making leaves no more
abbrev pub LeavesMade : Identity → (a b : State) → (la lb : ℕ → List ℕ → List ℕ → Type 0) → Type 0
LeavesMade i a b la lb = LeavesOnly a b la lb (Made i a.sent)
