-- What a commit makes of a file, and what a stop within it leaves.
use Rattle.std.specs.Prelude.{◌≡◌, ◌⊎◌, ℕ, not, List, [], ◌∷◌, ◌++◌, codes}
use Rattle.std.specs.Int.{w32, w64, to_be_bytes}
use Rattle.kd_device.specs.Device.{State, LeavesOnly, written}
use Rattle.kd_records.specs.declared.content.Content.{Content}
use Rattle.kd_records.specs.Identity.{Identity}
use Rattle.device_tests.specs.File.{Stands, StandsFor, place}
use Rattle.kdcfile_layout.specs.Layout.{selector}
use Rattle.device_tests.specs.Opened.{Opened, identity_of, renewed}
use Rattle.kdcfile_layout.specs.declared.page.PageWrite.{PageWrite}
use Rattle.device_tests.specs.declared.whole_store.image.Root.{Root}

-- a root as 64 bytes
abbrev pub spelled_root : Root → List ℕ
spelled_root r =
    r.fingerprint ++ to_be_bytes w64 r.clock ++ to_be_bytes w64 r.next_job ++ to_be_bytes w32 r.pgpool ++ to_be_bytes w32 0 ++ to_be_bytes w32 r.records ++ codes "ROOT"

-- where the unselected image stands
abbrev pub other_place : Opened → ℕ
other_place i = place (identity_of i) (not i.second)

-- the unselected image with this root and these records
abbrev pub image_write : Opened → List ℕ → Root → PageWrite
image_write i body root = record { at = other_place i; bytes = spelled_root root ++ body }

-- the file with that image
abbrev pub staged : Opened → List ℕ → Root → List ℕ → List ℕ
staged i body root h = written h (other_place i) (spelled_root root ++ body)

-- and with the selector on that image
abbrev pub committed : Opened → List ℕ → Root → List ℕ → List ℕ
committed i body root h = written (staged i body root h) 4096 (selector (not i.second) ∷ [])

-- nothing more was sent, and the file stands for the one content or for the other, each with what it was made with
abbrev pub Either : Identity → Content → Identity → Content → List ℕ → List ℕ → List ℕ → Type 0
Either i x j y sent c out = (out ≡ sent) × (StandsFor i x c ⊎ StandsFor j y c)

-- where the file stands for a content, and would stand for another with this image selected, a stop leaves the one or the other
abbrev pub LeavesEither : Opened → (body : List ℕ) → Root → (a b : State) → (la lb : ℕ → List ℕ → List ℕ → Type 0) → Type 0
LeavesEither i body root a b la lb =
    (x y : Content) → Stands (identity_of i) i.second x a.holds → Stands (renewed i root) (not i.second) y (committed i body root a.holds) → LeavesOnly a b la lb (Either (identity_of i) x (renewed i root) y a.sent)
