-- What a commit makes of a file, and what a stop within it leaves.
use Rattle.std.specs.Prelude.{◌≡◌, ◌⊎◌, ◌<◌, ◌≤◌, ◌+◌, ℕ, not, List, [], ◌∷◌, ◌++◌, length, codes, All}
use Rattle.std.specs.List.{flat_map}
use Rattle.std.specs.Int.{w32, w64, to_be_bytes}
use Rattle.kd_device.specs.Device.{State, LeavesOnly, written}
use Rattle.kd_records.specs.declared.content.Content.{Content}
use Rattle.kd_records.specs.Identity.{Identity}
use Rattle.kdcfile_layout.specs.declared.page.PageWrite.{PageWrite}
use Rattle.kdcfile_layout.specs.Layout.{Layout, Stands, StandsFor, IsImage, page_place, page_count, root_place, selector}
use Rattle.kdcfile_layout.specs.Crash.{AllFree}
use Rattle.kdcfile_layout.specs.Writes.{written_all, total, AllBelow}
use Rattle.kdcfile_layout.specs.Opened.{Opened, identity_of, renewed}
use Rattle.kdcfile_layout.specs.declared.kdcfile_images.image.Root.{Root}

-- a root as bytes: 64, and four for each page of the directory
abbrev pub spelled_root : Root → List ℕ
spelled_root r =
    r.fingerprint ++ to_be_bytes w64 r.clock ++ to_be_bytes w64 r.next_job ++ to_be_bytes w32 r.pgpool ++ to_be_bytes w32 (length r.directory) ++ to_be_bytes w32 r.records ++ codes "ROOT" ++ flat_map (λ p. to_be_bytes w32 p) r.directory

-- a write of a page that there is, or of its front
abbrev pub IsPage : ℕ → ℕ → PageWrite → Type 0
IsPage size pool w = (p : ℕ) × (p < page_count size pool) × (w.at ≡ page_place size p) × (length w.bytes ≤ size)

abbrev pub ArePages : ℕ → ℕ → List PageWrite → Type 0
ArePages size pool pages = All (IsPage size pool) pages

-- the file with these pages, and this root as the unselected one
abbrev pub staged : Opened → List PageWrite → Root → List ℕ → List ℕ
staged i pages root h = written (written_all h pages) (root_place (not i.second)) (spelled_root root)

-- and with the selector on that image
abbrev pub committed : Opened → List PageWrite → Root → List ℕ → List ℕ
committed i pages root h = written (staged i pages root h) 4096 (selector (not i.second) ∷ [])

-- these writes make the staged file, with just its bytes: none is past an end that the pages keep, and none is of the
-- selected image if none of the pages is
pub record AreStaged (i : Opened) (pages : List PageWrite) (root : Root) (writes : List PageWrite) : Type 0 where
  pub file : (h : List ℕ) → written_all h writes ≡ staged i pages root h
  pub total : total writes ≡ total pages + length (spelled_root root)
  pub below : (end : ℕ) → AllBelow end pages → root_place (not i.second) + length (spelled_root root) ≤ end → AllBelow end writes
  pub free : (l : Layout) → 0 < i.blksize → AllFree i.blksize i.second l pages → length (spelled_root root) ≤ 8192 → AllFree i.blksize i.second l writes

-- nothing more was sent, and the file stands for the one content or for the other, each with what it was made with
abbrev pub Either : Identity → Content → Identity → Content → List ℕ → List ℕ → List ℕ → Type 0
Either i x j y sent c out = (out ≡ sent) × (StandsFor i x c ⊎ StandsFor j y c)

-- the selected image is the one of this content, and names none of these pages
pub record IsApartFrom (i : Opened) (x : Content) (l : Layout) (pages : List PageWrite) (h : List ℕ) : Type 0 where
  pub stands : Stands (identity_of i) i.second x l h
  pub free : AllFree i.blksize i.second l pages

-- with these pages and this root, the unselected image would be the one of this content
abbrev pub WouldBe : Opened → List PageWrite → Root → Content → Layout → List ℕ → Type 0
WouldBe i pages root y m h = IsImage (renewed i root) (not i.second) y m (staged i pages root h)

-- where the file stands for a content, and would stand for another, a stop leaves the one or the other
abbrev pub LeavesEither : Opened → List PageWrite → Root → (a b : State) → (la lb : ℕ → List ℕ → List ℕ → Type 0) → Type 0
LeavesEither i pages root a b la lb =
    (x y : Content) (l m : Layout) → IsApartFrom i x l pages a.holds → WouldBe i pages root y m a.holds → LeavesOnly a b la lb (Either (identity_of i) x (renewed i root) y a.sent)
