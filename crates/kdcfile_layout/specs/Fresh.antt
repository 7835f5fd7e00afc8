-- A fresh file, and what a stop within its making leaves.
use Rattle.std.specs.Prelude.{◌≡◌, ◌⊎◌, ℕ, zero, suc, ◌+◌, ◌*◌, List, [], ◌∷◌, ◌++◌, replicate, codes}
use Rattle.std.specs.Int.{w32, to_be_bytes}
use Rattle.kd_device.specs.Device.{State, LeavesOnly}
use Rattle.kd_records.specs.Identity.{Identity}
use Rattle.kdcfile_layout.specs.Layout.{Layout, StandsFor, IsNoImage, directory_pages, slots_in_page, free_slot, head, root, zeros, fresh}
use Rattle.kdcfile_layout.specs.Pages.{padded}
use Rattle.kdcfile_layout.specs.Opened.{root_for}
use Rattle.kdcfile_layout.specs.declared.kdcfile_images.image.Root.{Root}

-- what a file with this BLKSIZE, PGPOOL and fingerprint is made with
abbrev pub made_with : (blksize pages : ℕ) → (fingerprint : List ℕ) → Identity
made_with blksize pages fingerprint = record { blksize = blksize; pages = pages; fingerprint = fingerprint }

-- the numbers below n, in order
unfoldable pub numbers : ℕ → List ℕ
numbers zero = []
numbers (suc n) = numbers n ++ n ∷ []

-- a directory with these pages, whose slots are all free
abbrev pub free_layout : (size pool : ℕ) → (directory : List ℕ) → Layout
free_layout size pool directory = record { directory = directory; slots = replicate (directory_pages size pool * slots_in_page size) free_slot }

-- the directory's pages are the first ones, and all slots are free
abbrev pub fresh_layout : Identity → Layout
fresh_layout i = free_layout i.blksize i.pages (numbers (directory_pages i.blksize i.pages))

-- the root of both images
abbrev pub fresh_root : Identity → Root
fresh_root i = root_for i fresh (fresh_layout i).directory

-- a list, and zero bytes up to 8,192
abbrev pub in_part : List ℕ → List ℕ
in_part text = padded 8192 text

-- a fresh file: the head, two roots with no records, and the pages of the directory, which are zero bytes
abbrev pub fresh_file : Identity → List ℕ
fresh_file i =
    in_part (head i) ++ in_part (root i fresh (fresh_layout i).directory) ++ in_part (root i fresh (fresh_layout i).directory) ++ zeros (directory_pages i.blksize i.pages * i.blksize)

-- what is after the gate and before the pages, with this root and so many zero bytes after the head
abbrev pub after_gate : (blksize : ℕ) → (root : List ℕ) → (gap : ℕ) → List ℕ
after_gate blksize root gap = (codes "UTMKDCF" ++ 2 ∷ [] ++ to_be_bytes w32 blksize) ++ zeros gap ++ in_part root ++ in_part root

-- how many bytes it has
abbrev pub fresh_length : Identity → ℕ
fresh_length i = 24576 + directory_pages i.blksize i.pages * i.blksize

-- nothing more was sent, and the file is no image or stands for the fresh content
abbrev pub Made : Identity → List ℕ → List ℕ → List ℕ → Type 0
Made i sent c out = (out ≡ sent) × (IsNoImage c ⊎ StandsFor i fresh c)

-- a stop within a making leaves no more
abbrev pub LeavesMade : Identity → (a b : State) → (la lb : ℕ → List ℕ → List ℕ → Type 0) → Type 0
LeavesMade i a b la lb = LeavesOnly a b la lb (Made i a.sent)
