-- What is read of a file, step by step, and what a file stands for.
use Rattle.std.specs.FinMap.{find}
use Rattle.std.specs.Prelude.{◌≡◌, ℕ, ◌+◌, ◌*◌, Bool, List, length, take, drop, map, Option, Some}
use Rattle.kd_records.specs.declared.content.Content.{Content}
use Rattle.kd_records.specs.Keys.{key_cmp}
use Rattle.kd_records.specs.Contents.{IsContent}
use Rattle.kd_records.specs.Charge.{charge_of}
use Rattle.kd_records.specs.Identity.{Identity, IsIdentity}
use Rattle.kdcfile_layout.specs.Places.{At}
use Rattle.kdcfile_layout.specs.Fields.{AreBytes}
use Rattle.kdcfile_layout.specs.declared.chain.Chain.{Chain}
use Rattle.kdcfile_layout.specs.Layout.{Layout, IsLayout, Stands, root_place, slots_in_page, directory_pages, page_count, first_of_pages}
use Rattle.kdcfile_layout.specs.declared.kdcfile_read.root.RootFields.{RootFields}
use Rattle.kdcfile_layout.specs.Chains.{page_at, chain_of}
use Rattle.kdcfile_layout.specs.Slots.{first_in, slots_of}
use Rattle.kdcfile_layout.specs.Reading.{head_of, root_of, numbers_of, whole_of}

-- ---- the places of a file that are read

-- the first bytes, with the selector after them
abbrev pub front_in : List ℕ → List ℕ
front_in h = take 4097 h

-- the root of image A or B, without the numbers of the directory's pages
abbrev pub root_in : Bool → List ℕ → List ℕ
root_in second h = take 64 (drop (root_place second) h)

-- the numbers of so many directory pages
abbrev pub numbers_in : ℕ → Bool → List ℕ → List ℕ
numbers_in n second h = take (4 * n) (drop (root_place second + 64) h)

-- the slots of the k-th directory page
abbrev pub page_slots : ℕ → ℕ → List (Option Chain) → List (Option Chain)
page_slots size k slots = take (slots_in_page size) (drop (k * slots_in_page size) slots)

-- ---- what is read there

-- what the root of a content says
abbrev pub fields_in : Identity → Content → RootFields
fields_in i x = record { fingerprint = i.fingerprint; clock = x.clock; next_job = x.next_job; pgpool = i.pages; records = length x.items }

-- the first page of a chain says the length of the value, and the chain has this value
pub record ReadsChain (size count : ℕ) (h : List ℕ) (c : Chain) (value : List ℕ) : Type 0 where
  pub whole : whole_of (page_at size h (first_of_pages c.pages)) ≡ Some (length value)
  pub chain : chain_of size count h c.key (length value) 0 (charge_of size (length value)) (length value) (first_of_pages c.pages) ≡ Some (c.pages, value)

-- the head, the root, the directory's pages, their slots, and the chain of each used slot are read so
pub record ReadsAs (i : Identity) (second : Bool) (x : Content) (l : Layout) (h : List ℕ) : Type 0 where
  pub head : head_of (front_in h) ≡ Some (record { blksize = i.blksize; second = second })
  pub root : root_of i.blksize (root_in second h) ≡ Some (fields_in i x)
  pub numbers : numbers_of (directory_pages i.blksize i.pages) (numbers_in (directory_pages i.blksize i.pages) second h) ≡ Some l.directory
  pub slots : (k p : ℕ) → At l.directory k p → slots_of (slots_in_page i.blksize) (page_at i.blksize h p) ≡ Some (map first_in (page_slots i.blksize k l.slots))
  pub chains : (s : ℕ) (c : Chain) (value : List ℕ) → At l.slots s (Some c) → find key_cmp c.key x.items ≡ Some value → ReadsChain i.blksize (page_count i.blksize i.pages) h c value

-- what was read are bytes
pub record AreBytesRead (size n : ℕ) (second : Bool) (directory h : List ℕ) : Type 0 where
  pub front : AreBytes (front_in h)
  pub root : AreBytes (root_in second h)
  pub numbers : AreBytes (numbers_in n second h)
  pub pages : (k p : ℕ) → At directory k p → AreBytes (page_at size h p)

-- ---- the laws

-- what is in a file is read
abbrev pub FilesAreRead : Type 0
FilesAreRead = (i : Identity) (second : Bool) (x : Content) (l : Layout) (h : List ℕ) → Stands i second x l h → ReadsAs i second x l h

-- what is read of a layout is in the file
abbrev pub ReadFilesStand : Type 0
ReadFilesStand = (i : Identity) (second : Bool) (x : Content) (l : Layout) (h : List ℕ) → IsIdentity i → IsContent x → IsLayout i.blksize i.pages x.items l → AreBytesRead i.blksize (directory_pages i.blksize i.pages) second l.directory h → ReadsAs i second x l h
    → Stands i second x l h
