-- What the bytes of a KDCFILE in pages stand for.
use Rattle.std.specs.FinMap as map
use Rattle.std.specs.Prelude.{◌≡◌, ◌≤◌, ◌<◌, ℕ, ◌+◌, ◌-◌, ◌*◌, ◌/◌, ◌%◌, ◌^◌, Bool, if◌then◌else◌, List, [], ◌∷◌, ◌++◌, length, take, drop, get_or, replicate, codes, Option, Some, None, All, sum_by}
use Rattle.std.specs.List.{flat_map}
use Rattle.std.specs.Int.{w32, w64, to_be_bytes}
use Rattle.kd_records.specs.declared.content.Content.{Content}
use Rattle.kd_records.specs.declared.key.RecordKey.{RecordKey}
use Rattle.kd_records.specs.Keys.{key_cmp}
use Rattle.kd_records.specs.Contents.{Record, IsContent}
use Rattle.kd_records.specs.Charge.{charge_of}
use Rattle.kd_records.specs.Identity.{Identity, IsIdentity}
use Rattle.kdcfile_layout.specs.Places.{At}
use Rattle.kdcfile_layout.specs.declared.chain.Chain.{Chain}

-- a list is at a place of the file
abbrev pub StandsAt : ℕ → List ℕ → List ℕ → Type 0
StandsAt at part h = take (length part) (drop at h) ≡ part

-- the byte that a commit writes to select image A or B
abbrev pub selector : Bool → ℕ
selector second = if second then 1 else 0

-- where the root of image A or B is
abbrev pub root_place : Bool → ℕ
root_place second = if second then 16384 else 8192

-- where a page begins
abbrev pub page_place : ℕ → ℕ → ℕ
page_place size p = 24576 + p * size

-- how many slots a directory page has
abbrev pub slots_in_page : ℕ → ℕ
slots_in_page size = size / 32

-- how many directory pages there are: enough for a slot for each page of the pool
abbrev pub directory_pages : ℕ → ℕ → ℕ
directory_pages size pool = (pool + (slots_in_page size - 1)) / slots_in_page size

-- how many pages there are
abbrev pub page_count : ℕ → ℕ → ℕ
page_count size pool = 2 * (pool + directory_pages size pool)

-- where all is: the directory's pages in order, and for each of its slots the chain of pages, if any
pub record Layout : Type 0 where
  pub directory : List ℕ
  pub slots : List (Option Chain)

-- a slot that no record has
abbrev pub free_slot : Option Chain
free_slot = None

-- ---- the texts of roots and pages

-- the first bytes: an open gate, the mark, form 2, and the block size
abbrev pub head : Identity → List ℕ
head i = 75 ∷ (codes "UTMKDCF" ++ 2 ∷ [] ++ to_be_bytes w32 i.blksize)

-- a root: 64 bytes, and the numbers of the directory's pages
abbrev pub root : Identity → Content → List ℕ → List ℕ
root i x directory =
    i.fingerprint ++ to_be_bytes w64 x.clock ++ to_be_bytes w64 x.next_job ++ to_be_bytes w32 i.pages ++ to_be_bytes w32 (length directory) ++ to_be_bytes w32 (length x.items) ++ codes "ROOT" ++ flat_map (λ p. to_be_bytes w32 p) directory

-- the first page of a chain, or what stands for none
abbrev pub first_of_pages : List ℕ → ℕ
first_of_pages [] = 2 ^ 32 - 1
first_of_pages (p ∷ pages) = p

-- so many zero bytes
unfoldable pub zeros : ℕ → List ℕ
zeros n = replicate n 0

-- a slot: a key with the first page of its chain, or zero bytes
unfoldable pub spelled_slot : Option Chain → List ℕ
spelled_slot None = zeros 32
spelled_slot (Some c) = c.key.kind ∷ (c.key.bytes ++ to_be_bytes w32 (first_of_pages c.pages) ++ zeros 3)

-- the k-th directory page
abbrev pub directory_text : ℕ → ℕ → List (Option Chain) → List ℕ
directory_text size k slots = flat_map spelled_slot (take (slots_in_page size) (drop (k * slots_in_page size) slots))

-- the first 48 bytes of a record's page: the key, the length of the whole value, the part's number, the next page
unfoldable pub chain_head : RecordKey → ℕ → ℕ → ℕ → List ℕ
chain_head k n part next = k.kind ∷ (k.bytes ++ to_be_bytes w32 n ++ to_be_bytes w32 part ++ to_be_bytes w32 next ++ zeros 11)

-- a page with what is at its front
abbrev pub Part : Type 0
Part = ℕ × List ℕ

-- the pages of a chain from this part on, each with so many bytes of what is left of the value
abbrev pub chain_parts : ℕ → RecordKey → ℕ → ℕ → List ℕ → List ℕ → List Part
chain_parts payload k n part left [] = []
chain_parts payload k n part left (p ∷ pages) = (p, chain_head k n part (first_of_pages pages) ++ take payload left) ∷ chain_parts payload k n (part + 1) (drop payload left) pages

-- the pages of a record with this value
abbrev pub record_parts : ℕ → List ℕ → Chain → List Part
record_parts size value c = chain_parts (size - 48) c.key (length value) 0 value c.pages

-- ---- what is in the file

-- the page is within the file and has this at its front
pub record PartStands (size : ℕ) (h : List ℕ) (part : Part) : Type 0 where
  pub stands : StandsAt (page_place size part.0) part.1 h
  pub fits : length part.1 ≤ size
  pub inside : page_place size part.0 + size ≤ length h

-- the same where the file is known
abbrev pub Has : ℕ → Option (List ℕ) → Part → Type 0
Has size None part = Unit {0}
Has size (Some h) part = PartStands size h part

-- a place where a page is named: the root, by its k-th number, or a chain, by the slot and the part
pub data Name : Type 0 where
  InRoot : (k : ℕ) → Name
  InChain : (slot part : ℕ) → Name

abbrev pub Names : Layout → Name → ℕ → Type 0
Names l (InRoot k) p = At l.directory k p
Names l (InChain slot part) p = (c : Chain) × At l.slots slot (Some c) × At c.pages part p

-- a number for a chain, and 0 for a free slot
abbrev pub if_used : (Chain → ℕ) → Option Chain → ℕ
if_used g None = 0
if_used g (Some c) = g c

abbrev pub over_slots : (Chain → ℕ) → List (Option Chain) → ℕ
over_slots g slots = sum_by (λ (o : Option Chain). if_used g o) slots

-- how many slots are used
abbrev pub used : List (Option Chain) → ℕ
used slots = over_slots (λ c. 1) slots

-- how many pages the chains have
abbrev pub chain_pages : List (Option Chain) → ℕ
chain_pages slots = over_slots (λ c. length c.pages) slots

-- the slots have just the records: each key in one slot, each record in a slot, and as many pages as its charge
pub record IsTable (size : ℕ) (items : List Record) (slots : List (Option Chain)) : Type 0 where
  pub one_slot : (s t : ℕ) (c d : Chain) → At slots s (Some c) → At slots t (Some d) → c.key ≡ d.key → s ≡ t
  pub key_length : (s : ℕ) (c : Chain) → At slots s (Some c) → length c.key.bytes ≡ 24
  pub kept : (s : ℕ) (c : Chain) → At slots s (Some c) → (value : List ℕ) × (map.find key_cmp c.key items ≡ Some value) × (length c.pages ≡ charge_of size (length value))
  pub number : used slots ≡ length items
  pub placed : (k : RecordKey) (value : List ℕ) → map.find key_cmp k items ≡ Some value → (s : ℕ) × (c : Chain) × At slots s (Some c) × (c.key ≡ k)

-- a layout of these records: its sizes, its table, pages that there are, and no page named twice
pub record IsLayout (size pool : ℕ) (items : List Record) (l : Layout) : Type 0 where
  pub directory : length l.directory ≡ directory_pages size pool
  pub slots : length l.slots ≡ directory_pages size pool * slots_in_page size
  pub table : IsTable size items l.slots
  pub below : (u : Name) (p : ℕ) → Names l u p → p < page_count size pool
  pub once : (u v : Name) (p : ℕ) → Names l u p → Names l v p → u ≡ v

-- the chains of these records are in the file, where it is known
abbrev pub ChainsStand : ℕ → List Record → Layout → Option (List ℕ) → Type 0
ChainsStand size items l file = (s : ℕ) (c : Chain) (value : List ℕ) → At l.slots s (Some c) → map.find key_cmp c.key items ≡ Some value → All (Has size file) (record_parts size value c)

-- image A or B is the one of this content, laid out so
pub record IsImage (i : Identity) (second : Bool) (x : Content) (l : Layout) (h : List ℕ) : Type 0 where
  pub identity : IsIdentity i
  pub content : IsContent x
  pub layout : IsLayout i.blksize i.pages x.items l
  pub headed : StandsAt 0 (head i) h
  pub root : StandsAt (root_place second) (root i x l.directory) h
  pub directory : (k p : ℕ) → At l.directory k p → PartStands i.blksize h (p, directory_text i.blksize k l.slots)
  pub chains : ChainsStand i.blksize x.items l (Some h)

-- and the selector names it
pub record Stands (i : Identity) (second : Bool) (x : Content) (l : Layout) (h : List ℕ) : Type 0 where
  pub selected : get_or h 4096 0 % 2 ≡ selector second
  pub image : IsImage i second x l h

-- the bytes stand for this content
abbrev pub StandsFor : Identity → Content → List ℕ → Type 0
StandsFor i x h = (second : Bool) × (l : Layout) × Stands i second x l h

-- the bytes stand for no image
abbrev pub IsNoImage : List ℕ → Type 0
IsNoImage h = (i : Identity) (x : Content) → StandsFor i x h → ⊥

-- given bytes stand for one content at most, made with one identity
abbrev pub OneMeaning : Type 0
OneMeaning = (i j : Identity) (x y : Content) (h : List ℕ) → StandsFor i x h → StandsFor j y h → (i ≡ j) × (x ≡ y)

-- the content of a fresh file
abbrev pub fresh : Content
fresh = record { clock = 0; next_job = 1; items = [] }
