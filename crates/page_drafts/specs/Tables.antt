-- The slots of a directory, with an index of their keys and a list of the free ones.
use Rattle.std.proofs.Common.{◌≡◌, ◌⊎◌, ℕ, ◌+◌, ◌<◌, ◌≤◌, not, List, [], drop, length, Option, Some, None}
use Rattle.std.specs.Prelude.{IsTrue, Contains}
use Rattle.std.specs.Ordering.{eq_by_cmp}
use Rattle.std.specs.FinMap.{find, is_sorted}
use Rattle.std.specs.FinMap.Entries.{where_key}
use Rattle.kd_records.specs.declared.key.RecordKey.{RecordKey}
use Rattle.kd_records.specs.Keys.{key_cmp}
use Rattle.kdcfile_layout.specs.declared.chain.Chain.{Chain}
use Rattle.kdcfile_layout.specs.Places.{At, IsDistinct}
use Rattle.kdcfile_layout.specs.Layout.{used}

-- keys with their slots
abbrev pub Index : Type 0
Index = List (RecordKey × ℕ)

abbrev pub without : RecordKey → Index → Index
without k index = where_key key_cmp (λ x. not (eq_by_cmp key_cmp k x)) index

-- the slots of a directory, the places of their keys, and the places of the free ones
pub record Parts : Type 0 where
  pub slots : List (Option Chain)
  pub index : Index
  pub free : List ℕ

-- the slot has a record with this key
abbrev pub HasKey : List (Option Chain) → ℕ → RecordKey → Type 0
HasKey slots s k = (c : Chain) × At slots s (Some c) × (c.key ≡ k)

-- the index has the keys of the used slots, and besides none but keys that are gone; the list has just the free slots,
-- each once
pub record IsIndexed (t : Parts) (gone : List RecordKey) : Type 0 where
  pub there : (k : RecordKey) (s : ℕ) → find key_cmp k t.index ≡ Some s → s < length t.slots
  pub found : (k : RecordKey) (s : ℕ) → find key_cmp k t.index ≡ Some s → HasKey t.slots s k ⊎ Contains gone k
  pub kept : (s : ℕ) (c : Chain) → At t.slots s (Some c) → find key_cmp c.key t.index ≡ Some s
  pub unused : (n s : ℕ) → At t.free n s → At t.slots s None
  pub distinct : IsDistinct t.free
  pub count : length t.free + used t.slots ≡ length t.slots
  pub ascending : IsTrue (is_sorted key_cmp t.index)

-- no key is in two slots
abbrev pub HasKeysOnce : List (Option Chain) → Type 0
HasKeysOnce slots = (s t : ℕ) (c d : Chain) → At slots s (Some c) → At slots t (Some d) → c.key ≡ d.key → s ≡ t

-- the index has just the keys of the first n slots
pub record IsIndexedTo (slots : List (Option Chain)) (index : Index) (n : ℕ) : Type 0 where
  pub found : (k : RecordKey) (s : ℕ) → find key_cmp k index ≡ Some s → HasKey slots s k × (s < n)
  pub kept : (s : ℕ) (c : Chain) → At slots s (Some c) → s < n → find key_cmp c.key index ≡ Some s
  pub ascending : IsTrue (is_sorted key_cmp index)

-- the list has just the free slots from the n-th on
pub record IsFreeFrom (slots : List (Option Chain)) (free : List ℕ) (n : ℕ) : Type 0 where
  pub unused : (m s : ℕ) → At free m s → At slots s None × (n ≤ s)
  pub distinct : IsDistinct free
  pub count : length free + used (drop n slots) ≡ length (drop n slots)

-- a slot for a key: the one that has it, or a free one if none has
pub record IsPlaceFor (k : RecordKey) (s : ℕ) (slots : List (Option Chain)) : Type 0 where
  pub there : s < length slots
  pub own : (c : Chain) → At slots s (Some c) → c.key ≡ k
  pub only : (r : ℕ) (c : Chain) → At slots r (Some c) → c.key ≡ k → r ≡ s

-- no slot has the key
abbrev pub IsAbsent : RecordKey → List (Option Chain) → Type 0
IsAbsent k slots = (r : ℕ) (c : Chain) → At slots r (Some c) → c.key ≡ k → ⊥

-- the pages of what is in a slot
abbrev pub pages_in : Option Chain → List ℕ
pages_in None = []
pages_in (Some c) = c.pages

-- ---- a table with no record

-- the slots from the last one down
pub record IsDescending (free : List ℕ) (n count : ℕ) : Type 0 where
  pub long : length free ≡ n
  pub down : (m s : ℕ) → At free m s → s + m + 1 ≡ count
