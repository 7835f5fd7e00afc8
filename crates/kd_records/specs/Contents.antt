-- Contents, and what a patch makes of one.
use Rattle.std.specs.Prelude.{◌≡◌, ◌<◌, ◌^◌, ℕ, not, IsTrue, List, [], ◌∷◌, length, Option, Some, None, All}
use Rattle.std.specs.Ordering.{eq_by_cmp}
use Rattle.std.specs.FinMap.{put, is_sorted}
use Rattle.std.specs.FinMap.Entries.{where_key}
use Rattle.kd_records.specs.declared.key.RecordKey.{RecordKey}
use Rattle.kd_records.specs.declared.content.Content.{Content}
use Rattle.kd_records.specs.declared.content.Patch.{Patch}
use Rattle.kd_records.specs.Keys.{key_cmp}

abbrev pub Record : Type 0
Record = RecordKey × List ℕ

abbrev pub Change : Type 0
Change = RecordKey × Option (List ℕ)

-- the records without the one of this key
abbrev pub without : RecordKey → List Record → List Record
without k records = where_key key_cmp (λ x. not (eq_by_cmp key_cmp k x)) records

-- the records after one change: the key has the new value, or no record
abbrev pub changed : List Record → Change → List Record
changed records (k, Some value) = put key_cmp k value records
changed records (k, None) = without k records

-- the records after all changes of a patch
abbrev pub changed_all : List Record → List Change → List Record
changed_all records [] = records
changed_all records (c ∷ changes) = changed_all (changed records c) changes

-- the content that a patch makes of another
abbrev pub patched : Content → Patch → Content
patched x p = record { clock = p.clock; next_job = p.next_job; items = changed_all x.items p.items }

-- a record that a file can keep: a kind from 1, a key of 24 bytes, and a value whose length has four bytes
pub record IsRecord (r : Record) : Type 0 where
  pub kind_from_one : 0 < r.0.kind
  pub kind_is_byte : r.0.kind < 2 ^ 8
  pub key_length : length r.0.bytes ≡ 24
  pub value_length : length r.1 < 2 ^ 32

-- a key that a record can have
pub record IsKey (k : RecordKey) : Type 0 where
  pub kind_from_one : 0 < k.kind
  pub kind_is_byte : k.kind < 2 ^ 8
  pub key_length : length k.bytes ≡ 24

-- a content that a file can keep
pub record IsContent (x : Content) : Type 0 where
  pub clock : x.clock < 2 ^ 64
  pub next_job : x.next_job < 2 ^ 64
  pub records : All IsRecord x.items
  pub ascending : IsTrue (is_sorted key_cmp x.items)
  pub few : length x.items < 2 ^ 32

-- the keys of a patch ascend without repeats, and none has kind 0
pub record IsPatch (p : Patch) : Type 0 where
  pub keys : All (λ (c : Change). IsKey c.0) p.items
  pub ascending : IsTrue (is_sorted key_cmp p.items)
