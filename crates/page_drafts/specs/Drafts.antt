-- A layout that is changed record by record, with the pages that are written for it.
use Rattle.std.proofs.Common.{◌≡◌, ◌⊎◌, ℕ, ◌+◌, ◌*◌, ◌<◌, ◌≤◌, Bool, false, List, length, Option, Some}
use Rattle.std.specs.Prelude.{IsTrue}
use Rattle.std.specs.FinMap.{is_sorted}
use Rattle.kd_records.specs.declared.key.RecordKey.{RecordKey}
use Rattle.kd_records.specs.Keys.{key_cmp}
use Rattle.kd_records.specs.Contents.{Record}
use Rattle.kd_records.specs.Charge.{charge_of, total_charge}
use Rattle.kdcfile_layout.specs.declared.chain.Chain.{Chain}
use Rattle.kdcfile_layout.specs.Places.{At, IsDistinct}
use Rattle.kdcfile_layout.specs.Layout.{Layout, Has, Name, Names, IsLayout, ChainsStand, chain_pages, directory_text, slots_in_page, page_count}

-- pages that are there, each once
pub record IsPlan (size pool : ℕ) (plan : List ℕ) : Type 0 where
  pub distinct : IsDistinct plan
  pub below : (n p : ℕ) → At plan n p → p < page_count size pool

-- no page of these is named
abbrev pub IsUnnamed : Layout → List ℕ → Type 0
IsUnnamed l pages = (u : Name) (p n : ℕ) → Names l u p → At pages n p → ⊥

-- the records have this layout; where the file is known, their chains are in it, and the directory's pages but for the
-- stale ones; no page of the plan from t on is named
pub record Drafted (size pool : ℕ) (items : List Record) (l : Layout) (stale : List Bool) (plan : List ℕ) (t : ℕ) (file : Option (List ℕ)) : Type 0 where
  pub ascending : IsTrue (is_sorted key_cmp items)
  pub charged : chain_pages l.slots ≡ total_charge size items
  pub layout : IsLayout size pool items l
  pub unplanned : (u : Name) (p n : ℕ) → Names l u p → t ≤ n → At plan n p → ⊥
  pub directory : (k p : ℕ) → At l.directory k p → At stale k false → Has size file (p, directory_text size k l.slots)
  pub chains : ChainsStand size items l file

-- what a slot gets for a key with this value or none: a chain of the plan's next pages, or nothing
pub record IsSlotFor (size : ℕ) (k : RecordKey) (value : Option (List ℕ)) (plan : List ℕ) (t next : ℕ) (o : Option Chain) : Type 0 where
  pub key : (c : Chain) → o ≡ Some c → c.key ≡ k
  pub key_length : (c : Chain) → o ≡ Some c → length c.key.bytes ≡ 24
  pub valued : (c : Chain) → o ≡ Some c → (v : List ℕ) × (value ≡ Some v) × (length c.pages ≡ charge_of size (length v))
  pub there : (v : List ℕ) → value ≡ Some v → (c : Chain) × (o ≡ Some c)
  pub pages : (c : Chain) (a p : ℕ) → o ≡ Some c → At c.pages a p → At plan (t + a) p × (t + a < next)

-- a slot is outside a directory page
abbrev pub IsOutside : ℕ → ℕ → ℕ → Type 0
IsOutside size s k = (s < k * slots_in_page size) ⊎ (k * slots_in_page size + slots_in_page size ≤ s)
