-- A whole content that is drafted: all its records, over a directory of which no page is written yet.
use Rattle.std.specs.Prelude.{ℕ, ◌+◌, ◌<◌, ◌≤◌, true, false, List, [], length, map, replicate, Option, Some, IsTrue}
use Rattle.std.specs.FinMap.{is_sorted}
use Rattle.kd_records.specs.Keys.{key_cmp}
use Rattle.kd_records.specs.Contents.{Record, Change}
use Rattle.kd_records.specs.Charge.{total_charge}
use Rattle.kdcfile_layout.specs.Places.{At}
use Rattle.kdcfile_layout.specs.Layout.{Layout, IsLayout, Name, Names}
use Rattle.page_drafts.specs.Drafts.{IsPlan, IsUnnamed}
use Rattle.page_drafts.specs.Drafting.{Drafting, IsDraft, unprepared}

-- nothing is prepared yet, all pages of the directory are stale, and each page is to be written whole
abbrev pub unwritten : Layout → Drafting
unwritten l = record (unprepared 0 l) { stale = replicate (length l.directory) true }

-- the changes that put these records
abbrev pub puts_of : List Record → List Change
puts_of items = map (λ r. (r.0, Some r.1)) items

-- the layout is one of no records, no page of the plan is named, and there is a slot for each record
pub record CanPrepareWhole (size pool : ℕ) (items : List Record) (plan : List ℕ) (l : Layout) : Type 0 where
  pub planned : IsPlan size pool plan
  pub unnamed : IsUnnamed l plan
  pub layout : IsLayout size pool [] l
  pub ascending : IsTrue (is_sorted key_cmp items)
  pub slots : length items ≤ length l.slots

-- all records are prepared, with the whole directory, on pages of the plan
pub record PreparedWhole (size : ℕ) (plan : List ℕ) (items : List Record) (l : Layout) (e : Drafting) : Type 0 where
  pub draft : (pool : ℕ) (file : Option (List ℕ)) → CanPrepareWhole size pool items plan l → IsDraft size pool items plan file e
  pub clean : (k : ℕ) → k < length e.layout.directory → At e.stale k false
  pub most : e.taken ≤ total_charge size items + length l.directory
  pub named : (pool : ℕ) → CanPrepareWhole size pool items plan l → (u : Name) (p : ℕ) → Names e.layout u p → (n : ℕ) × At plan n p
