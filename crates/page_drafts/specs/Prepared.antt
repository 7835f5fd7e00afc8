-- A patch is prepared whole.
use Rattle.std.specs.Prelude.{◌≡◌, ℕ, ◌+◌, ◌<◌, ◌≤◌, false, List, length, Option, IsTrue}
use Rattle.std.specs.FinMap.{is_sorted}
use Rattle.kd_records.specs.Keys.{key_cmp}
use Rattle.kd_records.specs.Contents.{Record, Change, changed_all}
use Rattle.kd_records.specs.Charge.{total_charge}
use Rattle.kdcfile_layout.specs.Places.{At}
use Rattle.kdcfile_layout.specs.Layout.{Layout, IsLayout, chain_pages}
use Rattle.kdcfile_layout.specs.Bound.{put_charge}
use Rattle.page_drafts.specs.Drafts.{IsPlan, IsUnnamed}
use Rattle.page_drafts.specs.Drafting.{Drafting, IsDraft, unprepared}
use Rattle.page_drafts.specs.Freed.{AreFreed}

-- the records are laid out so, no page of the plan is named, and there is a slot for each record after the changes
pub record CanPrepare (size pool : ℕ) (items : List Record) (plan : List ℕ) (changes : List Change) (l : Layout) : Type 0 where
  pub planned : IsPlan size pool plan
  pub unnamed : IsUnnamed l plan
  pub layout : IsLayout size pool items l
  pub charged : chain_pages l.slots ≡ total_charge size items
  pub ascending : IsTrue (is_sorted key_cmp items)
  pub changes_ascending : IsTrue (is_sorted key_cmp changes)
  pub slots : length (changed_all items changes) ≤ length l.slots

-- from this layout all changes are prepared, for a file that has so many bytes
pub record Prepared (size long : ℕ) (plan : List ℕ) (changes : List Change) (l : Layout) (e : Drafting) : Type 0 where
  pub draft : (pool : ℕ) (items : List Record) (file : Option (List ℕ)) → CanPrepare size pool items plan changes l → IsDraft size pool items plan file (unprepared long l) → IsDraft size pool (changed_all items changes) plan file e
  pub clean : (k : ℕ) → k < length e.layout.directory → At e.stale k false
  pub most : e.taken ≤ put_charge size changes + length changes
  pub enough : e.taken ≤ length plan
  pub directory : length e.layout.directory ≡ length l.directory
  pub slots : length e.layout.slots ≡ length l.slots
  pub freed : (pool : ℕ) (items : List Record) → CanPrepare size pool items plan changes l → AreFreed l plan e.layout e.taken e.freed
