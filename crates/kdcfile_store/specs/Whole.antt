-- What is made of a whole content, before it is written.
use Rattle.std.specs.Prelude.{◌≡◌, ◌≤◌, ◌<◌, ◌+◌, ◌-◌, ◌*◌, ◌^◌, ℕ, not, Bool, true, false, List, ◌++◌, length, replicate, All, IsTrue}
use Rattle.std.specs.FinMap.{is_sorted}
use Rattle.kd_device.specs.Device.{written}
use Rattle.kd_records.specs.declared.content.Content.{Content}
use Rattle.kd_records.specs.Contents.{Record, IsRecord}
use Rattle.kd_records.specs.Charge.{IsBlockSize, total_charge}
use Rattle.kd_records.specs.Identity.{Identity}
use Rattle.kd_records.specs.Keys.{key_cmp}
use Rattle.kdcfile_layout.specs.Places.{At}
use Rattle.kdcfile_layout.specs.Pools.{flagged}
use Rattle.kdcfile_layout.specs.Crash.{AllFree}
use Rattle.kdcfile_layout.specs.Layout.{Layout, Name, Names, IsImage, Stands, directory_pages, page_count, root_place}
use Rattle.kdcfile_layout.specs.Stored.{IsStored}
use Rattle.kdcfile_layout.specs.Writes.{total, written_all}
use Rattle.kdcfile_layout.specs.Commit.{ArePages, spelled_root}
use Rattle.kdcfile_layout.specs.Opened.{layout_in, root_for}
use Rattle.page_drafts.specs.Drafting.{Drafting}
use Rattle.page_drafts.specs.Drafts.{IsPlan}
use Rattle.page_drafts.specs.WholeDrafts.{CanPrepareWhole, PreparedWhole}
use Rattle.kdcfile_store.specs.declared.carrying.Whole.{Whole}

-- which pages are used in the file with this page pool, of whose pages the new ones are free
abbrev pub widened : (size pool : ℕ) → List Bool → List Bool
widened size pool used = used ++ replicate (page_count size pool - length used) false

-- how many pages a whole content takes: those of its records, and those of the directory
abbrev pub whole_pages : (size pool : ℕ) → List Record → ℕ
whole_pages size pool items = total_charge size items + directory_pages size pool

-- just these pages are used
abbrev pub used_by : (size pool : ℕ) → List ℕ → List Bool
used_by size pool plan = flagged true (replicate (page_count size pool) false) plan

-- the plan has a page for each page of these records and of the directory
pub record CanDraftWhole (size pool : ℕ) (plan : List ℕ) (items : List Record) : Type 0 where
  pub size_is : IsBlockSize size
  pub most : pool ≤ 30000
  pub records : All IsRecord items
  pub ascending : IsTrue (is_sorted key_cmp items)
  pub charge : total_charge size items ≤ pool
  pub planned : IsPlan size pool plan
  pub count : length plan ≡ whole_pages size pool items

-- all records are drafted, over some layout of none
pub record IsWholeDraft (size pool : ℕ) (plan : List ℕ) (items : List Record) (e : Drafting) : Type 0 where
  pub from : Layout
  pub can : CanPrepareWhole size pool items plan from
  pub prepared : PreparedWhole size plan items from e

-- all pages that the layout names are used
abbrev pub AreUsed : Layout → List Bool → Type 0
AreUsed l used = (u : Name) (p : ℕ) → Names l u p → At used p true

-- the content with its root; pages that no image on used pages names, with which, and the root, the other image
-- is that content's; and the pool, so that all is stored
pub record IsWholeContent (used : List Bool) (j : Identity) (y : Content) (w : Whole) : Type 0 where
  pub content : w.filed.content ≡ y
  pub root : w.root ≡ root_for j y w.root.directory
  pub pages : ArePages j.blksize j.pages w.writes.items
  pub few : length w.writes.items < 2 ^ 32
  pub most : total w.writes.items ≤ j.blksize * whole_pages j.blksize j.pages y.items
  pub stored : IsStored j y (layout_in w.root w.filed.table) w.pool
  pub apart : (second : Bool) (l : Layout) → AreUsed l used → AllFree j.blksize second l w.writes.items
  pub would_be : (i : Identity) (second : Bool) (x : Content) (l : Layout) (h : List ℕ) → i.blksize ≡ j.blksize → AreUsed l used → Stands i second x l h
      → IsImage j (not second) y (layout_in w.root w.filed.table) (written (written_all h w.writes.items) (root_place (not second)) (spelled_root w.root))
