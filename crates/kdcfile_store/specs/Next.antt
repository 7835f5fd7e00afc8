-- What a commit makes, before it is written.
use Rattle.std.specs.Prelude.{◌≡◌, ◌≤◌, ◌<◌, ◌+◌, ◌*◌, ◌^◌, ℕ, min, Bool, true, false, List, length, take, Option, Some}
use Rattle.kd_records.specs.declared.content.Content.{Content}
use Rattle.kd_records.specs.declared.content.Patch.{Patch}
use Rattle.kd_records.specs.Contents.{Record, Change, patched}
use Rattle.kd_records.specs.InPlace.{Patching}
use Rattle.kdcfile_layout.specs.Places.{At, IsDistinct}
use Rattle.kdcfile_layout.specs.Pools.{ArePlanned, flagged}
use Rattle.kdcfile_layout.specs.declared.chain.Chain.{Chain}
use Rattle.kdcfile_layout.specs.Bound.{put_charge}
use Rattle.kdcfile_layout.specs.Crash.{AllFree}
use Rattle.kdcfile_layout.specs.Layout.{Layout, Stands}
use Rattle.kdcfile_layout.specs.Stored.{IsStored}
use Rattle.kdcfile_layout.specs.Writes.{total}
use Rattle.kdcfile_layout.specs.Commit.{ArePages, WouldBe}
use Rattle.kdcfile_layout.specs.Opened.{Opened, identity_of, layout_in, root_for}
use Rattle.page_drafts.specs.Drafting.{Drafting}
use Rattle.page_drafts.specs.DraftRuns.{AreWide}
use Rattle.page_drafts.specs.Prepared.{CanPrepare}
use Rattle.kdcfile_store.specs.declared.next.Next.{Next}

-- how many pages of a plan a patch takes at most: those of its new values, and of the directory one for each change
abbrev pub needed_pages : Opened → Patch → ℕ
needed_pages i patch = put_charge i.blksize patch.items + min (length patch.items) (length i.root.directory)

-- the plan has pages for these changes, and there are slots for them
pub record CanDraft (i : Opened) (slots : List (Option Chain)) (plan : List ℕ) (changes : List Change) : Type 0 where
  pub values : (k : ℕ) (c : Change) (v : List ℕ) → At changes k c → c.1 ≡ Some v → length v < 2 ^ 32
  pub wide : AreWide changes
  pub enough : put_charge i.blksize changes + min (length changes) (length i.root.directory) ≤ length plan
  pub few : length plan < 2 ^ 32
  pub room : (items : List Record) × CanPrepare i.blksize i.root.pgpool items plan changes (layout_in i.root slots)

-- the parts of a draft of this content in their places
pub record IsDrafted (i : Opened) (y : Patching) (plan : List ℕ) (e : Drafting) (n : Next) : Type 0 where
  pub content : n.filing.content ≡ y
  pub clock : y.content.clock < 2 ^ 64
  pub next_job : y.content.next_job < 2 ^ 64
  pub root : n.root ≡ root_for (identity_of i) y.content e.layout.directory
  pub table : n.filing.table ≡ record { slots = e.layout.slots; before = e.before }
  pub writes : n.writes.items ≡ e.writes
  pub pages : n.last.pages ≡ take e.taken plan
  pub freed : n.last.freed ≡ e.freed

-- the content that the patch makes, with its root; pages that the image does not name, with which the other image would
-- be that content's in a file that has so many bytes; and the pages that become used and free, so that all is stored as
-- before
pub record IsNext (i : Opened) (x : Content) (l : Layout) (used : List Bool) (patch : Patch) (long : ℕ) (n : Next) : Type 0 where
  pub content : n.filing.content.content ≡ patched x patch
  pub root : n.root ≡ root_for (identity_of i) n.filing.content.content n.root.directory
  pub pages : ArePages i.blksize i.root.pgpool n.writes.items
  pub few : length n.writes.items < 2 ^ 32
  pub most : total n.writes.items ≤ i.blksize * (put_charge i.blksize patch.items + length patch.items)
  pub planned : ArePlanned used (length n.last.pages) n.last.pages
  pub distinct : IsDistinct n.last.freed
  pub freed : (m p : ℕ) → At n.last.freed m p → At used p true
  pub stored : IsStored (identity_of i) n.filing.content.content (layout_in n.root n.filing.table.slots) (flagged false (flagged true used n.last.pages) n.last.freed)
  pub apart : AllFree i.blksize i.second l n.writes.items
  pub would_be : (h : List ℕ) → long ≤ length h → Stands (identity_of i) i.second x l h → WouldBe i n.writes.items n.root n.filing.content.content (layout_in n.root n.filing.table.slots) h
