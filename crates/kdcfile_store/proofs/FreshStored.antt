-- A file that is made keeps the content with no records.
use Rattle.std.proofs.Common.{◌≡◌, ℕ, ◌*◌, Bool, false, List, [], replicate, Option}
use Rattle.kd_records.specs.Contents.{Record}
use Rattle.kd_records.specs.Identity.{Identity, IsIdentity}
use Rattle.kdcfile_layout.specs.declared.chain.Chain.{Chain}
use Rattle.kdcfile_layout.specs.Layout.{Stands, directory_pages, slots_in_page, free_slot, fresh}
use Rattle.kdcfile_layout.specs.Stored.{IsStored}
use Rattle.kdcfile_layout.specs.Fresh.{fresh_root, fresh_layout}
use Rattle.kdcfile_layout.specs.FreshLaws.{fresh_is_stored}
use Rattle.kdcfile_layout.specs.Opened.{Opened, identity_of, layout_in}
use Rattle.kdcfile_store.specs.FreshPool.{fresh_used}

module _ (i : Identity) (o : Opened) (items : List Record) (slots : List (Option Chain)) (o_is : o ≡ record { blksize = i.blksize; root = fresh_root i; second = false }) (items_are : items ≡ []) (slots_are : slots ≡ replicate (directory_pages i.blksize i.pages * slots_in_page i.blksize) free_slot) where
  pub made_stored : IsIdentity i → (used : List Bool) → used ≡ fresh_used i.blksize i.pages → IsStored (identity_of o) (record { clock = 0; next_job = 1; items = items }) (layout_in o.root slots) used
  made_stored is used used_are = rw (o_is, items_are, slots_are, used_are) (fresh_is_stored i is)

  pub made_stands : (h : List ℕ) → Stands i false fresh (fresh_layout i) h → Stands (identity_of o) o.second (record { clock = 0; next_job = 1; items = items }) (layout_in o.root slots) h
  made_stands h stands = rw (o_is, items_are, slots_are) stands
