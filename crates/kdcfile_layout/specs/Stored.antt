-- What is known, on any device, of a content and where its records are.
use Rattle.std.specs.Prelude.{◌≡◌, ℕ, ◌+◌, Bool, true, List, length}
use Rattle.kd_records.specs.declared.content.Content.{Content}
use Rattle.kd_records.specs.Contents.{IsContent}
use Rattle.kd_records.specs.Charge.{total_charge}
use Rattle.kd_records.specs.Identity.{Identity, IsIdentity}
use Rattle.kdcfile_layout.specs.Places.{At}
use Rattle.kdcfile_layout.specs.Pools.{free_count}
use Rattle.kdcfile_layout.specs.Layout.{Layout, IsLayout, Name, Names, chain_pages, directory_pages, page_count}

-- the layout is one of this content, as many pages are free as are not named, and each named page is used
pub record IsStored (i : Identity) (x : Content) (l : Layout) (used : List Bool) : Type 0 where
  pub identity : IsIdentity i
  pub content : IsContent x
  pub layout : IsLayout i.blksize i.pages x.items l
  pub charged : chain_pages l.slots ≡ total_charge i.blksize x.items
  pub pages : length used ≡ page_count i.blksize i.pages
  pub named : (u : Name) (p : ℕ) → Names l u p → At used p true
  pub free : free_count used + directory_pages i.blksize i.pages + total_charge i.blksize x.items ≡ page_count i.blksize i.pages
