-- What is known of a file that was made or loaded: its selected image.
use Rattle.std.specs.Prelude.{◌≡◌, ℕ, Bool, List, length, Option}
use Rattle.kd_records.specs.declared.content.Content.{Content}
use Rattle.kd_records.specs.Identity.{Identity, IsIdentity}
use Rattle.kdcfile_layout.specs.declared.chain.Chain.{Chain}
use Rattle.kdcfile_layout.specs.Layout.{Layout, directory_pages}
use Rattle.kdcfile_layout.specs.declared.kdcfile_images.image.Root.{Root}

-- the selected image of a file: its block size, its root, and whether it is image B
pub record Opened : Type 0 where
  pub blksize : ℕ
  pub root : Root
  pub second : Bool

-- what the file was made with
abbrev pub identity_of : Opened → Identity
identity_of i = record { blksize = i.blksize; pages = i.root.pgpool; fingerprint = i.root.fingerprint }

-- what the file is made with once this root is in it: its block size, and the page pool and the fingerprint of the root
abbrev pub renewed : Opened → Root → Identity
renewed i root = record { blksize = i.blksize; pages = root.pgpool; fingerprint = root.fingerprint }

-- the sizes are those that a file may have, and the root has the numbers of all pages of the directory
pub record IsOpened (i : Opened) : Type 0 where
  pub identity : IsIdentity (identity_of i)
  pub directory : length i.root.directory ≡ directory_pages i.blksize i.root.pgpool

-- where all is, in an image with these slots
abbrev pub layout_in : Root → List (Option Chain) → Layout
layout_in root slots = record { directory = root.directory; slots = slots }

-- the root of an image of this content, whose directory has these pages
abbrev pub root_for : Identity → Content → List ℕ → Root
root_for i x directory = record { fingerprint = i.fingerprint; clock = x.clock; next_job = x.next_job; pgpool = i.pages; directory = directory; records = length x.items }
