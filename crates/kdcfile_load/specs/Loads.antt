-- The image that a file's beginning and its slots make.
use Rattle.std.specs.Prelude.{◌≡◌, true, [], ◌++◌, length}
use Rattle.kdcfile_layout.specs.Pools.{flagged}
use Rattle.kd_records.specs.declared.content.Content.{Content}
use Rattle.kdcfile_layout.specs.declared.kdcfile_images.image.Root.{Root}
use Rattle.kdcfile_layout.specs.Opened.{Opened}
use Rattle.kdcfile_load.specs.Gathers.{gathered, AreNew}
use Rattle.kdcfile_load.specs.Marks.{AreClear, pages_in, all_free}
use Rattle.kdcfile_load.specs.Openings.{pages_of_file}
use Rattle.kdcfile_load.specs.declared.opening.Opening.{Opening}
use Rattle.kdcfile_load.specs.declared.records.Gathering.{Gathering}
use Rattle.kdcfile_load.specs.declared.loading.Loaded.{Loaded}

-- as many records as the root says, no key twice, and no page that is not there or is named twice
pub record IsSound (p : Opening) (g : Gathering) : Type 0 where
  pub number : length g.records ≡ p.root.records
  pub new : AreNew [] g.records
  pub clear : AreClear (all_free (pages_of_file p)) (p.directory ++ pages_in g.slots)

abbrev pub root_with : Opening → Root
root_with p = record { fingerprint = p.root.fingerprint; clock = p.root.clock; next_job = p.root.next_job; pgpool = p.root.pgpool; directory = p.directory; records = p.root.records }

abbrev pub image_with : Opening → Opened
image_with p = record { blksize = p.head.blksize; root = root_with p; second = p.head.second }

abbrev pub content_with : Opening → Gathering → Content
content_with p g = record { clock = p.root.clock; next_job = p.root.next_job; items = gathered [] g.records }

abbrev pub loaded_with : Opening → Gathering → Loaded
loaded_with p g = record { image = image_with p; slots = g.slots; content = content_with p g; pool = flagged true (all_free (pages_of_file p)) (p.directory ++ pages_in g.slots) }
