-- What is known of a file, and the content that a root has with its records.
use Rattle.std.specs.Prelude.{ℕ, Bool, List}
use Rattle.kd_records.specs.declared.content.Content.{Content}
use Rattle.kd_records.specs.Contents.{Record}
use Rattle.kd_records.specs.Identity.{Identity}
use Rattle.device_tests.specs.declared.whole_store.image.Root.{Root}

-- the selected image of a file: its block size, its root, and whether it is image B
pub record Opened : Type 0 where
  pub blksize : ℕ
  pub root : Root
  pub second : Bool

-- what the file was made with
abbrev pub identity_of : Opened → Identity
identity_of i = record { blksize = i.blksize; pages = i.root.pgpool; fingerprint = i.root.fingerprint }

-- what the file is made with once this root is in it: its sizes, and the fingerprint of the root
abbrev pub renewed : Opened → Root → Identity
renewed i root = record (identity_of i) { fingerprint = root.fingerprint }

-- the content of an image with this root and these records
abbrev pub content_in : Root → List Record → Content
content_in root records = record { clock = root.clock; next_job = root.next_job; items = records }
