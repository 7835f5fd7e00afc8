-- What the beginning of a file says.
use Rattle.std.specs.Prelude.{◌≡◌, ◌≤◌, ◌<◌, ◌^◌, ℕ, List, length, Some}
use Rattle.kd_records.specs.Charge.{IsBlockSize}
use Rattle.kdcfile_layout.specs.Fields.{AreBytes}
use Rattle.kdcfile_layout.specs.Layout.{directory_pages, page_count}
use Rattle.kdcfile_layout.specs.declared.kdcfile_read.root.RootFields.{RootFields}
use Rattle.kdcfile_layout.specs.Reading.{head_of, root_of, numbers_of}
use Rattle.kdcfile_layout.specs.Reads.{front_in, root_in, numbers_in}
use Rattle.kdcfile_load.specs.declared.opening.Opening.{Opening}

-- numbers that a root can have
pub record IsRoot (r : RootFields) : Type 0 where
  pub fingerprint : length r.fingerprint ≡ 32
  pub clock : r.clock < 2 ^ 64
  pub next_job : r.next_job < 2 ^ 64
  pub least : 16 ≤ r.pgpool
  pub most : r.pgpool ≤ 30000
  pub records : r.records < 2 ^ 32

abbrev pub directory_length : Opening → ℕ
directory_length p = directory_pages p.head.blksize p.root.pgpool

abbrev pub pages_of_file : Opening → ℕ
pages_of_file p = page_count p.head.blksize p.root.pgpool

-- a beginning that a file can have
pub record IsOpening (p : Opening) : Type 0 where
  pub block : IsBlockSize p.head.blksize
  pub root : IsRoot p.root
  pub directory : length p.directory ≡ directory_length p

-- the file begins so
pub record Opens (h : List ℕ) (p : Opening) : Type 0 where
  pub head : head_of (front_in h) ≡ Some p.head
  pub root : root_of p.head.blksize (root_in p.head.second h) ≡ Some p.root
  pub numbers : numbers_of (directory_length p) (numbers_in (directory_length p) p.head.second h) ≡ Some p.directory
  pub head_bytes : AreBytes (front_in h)
  pub root_bytes : AreBytes (root_in p.head.second h)
  pub number_bytes : AreBytes (numbers_in (directory_length p) p.head.second h)
