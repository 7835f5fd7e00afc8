-- What a KDCFILE is made with, and what no commit changes.
use Rattle.std.specs.Prelude.{◌≡◌, ◌⊎◌, ◌≤◌, ℕ, List, length}

pub record Identity : Type 0 where
  pub blksize : ℕ  -- BLKSIZE, in bytes
  pub pages : ℕ  -- PGPOOL, in pages
  pub fingerprint : List ℕ  -- of the texts that it was generated from

-- the block sizes that there are, the page pools, and a fingerprint of 32 bytes
pub record IsIdentity (i : Identity) : Type 0 where
  pub blksize : (i.blksize ≡ 2048) ⊎ ((i.blksize ≡ 4096) ⊎ (i.blksize ≡ 8192))
  pub least : 16 ≤ i.pages
  pub most : i.pages ≤ 30000
  pub fingerprint : length i.fingerprint ≡ 32
