-- Worked rows: a fresh file with BLKSIZE=2K and PGPOOL=16.
use Rattle.std.specs.Prelude.{replicate, ◌≡◌, ◌∷◌, [], length, drop}
use Rattle.kd_records.specs.Identity.{Identity}
use Rattle.kdcfile_layout.specs.Fresh.{made_with, fresh_length, fresh_layout, fresh_root}
use Rattle.kdcfile_layout.specs.Layout.{directory_pages, head}
use Rattle.kdcfile_layout.specs.Commit.{spelled_root}

abbrev pub small : Identity
small = made_with 2048 16 (replicate 32 0)

-- what was worked out by hand
pub record WorkedRows : Type 0 where
  pub one_directory_page : directory_pages 2048 16 ≡ 1
  pub most_directory_pages : directory_pages 2048 30000 ≡ 469
  pub bytes_of_small : fresh_length small ≡ 26624
  pub head_of_small : head small ≡ 75 ∷ 85 ∷ 84 ∷ 77 ∷ 75 ∷ 68 ∷ 67 ∷ 70 ∷ 2 ∷ 0 ∷ 0 ∷ 8 ∷ 0 ∷ []
  pub directory_of_small : (fresh_layout small).directory ≡ 0 ∷ []
  pub slots_of_small : length (fresh_layout small).slots ≡ 64
  pub root_of_small : drop 32 (spelled_root (fresh_root small)) ≡ 0 ∷ 0 ∷ 0 ∷ 0 ∷ 0 ∷ 0 ∷ 0 ∷ 0 ∷ 0 ∷ 0 ∷ 0 ∷ 0 ∷ 0 ∷ 0 ∷ 0 ∷ 1 ∷ 0 ∷ 0 ∷ 0 ∷ 16 ∷ 0 ∷ 0 ∷ 0 ∷ 1 ∷ 0 ∷ 0 ∷ 0 ∷ 0 ∷ 82 ∷ 79 ∷ 79 ∷ 84 ∷ 0 ∷ 0 ∷ 0 ∷ 0 ∷ []
