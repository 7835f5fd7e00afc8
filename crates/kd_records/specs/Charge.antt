-- How many pages records are charged.
use Rattle.std.specs.Prelude.{◌≡◌, ◌⊎◌, ℕ, ◌+◌, ◌-◌, ◌/◌, max, List, length, sum_by}
use Rattle.kd_records.specs.Contents.{Record}

-- the block sizes that there are
abbrev pub IsBlockSize : ℕ → Type 0
IsBlockSize blksize = (blksize ≡ 2048) ⊎ ((blksize ≡ 4096) ⊎ (blksize ≡ 8192))

-- a value of n bytes: each page but 48 of its bytes is payload, and a record has one page at least
abbrev pub charge_of : ℕ → ℕ → ℕ
charge_of blksize n = max 1 ((n + (blksize - 49)) / (blksize - 48))

-- all records together
abbrev pub total_charge : ℕ → List Record → ℕ
total_charge blksize records = sum_by (λ r. charge_of blksize (length r.1)) records
