-- Records that are charged no more than the pages that there are fit into the bytes of these pages.
use Rattle.std.specs.Prelude.{ℕ, ◌+◌, ◌*◌, ◌≤◌, List, length, sum_by}
use Rattle.kd_records.specs.Contents.{Record}
use Rattle.kd_records.specs.Charge.{IsBlockSize, total_charge}

-- the key, the length of the value and the value
abbrev pub record_length : Record → ℕ
record_length r = 29 + length r.1

-- so many records, each with its key and the length of its value, fit into the pages that they are charged
abbrev pub ChargedRecordsFit : Type 0
ChargedRecordsFit = (blksize pages : ℕ) (records : List Record) → IsBlockSize blksize → total_charge blksize records ≤ pages → 64 + sum_by record_length records ≤ 8192 + pages * blksize
