-- How many bytes a commit writes at most.
use Rattle.std.specs.Prelude.{ℕ, ◌+◌, ◌*◌, List, length, Option, Some, None, sum_by}
use Rattle.kd_records.specs.declared.content.Patch.{Patch}
use Rattle.kd_records.specs.Contents.{Change}
use Rattle.kd_records.specs.Charge.{charge_of}
use Rattle.kd_records.specs.Identity.{Identity}
use Rattle.kdcfile_layout.specs.Layout.{directory_pages}

-- the pages of a new value, if there is one
abbrev pub charge_put : ℕ → Option (List ℕ) → ℕ
charge_put size None = 0
charge_put size (Some value) = charge_of size (length value)

-- the pages of all new values
abbrev pub put_charge : ℕ → List Change → ℕ
put_charge size changes = sum_by (λ (c : Change). charge_put size c.1) changes

-- a page for each page of the new values and for each change, 64 bytes of the root with the numbers of the directory's
-- pages, and 1 of the selector
abbrev pub write_bound : Identity → Patch → ℕ
write_bound i patch = i.blksize * (put_charge i.blksize patch.items + length patch.items) + 64 + 4 * directory_pages i.blksize i.pages + 1
