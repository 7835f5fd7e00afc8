-- The steps of a draft: a record that is put, a record that is removed, a directory page that is written.
use Rattle.std.proofs.Common.{ℕ, ◌≤◌, List, length, take, drop, Option, Some, None}
use Rattle.kdcfile_layout.specs.declared.page.PageWrite.{PageWrite}
use Rattle.kdcfile_layout.specs.Writes.{written_all}

-- so many pages of the plan from t on
abbrev pub next_pages : List ℕ → ℕ → ℕ → List ℕ
next_pages plan t n = take n (drop t plan)

-- ---- a file after writes, where it is known

abbrev pub after : Option (List ℕ) → List PageWrite → Option (List ℕ)
after None ws = None
after (Some h) ws = Some (written_all h ws)

-- it has so many bytes
abbrev pub HasLength : ℕ → Option (List ℕ) → Type 0
HasLength n None = Unit {0}
HasLength n (Some h) = n ≤ length h
