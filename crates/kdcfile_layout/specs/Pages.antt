-- Pages that are written, and what is in the others.
use Rattle.std.proofs.Common.{ℕ, ◌+◌, ◌-◌, ◌≤◌, Bool, List, ◌++◌, length}
use Rattle.std.specs.Prelude.{map, nat_le, if◌then◌else◌}
use Rattle.kdcfile_layout.specs.declared.page.PageWrite.{PageWrite}
use Rattle.kdcfile_layout.specs.Layout.{Part, page_place, zeros}

-- a page with this at its front, filled with zero bytes
abbrev pub padded : ℕ → List ℕ → List ℕ
padded size text = text ++ zeros (size - length text)

-- a whole page
abbrev pub page_write : ℕ → Part → PageWrite
page_write size part = record { at = page_place size part.0; bytes = padded size part.1 }

-- what is written of a page: what is at its front, where the file has the page already, and else the whole page
abbrev pub front_or_whole : ℕ → List ℕ → Bool → List ℕ
front_or_whole size text there = if there then text else padded size text

abbrev pub write_where : ℕ → Part → Bool → PageWrite
write_where size part there = record { at = page_place size part.0; bytes = front_or_whole size part.1 there }

-- the same, in a file that has so many bytes
abbrev pub part_write : ℕ → ℕ → Part → PageWrite
part_write size long part = write_where size part (nat_le (page_place size part.0 + size) long)

abbrev pub part_writes : ℕ → ℕ → List Part → List PageWrite
part_writes size long parts = map (λ p. part_write size long p) parts

-- the part fits in a page
abbrev pub Fits : ℕ → Part → Type 0
Fits size part = length part.1 ≤ size

-- the page numbers of parts
abbrev pub pages_of : List Part → List ℕ
pages_of parts = map (λ (p : Part). p.0) parts
