-- Writes of pages side by side, made as one.
use Rattle.std.specs.Prelude.{◌≡◌, ◌<◌, ◌≤◌, ◌+◌, ℕ, Bool, List, ◌++◌, length}
use Rattle.kdcfile_layout.specs.Places.{At}
use Rattle.kdcfile_layout.specs.Layout.{Layout}
use Rattle.kdcfile_layout.specs.declared.page.PageWrite.{PageWrite}
use Rattle.kdcfile_layout.specs.Writes.{written_all, total, AllBelow}
use Rattle.kdcfile_layout.specs.Crash.{AllFree}

-- the second write is of pages, and begins where the first ends
abbrev pub Follows : PageWrite → PageWrite → Type 0
Follows w v = (24576 ≤ w.at) × (v.at ≡ w.at + length w.bytes)

-- both as one
abbrev pub joined_write : PageWrite → PageWrite → PageWrite
joined_write w v = record { at = w.at; bytes = w.bytes ++ v.bytes }

-- no write follows the one before it
abbrev pub NoneFollows : List PageWrite → Type 0
NoneFollows vs = (k : ℕ) (w v : PageWrite) → At vs k w → At vs (k + 1) v → Follows w v → ⊥

-- as few writes as may be, which write the same bytes to the same places
pub record AreJoined (ws vs : List PageWrite) : Type 0 where
  pub holds : (h : List ℕ) → written_all h vs ≡ written_all h ws
  pub total : total vs ≡ total ws
  pub most : length vs ≤ length ws
  pub below : (end : ℕ) → AllBelow end ws → AllBelow end vs
  pub free : (size : ℕ) (second : Bool) (l : Layout) → 0 < size → AllFree size second l ws → AllFree size second l vs
  pub apart : NoneFollows vs
