-- A room of texts in memory, as contracts see it.
use Rattle.std.specs.Prelude.{◌⊎◌, ℕ, Bool, true, false, List, [], ◌∷◌, IsNone}
use Rattle.std.specs.List.{Contains}
use Rattle.kd_device.specs.Count.{raised}
use Rattle.kd_device.specs.Room.{RoomState, text_of}

pub record Texts : Type 0 where
  pub texts : List (List ℕ × List ℕ)  -- texts by name
  pub failing : List ℕ  -- the reads that fail, by their numbers, counted from 1
  pub made : ℕ  -- how many reads there were
  pub faults : ℕ

-- no read was made
abbrev pub unread : List (List ℕ × List ℕ) → List ℕ → Texts
unread texts failing = record { texts = texts; failing = failing; made = 0; faults = 0 }

abbrev pub is_empty : List ℕ → Bool
is_empty [] = true
is_empty (n ∷ ns) = false

abbrev pub room_of : Texts → RoomState
room_of m = record { told = true; texts = m.texts; sure = is_empty m.failing; faults = m.faults }

abbrev pub with_fault : Texts → Texts
with_fault m = record m { faults = raised m.faults }

-- the next read, of this name, fails
abbrev pub ReadFails : List ℕ → Texts → Type 0
ReadFails name m = Contains m.failing (raised m.made) ⊎ IsNone (text_of name m.texts)
