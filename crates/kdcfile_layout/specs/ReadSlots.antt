-- Slots that are written, and slots that are read.
use Rattle.std.proofs.Common.{◌≡◌, ℕ, ◌<◌, ◌^◌, List, ◌++◌, length, Option, Some, None}
use Rattle.std.specs.Prelude.{All, map}
use Rattle.std.specs.List.{flat_map}
use Rattle.kdcfile_layout.specs.Fields.{AreBytes}
use Rattle.kdcfile_layout.specs.declared.chain.Chain.{Chain}
use Rattle.kdcfile_layout.specs.Layout.{spelled_slot, first_of_pages}
use Rattle.kdcfile_layout.specs.Slots.{first_in, slots_of}

-- a slot that can be written: a free one, or a key of a kind from 1 with a page
abbrev pub IsSlot : Option Chain → Type 0
IsSlot None = Unit {0}
IsSlot (Some c) = (0 < c.key.kind) × (length c.key.bytes ≡ 24) × (first_of_pages c.pages < 2 ^ 32)

-- what is written is read
abbrev pub SlotsAreRead : Type 0
SlotsAreRead = (slots : List (Option Chain)) (tail : List ℕ) → All IsSlot slots → slots_of (length slots) (flat_map spelled_slot slots ++ tail) ≡ Some (map first_in slots)

-- what is read is written so
abbrev pub ReadSlotsStand : Type 0
ReadSlotsStand = (slots : List (Option Chain)) (n : ℕ) (page : List ℕ) → AreBytes page → slots_of n page ≡ Some (map first_in slots) → (length slots ≡ n) × ((tail : List ℕ) × (page ≡ flat_map spelled_slot slots ++ tail))
