-- What is read of the texts of a room.
use Rattle.std.specs.Prelude.{◌≡◌, ℕ, List, take}
use Rattle.kd_device.specs.Room.{RoomState}

-- what is read of a text: all of it, or one byte more than the limit
abbrev pub shown_of : List ℕ → List ℕ
shown_of text = take 16777217 text

-- no read of the room failed
abbrev pub NoReadFailed : (old new : RoomState) → Type 0
NoReadFailed old new = new.faults ≡ old.faults
