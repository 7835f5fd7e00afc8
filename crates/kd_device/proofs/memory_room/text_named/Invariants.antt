use Rattle.std.proofs.Common.{◌≡◌, drop}
use Rattle.kd_device.specs.Room.{text_of}
use Rattle.kd_device.proofs.memory_room.text_named.Given as goal

abbrev pub invariant-loop-key : goal.invariant-loop-key
invariant-loop-key l = text_of l.name l.texts ≡ text_of l.name (drop l.key-index l.texts)
