use Rattle.kdcfile_layout.specs.ReadSlotsLaws.{slots_are_read, read_slots_stand}
use Rattle.kdcfile_layout.proofs.kdcfile_read.laws.slots.Goals as goal

pub returns : goal.returns
returns c = record { written = slots_are_read; read = read_slots_stand }
