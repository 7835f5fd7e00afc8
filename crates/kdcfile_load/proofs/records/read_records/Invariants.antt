use Rattle.std.proofs.Common.{◌≡◌, drop}
use Rattle.std.specs.Prelude.{IsTrue}
use Rattle.kdcfile_load.specs.Reads.{records_from, none_yet, IsGathering}
use Rattle.kdcfile_load.proofs.Rested.{Rested}
use Rattle.kdcfile_load.proofs.records.read_records.Given as goal

abbrev pub invariant-loop-slot : goal.invariant-loop-slot
invariant-loop-slot g l = record {
  rested : Rested (g.D.Device.state l.fn.device) (g.D.Device.state l.device) (g.D.Device.leaves l.fn.device) (g.D.Device.leaves l.device);
  gathered : IsGathering l.size l.slot-index l.so_far;
  read : IsTrue (g.D.Device.state l.fn.device).told → records_from l.size l.count (g.D.Device.state l.fn.device).holds l.so_far (drop l.slot-index l.slots) ≡ records_from l.size l.count (g.D.Device.state l.fn.device).holds (none_yet l.count) l.slots;
}
