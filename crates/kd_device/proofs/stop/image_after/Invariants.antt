use Rattle.std.proofs.Common.{◌≡◌, take}
use Rattle.kd_device.specs.History.{Moment, StopLeaves, AllDone, after, fresh}
use Rattle.kd_device.specs.Recording.{events}
use Rattle.kd_device.proofs.stop.image_after.Given as goal

abbrev pub invariant-loop-call : goal.invariant-loop-call
invariant-loop-call l =
    record {
      bytes : (s : Moment) → s.disk l.disk ≡ fresh l.start → l.bytes.items ≡ ((after s (events l.kept (take l.call-index l.calls))).disk l.disk).bytes;
      image : (s : Moment) → s.disk l.disk ≡ fresh l.start → StopLeaves ((after s (events l.kept (take l.call-index l.calls))).disk l.disk) l.image.items;
      zero : l.choice ≡ 0 → l.digits ≡ 0;
      one : l.choice ≡ 1 → l.digits ≡ 1;
      old : l.choice ≡ 0 → (s : Moment) → s.disk l.disk ≡ fresh l.start → l.image.items ≡ ((after s (events l.kept (take l.call-index l.calls))).disk l.disk).base;
      new : l.choice ≡ 1 → AllDone (events l.kept l.calls) → l.image.items ≡ l.bytes.items;
    }
