use Rattle.std.proofs.Common.{◌≡◌, ◌+◌, take}
use Rattle.kd_records.specs.Charge.{total_charge}
use Rattle.device_tests.proofs.tests.stores.fit.Given as goal

abbrev pub invariant-loop-item : goal.invariant-loop-item
invariant-loop-item l = l.left + total_charge 2048 (take l.item-index l.items) ≡ 16
