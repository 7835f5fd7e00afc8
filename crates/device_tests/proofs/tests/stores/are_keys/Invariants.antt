use Rattle.std.proofs.Common.{take}
use Rattle.std.specs.Prelude.{All}
use Rattle.kd_records.specs.Contents.{Change, IsKey}
use Rattle.device_tests.proofs.tests.stores.are_keys.Given as goal

abbrev pub invariant-loop-item : goal.invariant-loop-item
invariant-loop-item l = All (λ (c : Change). IsKey c.0) (take l.item-index l.items)
