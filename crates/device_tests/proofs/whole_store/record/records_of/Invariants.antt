use Rattle.std.proofs.Common.{◌≡◌, ◌-◌, None}
use Rattle.kd_base.specs.Tools.{onto}
use Rattle.device_tests.specs.Reading.{records_of}
use Rattle.device_tests.proofs.whole_store.record.records_of.Given as goal

abbrev pub invariant-loop : goal.invariant-loop
invariant-loop l = onto l.records (records_of l.previous (l.fn.count - l.counter) l.left) ≡ records_of None l.fn.count l.fn.image
