use Rattle.std.proofs.Common.{◌≡◌}
use Rattle.std.specs.Prelude.{IsTrue}
use Rattle.kd_device.specs.Memory.{state_of, leaves_of}
use Rattle.kdcfile_store.specs.Kept.{IsKept}
use Rattle.device_tests.proofs.tests.stores.run.Given as goal

abbrev pub invariant-loop-number : goal.invariant-loop-number
invariant-loop-number g l = record {
  blksize : (g.S.Store.identity l.store).blksize ≡ 2048;
  pages : (g.S.Store.identity l.store).pages ≡ 16;
  told : IsTrue (state_of l.device).told;
  kept : IsKept (g.S.Store.file l.store) (state_of l.device) (leaves_of l.device);
}
