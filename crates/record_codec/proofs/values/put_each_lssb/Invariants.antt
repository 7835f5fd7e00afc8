use Rattle.std.proofs.Common.{◌≡◌, ◌++◌, take}
use Rattle.std.specs.Prelude.{flat_map}
use Rattle.record_codec.specs.Values.{lssb_bytes}
use Rattle.record_codec.proofs.values.put_each_lssb.Given as goal

abbrev pub invariant-loop-lssb : goal.invariant-loop-lssb
invariant-loop-lssb l = l.w ≡ l.initial.w ++ flat_map lssb_bytes (take l.lssb-index l.lssbs)
