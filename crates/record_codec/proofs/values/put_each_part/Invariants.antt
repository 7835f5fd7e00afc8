use Rattle.std.proofs.Common.{◌≡◌, ◌++◌, take}
use Rattle.std.specs.Prelude.{flat_map}
use Rattle.kd_base.specs.Field.{list}
use Rattle.record_codec.proofs.values.put_each_part.Given as goal

abbrev pub invariant-loop-part : goal.invariant-loop-part
invariant-loop-part l = l.w ≡ l.initial.w ++ flat_map list (take l.part-index l.parts)
