use Rattle.std.proofs.Common.{◌≡◌, ◌++◌, take}
use Rattle.std.specs.Prelude.{flat_map}
use Rattle.kd_base.specs.Field.{list}
use Rattle.audit_trail.proofs.kept.put_inputs.Given as goal

abbrev pub invariant-loop-input : goal.invariant-loop-input
invariant-loop-input l = l.out ≡ l.initial.out ++ flat_map list (take l.input-index l.inputs)
