use Rattle.std.proofs.Common.{◌≡◌, take}
use Rattle.std.specs.Prelude.{map}
use Rattle.record_codec.specs.Values.{record_change}
use Rattle.record_codec.proofs.encode.difference.Given as goal

abbrev pub invariant-loop-change : goal.invariant-loop-change
invariant-loop-change l = l.items ≡ map record_change (take l.change-index l.fn.changes.items)
