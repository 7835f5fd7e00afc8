use Rattle.std.proofs.Common.{◌≡◌, drop}
use Rattle.std.specs.Prelude.{find}
use Rattle.unit_read.specs.Keys.{begins_with}
use Rattle.unit_read.proofs.key.find_key.Given as goal

abbrev pub invariant-loop-key : goal.invariant-loop-key
invariant-loop-key l = find (begins_with l.words) (drop l.key-index l.keys) ≡ find (begins_with l.words) l.keys
