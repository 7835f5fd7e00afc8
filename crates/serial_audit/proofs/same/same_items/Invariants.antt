use Rattle.std.specs.Prelude.{◌≡◌, drop}
use Rattle.std.specs.Cmp.Lexicographic.{pointwise}
use Rattle.serial_audit.specs.Same.{change_eq}
use Rattle.serial_audit.proofs.same.same_items.Given as goal

abbrev pub invariant-loop-change : goal.invariant-loop-change
invariant-loop-change l = pointwise change_eq l.a l.b ≡ pointwise change_eq (drop l.change-index l.a) l.rest
