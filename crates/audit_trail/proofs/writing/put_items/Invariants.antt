use Rattle.std.proofs.Common.{◌≡◌, ◌++◌, take, All}
use Rattle.std.specs.Prelude.{flat_map}
use Rattle.audit_trail.specs.Printed.{change_line}
use Rattle.audit_trail.specs.Written.{AreChangeBytes}
use Rattle.audit_trail.proofs.writing.put_items.Given as goal

abbrev pub invariant-loop-item : goal.invariant-loop-item
invariant-loop-item l = record {
  put : l.out ≡ l.initial.out ++ flat_map change_line (take l.item-index l.items);
  bytes : All AreChangeBytes (take l.item-index l.items);
}
