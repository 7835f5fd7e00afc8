use Rattle.std.proofs.Common.{◌≡◌, ◌*◌, ◌-◌, ◌++◌, take, length}
use Rattle.std.specs.List.{flat_map}
use Rattle.kdcfile_layout.specs.Layout.{zeros, spelled_slot}
use Rattle.kdcfile_layout.proofs.spell.slots_page.Given as goal

abbrev pub invariant-loop-n : goal.invariant-loop-n
invariant-loop-n l = record {
  bytes : l.page.items ≡ flat_map spelled_slot (take l.n l.slots) ++ zeros (l.size - 32 * l.n);
  length : length (flat_map spelled_slot (take l.n l.slots)) ≡ 32 * l.n;
}
