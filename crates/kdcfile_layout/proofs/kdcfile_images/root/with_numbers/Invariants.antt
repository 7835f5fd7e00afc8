use Rattle.std.proofs.Common.{◌≡◌, ◌+◌, ◌*◌, ◌-◌, ◌++◌, take, length}
use Rattle.std.specs.List.{flat_map}
use Rattle.std.specs.Int.{w32, to_be_bytes}
use Rattle.kdcfile_layout.specs.Layout.{zeros}
use Rattle.kdcfile_layout.proofs.kdcfile_images.root.with_numbers.Given as goal

abbrev pub invariant-loop-n : goal.invariant-loop-n
invariant-loop-n l = record {
  bytes : l.bytes.items ≡ (l.fn.head ++ flat_map (λ p. to_be_bytes w32 p) (take l.n l.pages)) ++ zeros (4 * (length l.pages - l.n));
  length : length (l.fn.head ++ flat_map (λ p. to_be_bytes w32 p) (take l.n l.pages)) ≡ l.from + 4 * l.n;
}
