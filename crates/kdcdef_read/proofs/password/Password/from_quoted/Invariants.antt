use Rattle.std.proofs.Common.{◌≡◌, ◌++◌, ◌≤◌, length, take}
use Rattle.kdcdef_read.proofs.password.Password.from_quoted.Given as goal

abbrev pub invariant-loop-byte : goal.invariant-loop-byte
invariant-loop-byte l = record {
  so_far : take l.used l.cells ++ l.left ≡ l.bytes;
  used : l.used ≤ 16;
  size : length l.cells ≡ 16;
}

abbrev pub decreases-loop-byte : goal.decreases-loop-byte
decreases-loop-byte l = length l.left
