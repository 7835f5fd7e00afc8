use Rattle.std.proofs.Common.{◌≡◌, ◌+◌, ◌≤◌, length, take}
use Rattle.std.specs.List.{suffix_len}
use Rattle.kd_base.specs.Text.{is_space}
use Rattle.kd_base.proofs.text.trim_end.Given as goal

abbrev pub invariant-loop-n : goal.invariant-loop-n
invariant-loop-n l = record {
  within : l.n ≤ length l.bytes;
  spaces : l.n + suffix_len is_space l.bytes ≡ length l.bytes + suffix_len is_space (take l.n l.bytes);
}

abbrev pub decreases-loop-n : goal.decreases-loop-n
decreases-loop-n l = l.n
