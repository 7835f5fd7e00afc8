use Rattle.std.proofs.Common.{◌≡◌, take}
use Rattle.kdcfile_layout.specs.Writes.{total}
use Rattle.kdcfile_layout.proofs.commit.total_bytes.Given as goal

abbrev pub invariant-loop-write : goal.invariant-loop-write
invariant-loop-write l = l.sum ≡ total (take l.write-index l.writes)
