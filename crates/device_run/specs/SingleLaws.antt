-- What one file keeps, as what any files keep.
use Rattle.std.proofs.Common.{◌≤◌, arith}
use Rattle.kd_records.specs.Identity.{Identity}
use Rattle.kd_records.specs.declared.content.Content.{Content}
use Rattle.kd_records.specs.declared.content.Patch.{Patch}
use Rattle.kdcfile_layout.specs.Bound.{write_bound}
use Rattle.kdcfile_store.specs.Kept.{write_most}

pub single_bound : (i : Identity) (x : Content) (patch : Patch) → write_most i x patch ≤ write_bound i patch
single_bound i x patch = omega arith
