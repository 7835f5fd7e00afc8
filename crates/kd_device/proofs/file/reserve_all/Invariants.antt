use Rattle.std.proofs.Common.{ℕ, ◌≤◌, ◌<◌, get_or}
use Rattle.kd_device.specs.Recording.{SameFiles, ends_of}
use Rattle.kd_device.proofs.file.reserve_all.Given as goal

abbrev pub invariant-loop-i : goal.invariant-loop-i
invariant-loop-i l =
    record { same : SameFiles l.initial.files.items l.files.items; room : (k : ℕ) → k < l.i → l.end ≤ get_or (ends_of l.files.items) k 0 }
