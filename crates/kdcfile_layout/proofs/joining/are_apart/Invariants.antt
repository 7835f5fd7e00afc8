use Rattle.std.proofs.Common.{ℕ, ◌+◌, ◌<◌}
use Rattle.kdcfile_layout.specs.declared.page.PageWrite.{PageWrite}
use Rattle.kdcfile_layout.specs.Places.{At}
use Rattle.kdcfile_layout.specs.Joined.{Follows}
use Rattle.kdcfile_layout.proofs.joining.are_apart.Given as goal

abbrev pub invariant-loop-n : goal.invariant-loop-n
invariant-loop-n l = (k : ℕ) (w v : PageWrite) → k + 1 < l.n → At l.writes k w → At l.writes (k + 1) v → Follows w v → ⊥
