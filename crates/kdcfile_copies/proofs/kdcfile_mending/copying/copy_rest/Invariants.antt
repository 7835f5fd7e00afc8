use Rattle.std.proofs.Common.{◌≡◌, ◌-◌}
use Rattle.kdcfile_copies.proofs.kdcfile_mending.Run.{Copied}
use Rattle.kdcfile_copies.proofs.kdcfile_mending.copying.copy_rest.Given as goal

abbrev pub invariant-loop-at : goal.invariant-loop-at
invariant-loop-at g l =
    (g.T.Twin.place l.twin ≡ g.T.Twin.place l.fn.twin) × Copied l.target l.at l.end (g.T.Twin.both l.fn.twin) (g.T.Twin.both l.twin) (g.T.Twin.leaves l.fn.twin) (g.T.Twin.leaves l.twin)

abbrev pub decreases-loop-at : goal.decreases-loop-at
decreases-loop-at g l = l.end - l.at
