use Rattle.kdcfile_copies.proofs.kdcfile_halves.committing.commit_half.Given as goal

abbrev pub ghosts-commit_on-O-HalfOrigin : goal.ghosts-commit_on-O-HalfOrigin
ghosts-commit_on-O-HalfOrigin g a = record { half = a.half; leaves = g.T.Twin.leaves a.twin.now }

abbrev pub ghosts-commit_on-O-Origin : goal.ghosts-commit_on-O-Origin
ghosts-commit_on-O-Origin g a = record { place = a.twin.ghost_name; both = g.T.Twin.both a.twin.now }
