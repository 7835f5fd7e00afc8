use Rattle.kdcfile_copies.proofs.kdcfile_halves.loading.load_half.Given as goal

abbrev pub ghosts-load_on-O-HalfOrigin : goal.ghosts-load_on-O-HalfOrigin
ghosts-load_on-O-HalfOrigin g a = record { half = a.half; leaves = g.T.Twin.leaves a.twin.now }

abbrev pub ghosts-load_on-O-Origin : goal.ghosts-load_on-O-Origin
ghosts-load_on-O-Origin g a = record { place = a.twin.ghost_name; both = g.T.Twin.both a.twin.now }
