use Rattle.carry_cli.proofs.seeing.see_half.Given as goal

abbrev pub ghosts-see_on-O-HalfOrigin : goal.ghosts-see_on-O-HalfOrigin
ghosts-see_on-O-HalfOrigin g a = record { half = a.half; leaves = g.T.Twin.leaves a.twin.now }

abbrev pub ghosts-see_on-O-Origin : goal.ghosts-see_on-O-Origin
ghosts-see_on-O-Origin g a = record { place = a.twin.ghost_name; both = g.T.Twin.both a.twin.now }
