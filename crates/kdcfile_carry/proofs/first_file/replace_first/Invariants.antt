use Rattle.kd_device.specs.declared.half.Half.TheVariants.{First}
use Rattle.kdcfile_carry.proofs.first_file.replace_first.Given as goal

abbrev pub ghosts-replace_on-O-HalfOrigin : goal.ghosts-replace_on-O-HalfOrigin
ghosts-replace_on-O-HalfOrigin g a = record { half = First; leaves = g.T.Twin.leaves a.twin.now }

abbrev pub ghosts-replace_on-O-Origin : goal.ghosts-replace_on-O-Origin
ghosts-replace_on-O-Origin g a = record { place = a.twin.ghost_name; both = g.T.Twin.both a.twin.now }
