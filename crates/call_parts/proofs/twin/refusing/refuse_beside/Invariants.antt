use Rattle.kd_device.specs.declared.half.Half.TheVariants.{First}
use Rattle.call_parts.proofs.twin.refusing.refuse_beside.Given as goal

abbrev pub ghosts-refuse_on-O-HalfOrigin : goal.ghosts-refuse_on-O-HalfOrigin
ghosts-refuse_on-O-HalfOrigin g a = record { half = First; leaves = g.T.Twin.leaves a.twin.now }

abbrev pub ghosts-refuse_on-O-Origin : goal.ghosts-refuse_on-O-Origin
ghosts-refuse_on-O-Origin g a = record { place = a.twin.ghost_name; both = g.T.Twin.both a.twin.now }
