use Rattle.kd_device.specs.declared.half.Half.TheVariants.{First}
use Rattle.live_cli.proofs.half.live_first.Given as goal

abbrev pub ghosts-live_on-O-HalfOrigin : goal.ghosts-live_on-O-HalfOrigin
ghosts-live_on-O-HalfOrigin g a = record { half = First; leaves = g.T.Twin.leaves a.twin.now }

abbrev pub ghosts-live_on-O-Origin : goal.ghosts-live_on-O-Origin
ghosts-live_on-O-Origin g a = record { place = a.twin.ghost_name; both = g.T.Twin.both a.twin.now }
