use Rattle.kd_device.specs.declared.half.Half.TheVariants.{First}
use Rattle.utm_cli.proofs.twin.beside.run_first.Given as goal

abbrev pub ghosts-run_on-O-HalfOrigin : goal.ghosts-run_on-O-HalfOrigin
ghosts-run_on-O-HalfOrigin g a = record { half = First; leaves = g.T.Twin.leaves a.twin.now }

abbrev pub ghosts-run_on-O-Origin : goal.ghosts-run_on-O-Origin
ghosts-run_on-O-Origin g a = record { place = a.twin.ghost_name; both = g.T.Twin.both a.twin.now }
