use Rattle.live_cli.proofs.double.live_between.Given as goal

abbrev pub ghosts-live_on-S-Start : goal.ghosts-live_on-S-Start
ghosts-live_on-S-Start g a = record { store = a.store }

abbrev pub ghosts-live_on-S-Origin : goal.ghosts-live_on-S-Origin
ghosts-live_on-S-Origin g a = record { place = a.twin.ghost_name; both = g.T.Twin.both a.twin.now }
