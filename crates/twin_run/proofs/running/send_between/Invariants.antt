use Rattle.twin_run.proofs.running.send_between.Given as goal

abbrev pub ghosts-send_on-S-Start : goal.ghosts-send_on-S-Start
ghosts-send_on-S-Start g a = record { store = a.store }

abbrev pub ghosts-send_on-S-Origin : goal.ghosts-send_on-S-Origin
ghosts-send_on-S-Origin g a = record { place = a.twin.ghost_name; both = g.T.Twin.both a.twin.now }
