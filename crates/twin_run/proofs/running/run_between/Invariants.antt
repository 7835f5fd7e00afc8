use Rattle.twin_run.proofs.running.run_between.Given as goal

abbrev pub ghosts-run_on-S-Start : goal.ghosts-run_on-S-Start
ghosts-run_on-S-Start g a = record { store = a.store }

abbrev pub ghosts-run_on-S-Origin : goal.ghosts-run_on-S-Origin
ghosts-run_on-S-Origin g a = record { place = a.twin.ghost_name; both = g.T.Twin.both a.twin.now }
