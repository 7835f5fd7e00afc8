use Rattle.laws_of_runs.proofs.Committed.{turns_make, commands_make, scripts_are_serial_runs, stops_leave_serial_runs}
use Rattle.laws_of_runs.proofs.scripts_are_serial_runs.Goals as goal

pub returns : goal.returns
returns c =
    let keeps = c.replays_hold_along_every_script.ensures.steps in
    let once = c.commits_make_the_tables.ensures.once in
    record { turns = turns_make; commands = commands_make; scripts = scripts_are_serial_runs keeps once; stops = stops_leave_serial_runs keeps once }
