use Rattle.trail_run.proofs.laws_of_trails.HoldsAlong.{StepLaws, entries_hold}
use Rattle.trail_run.proofs.laws_of_trails.own_entries_hold.Goals as goal

pub returns : goal.returns
returns c =
    let laws : StepLaws =
    record {
      keep = c.replays_hold_along_every_script.ensures.steps;
      turns_once = c.steps_commit_once.ensures.turns;
      commands_once = c.steps_commit_once.ensures.commands;
      turns_do = c.makers_say_what_commits_do.ensures.turns;
      commands_do = c.makers_say_what_commits_do.ensures.commands;
      turns_make = c.scripts_are_serial_runs.ensures.turns;
      commands_make = c.scripts_are_serial_runs.ensures.commands;
    } in
    λ app t script can. entries_hold laws app t script can.application can.commands can.order can.suits
