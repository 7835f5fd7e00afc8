use Rattle.trail_run.proofs.laws_of_trails.WrittenTrails.{entries_are_short, trails_are_writable}
use Rattle.trail_run.proofs.laws_of_trails.own_trails_are_written.Goals as goal

pub returns : goal.returns
returns c =
    let steps = c.replays_hold_along_every_script.ensures.steps in
    let once = c.commits_make_the_tables.ensures.once in
    record { short = entries_are_short steps once; writable = trails_are_writable steps once }
