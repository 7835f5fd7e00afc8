use Rattle.laws_of_states.specs.AlongLaws.{holds_along}
use Rattle.laws_of_runs.specs.SerialLaws.{HasReplays}
use Rattle.laws_of_runs.proofs.Along.{replays_are_records, steps_keep}
use Rattle.laws_of_runs.proofs.replays_hold_along_every_script.Goals as goal

pub returns : goal.returns
returns c =
    let steps = steps_keep (c.facts_hold_along.ensures.steps c.states_stay_sound.ensures) in
    record { steps = steps; scripts = holds_along HasReplays steps; records = replays_are_records }
