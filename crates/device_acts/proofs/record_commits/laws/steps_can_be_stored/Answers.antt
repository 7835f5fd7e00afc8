use Rattle.device_acts.specs.StoredLaws.{commands_stored, turns_stored}
use Rattle.device_acts.proofs.record_commits.laws.steps_can_be_stored.Goals as goal

pub returns-clause-turns : goal.returns-clause-turns
returns-clause-turns c = turns_stored c.steps_commit_once.ensures.turns c.states_stay_sound.ensures

pub returns-clause-commands : goal.returns-clause-commands
returns-clause-commands c = commands_stored c.steps_commit_once.ensures.commands c.states_stay_sound.ensures
