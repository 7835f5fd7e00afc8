use Rattle.abstract_monitor.specs.KeepsReadyLaws.{steps_stay_ready, answers_stay_ready}
use Rattle.service_parts.proofs.unit_step.laws.runs_stay_ready.Goals as goal

pub returns : goal.returns
returns c = record { steps = steps_stay_ready; answers = answers_stay_ready }
