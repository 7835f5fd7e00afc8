use Rattle.laws_of_states.specs.ReadyLaws.{opens_have_units, runs_are_ready, operands_are_short}
use Rattle.laws_of_states.proofs.laws_of_tables.runs_are_ready.Goals as goal

pub returns : goal.returns
returns c = record { units = opens_have_units; ready = runs_are_ready; operands = operands_are_short }
