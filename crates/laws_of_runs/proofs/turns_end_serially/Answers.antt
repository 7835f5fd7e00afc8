use Rattle.laws_of_runs.proofs.Settling.{turns_are_serial}
use Rattle.laws_of_runs.proofs.turns_end_serially.Goals as goal

pub returns : goal.returns
returns c = turns_are_serial
