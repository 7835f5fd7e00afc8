use Rattle.laws_of_states.specs.StatedLaws.{calls_keep, statements_keep}
use Rattle.laws_of_states.specs.OpeningsLaws.{further_runs_go_on, openings_go_on}
use Rattle.laws_of_states.proofs.laws_of_tables.transactions_go_on.Goals as goal

pub returns : goal.returns
returns c = record { calls = calls_keep; statements = statements_keep; runs = further_runs_go_on; openings = openings_go_on }
