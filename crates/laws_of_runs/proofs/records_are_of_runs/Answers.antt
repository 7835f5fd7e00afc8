use Rattle.laws_of_runs.proofs.Notes.{commits_begin, records_have_made_notes}
use Rattle.laws_of_runs.proofs.records_are_of_runs.Goals as goal

pub returns : goal.returns
returns c = record { began = commits_begin; notes = records_have_made_notes }
