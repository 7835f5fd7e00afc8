use Rattle.std.specs.Prelude.{refl}
use Rattle.laws_of_runs.proofs.Frames.{still_replays}
use Rattle.laws_of_runs.proofs.Openings.{start_replays, awaited_replays, dialogue_row_replays, asynchronous_row_replays, job_replays}
use Rattle.laws_of_runs.proofs.Steps.{statement_replays, input_replays}
use Rattle.laws_of_runs.proofs.transactions_replay_to_themselves.Goals as goal

pub returns : goal.returns
returns c = record {
  openings = λ app t. record {
    starts = start_replays app t;
    inputs = awaited_replays app t;
    rows = dialogue_row_replays app t;
    asynchronous_rows = asynchronous_row_replays app t;
    jobs = job_replays app t;
  };
  statements = λ app t id x v replays tells goes. statement_replays app t id x replays v tells _ refl goes;
  inputs = λ app t id x tac text replays stands. input_replays app t id x replays tac text stands;
  others = still_replays;
}
