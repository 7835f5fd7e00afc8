-- Each transaction that opens replays to itself.
use Rattle.std.specs.Prelude.{◌≡◌, refl, ℕ, true, false, Some}
use Rattle.std.proofs.Common.{ap, ◌∙◌}
use Rattle.kdcs_types.specs.declared.key.ServiceId.TheVariants.{Dialogue, Asynchronous}
use Rattle.kdcs_types.specs.declared.service.JobValue.{JobValue}
use Rattle.kdcs_types.specs.declared.service.Service.{Service}
use Rattle.kdcs_types.specs.Tables.{TableRows, job_of}
use Rattle.abstract_monitor.specs.Bytes.{Bytes}
use Rattle.abstract_monitor.specs.State.{Application}
use Rattle.abstract_monitor.specs.Endings.{opened, opened_by_start, opened_by_input, opened_by_row, opened_by_job, lterm_of_row}
use Rattle.laws_of_states.specs.Replay.{replay, dialogue_from, job_from}
use Rattle.laws_of_runs.specs.Replays.{kept_and, ReplaysToItself}

module _ (app : Application) (t : TableRows) where
  -- an input starts a service
  pub start_replays : (user lterm tac input : Bytes) → ReplaysToItself app t (Dialogue user) (opened_by_start app.generation user lterm tac input)
  unfolding opened replay
  start_replays user lterm tac input other inputs notes alike = refl

  -- an input reaches a row that awaits it
  pub awaited_replays : (user : Bytes) (row : Service) (lterm input : Bytes) → row.awaits ≡ true → ReplaysToItself app t (Dialogue user) (opened_by_input app.generation (Dialogue user) row lterm input)
  unfolding opened replay
  awaited_replays user row lterm input awaits other inputs notes alike =
      let x = opened_by_input app.generation (Dialogue user) row lterm input in
      ap (dialogue_from app (kept_and (Dialogue user) x inputs notes 0) user row) awaits

  -- a dialogue service goes on from a row that awaits no input
  pub dialogue_row_replays : (user : Bytes) (row : Service) (lterm : Bytes) → row.awaits ≡ false → ReplaysToItself app t (Dialogue user) (opened_by_row app.generation (Dialogue user) row lterm)
  unfolding opened replay
  dialogue_row_replays user row lterm awaits other inputs notes alike =
      let x = opened_by_row app.generation (Dialogue user) row lterm in
      ap (dialogue_from app (kept_and (Dialogue user) x inputs notes 0) user row) awaits

  -- an asynchronous service goes on from its row
  pub asynchronous_row_replays : (number : ℕ) (row : Service) → ReplaysToItself app t (Asynchronous number) (opened_by_row app.generation (Asynchronous number) row (lterm_of_row row.lterm))
  unfolding opened replay
  asynchronous_row_replays number row other inputs notes alike = refl

  -- a task takes a job
  pub job_replays : (number : ℕ) (job : JobValue) (tac : Bytes) → job_of t number ≡ Some job → ReplaysToItself app t (Asynchronous number) (opened_by_job app.generation job tac)
  unfolding opened replay
  job_replays number job tac is other inputs notes alike =
      let x = opened_by_job app.generation job tac in
      ap (job_from app (kept_and (Asynchronous number) x inputs notes 0)) (alike.job ∙ is)
