-- How far the numbers of tables go.
use Rattle.std.specs.Prelude.{◌≤◌}
use Rattle.kd_base.specs.Limits.{last_clock, last_next_job}
use Rattle.kdcs_types.specs.Tables.{TableRows}

-- the numbers of tables lie in their ranges
pub record IsInRange (t : TableRows) : Type 0 where
  pub clock : t.clock ≤ last_clock
  pub next_job_from_one : 1 ≤ t.next_job
  pub next_job : t.next_job ≤ last_next_job
