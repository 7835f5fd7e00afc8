-- The job whose message is shown.
use Rattle.std.specs.Prelude.{ℕ, Option, option_map}
use Rattle.kdcs_types.specs.declared.service.Job.{Job}
use Rattle.kdcs_types.specs.declared.service.JobValue.{JobValue}
use Rattle.kdcs_types.specs.Tables.{TableRows, job_of as value_of}
use Rattle.monitor_core.specs.declared.showing.DueJob.{DueJob}

abbrev pub shown_job : DueJob → Job
shown_job due = record { number = due.number; value = due.value.now }

-- the job with this number
abbrev pub job_with : TableRows → (number : ℕ) → Option Job
job_with t number = option_map (λ (v : JobValue). record { number = number; value = v }) (value_of t number)
