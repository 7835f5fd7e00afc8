-- The due job of an LTERM, job by job.
use Rattle.std.specs.Prelude.{Bool, true, false, Option}
use Rattle.kdcs_types.specs.declared.service.Job.{Job}
use Rattle.abstract_monitor.specs.Picks.{earlier_of}

-- the earlier one, where the job counts
abbrev pub earlier_if : Bool → Job → Option Job → Option Job
earlier_if true job o = earlier_of job o
earlier_if false job o = o
