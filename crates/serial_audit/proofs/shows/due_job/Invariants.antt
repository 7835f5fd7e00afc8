use Rattle.std.specs.Prelude.{◌≡◌, ◌-◌, ◌&&◌, drop, filter, length, nat_le, option_copied}
use Rattle.kdcs_types.specs.declared.service.Job.{Job}
use Rattle.abstract_monitor.specs.Commands.{is_for}
use Rattle.abstract_monitor.specs.Picks.{least_job}
use Rattle.serial_audit.proofs.shows.due_job.Given as goal

abbrev pub invariant-loop-behind : goal.invariant-loop-behind
invariant-loop-behind l = option_copied l.first ≡ least_job (filter (λ (job : Job). nat_le job.value.due l.clock && is_for l.lterm job.value.to) (drop (length l.jobs - l.behind) l.jobs))
