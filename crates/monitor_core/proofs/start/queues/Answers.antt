use Rattle.std.proofs.Common.{ap, ◌∙◌}
use Rattle.application_types.specs.declared.kdcdef_types.limits.Limits.{Limits}
use Rattle.service_ends.specs.Schedule.{all_free}
use Rattle.monitor_core.proofs.start.queues.Goals as goal

pub returns-clause-scheduler : goal.returns-clause-scheduler
returns-clause-scheduler c = c.in_ok-scheduler.ensures ∙ ap (λ (m : Limits). all_free m.tasks) c.max.ensures.limits
