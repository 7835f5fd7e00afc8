use Rattle.std.proofs.Common.{None, Some, ◌+◌, arith, refl, sym, ap, ◌∙◌}
use Rattle.service_ends.specs.Schedule.{service_in}
use Rattle.service_ends.specs.Standing.{state_of}
use Rattle.service_ends.specs.Whole.{app_of}
use Rattle.monitor_core.specs.WholeLaws.{is_task, seat_of}
use Rattle.monitor_core.proofs.turning.free_from.Goals as goal

pub returns-clause-free : goal.returns-clause-free
returns-clause-free c =
    λ i lt. seat_of c.args.parts.now (c.args.task + i) (is_task (app_of c.args.parts.now) (state_of c.args.parts.now) c.args.parts.now (c.args.task + i) c.requires.whole.facts.0 (omega (arith, c.requires.task), omega (arith, lt, c.requires.within, c.free_from.ensures.most)) refl) None (ap service_in (sym (c.free_from.ensures.free i lt)))
