use Rattle.std.specs.Prelude.{List}
use Rattle.std.proofs.Common.{ap, ◌∙◌}
use Rattle.kdcs_types.specs.declared.act.Change.{Change}
use Rattle.table_fit.specs.PagesLaws.{changes_short}
use Rattle.service_ends.specs.KeptLaws.{changed_indexed}
use Rattle.service_ends.specs.Queue.{queue_after_all}
use Rattle.service_ends.specs.Standing.{active_of}
use Rattle.service_ends.proofs.core_state.parts.MonitorParts.change.Goals as goal

pub charge_after-charge-requires-clause-short : goal.charge_after-charge-requires-clause-short
charge_after-charge-requires-clause-short c = changes_short c.args.self.now.generation c.max-limits.ensures.sound.limits c.args.self.now.tables c.args.changes.now c.requires.changes c.requires.after

pub returns-clause-indexed : goal.returns-clause-indexed
returns-clause-indexed c =
    changed_indexed c.args.self.now _ _ _ c.args.changes.now c.requires.indexed c.clock-clock.ensures.sorted c.requires.changes c.in_ok-change.ensures.ok c.charge_after-charge.ensures
    (c.in_ok-change_all_jobs.ensures ∙ ap (λ (l : List Change). queue_after_all (active_of c.args.self.now.active) l c.args.self.now.jobs) c.as_slice.ensures)
