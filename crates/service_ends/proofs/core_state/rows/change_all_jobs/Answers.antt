use Rattle.std.specs.Prelude.{List, ◌∷◌}
use Rattle.std.proofs.Common.{ap, drop, sym, ◌+◌, ◌∙◌}
use Rattle.std.proofs.lemmas.List.{at_drop_more}
use Rattle.kdcs_types.specs.declared.act.Change.{Change}
use Rattle.service_ends.specs.Queue.{queue_after_all}
use Rattle.service_ends.specs.Standing.{active_of}
use Rattle.service_ends.proofs.core_state.rows.change_all_jobs.Goals as goal

pub loop-change-preserved : goal.loop-change-preserved
loop-change-preserved c =
    let active = active_of c.args.active.now in
    let index = c.loop-change.change-index in
    ap (queue_after_all active (drop (index + 1) c.args.changes.now)) c.in_ok-change_jobs.ensures
    ∙ ap (λ (x : Change). queue_after_all active (x ∷ drop (index + 1) c.args.changes.now) c.loop-change.jobs) c.change-item.is
    ∙ sym (at_drop_more (λ (l : List Change). queue_after_all active l c.loop-change.jobs) c.args.changes.now index c.change-item.result c.loop-change-test.true)
    ∙ c.loop-change.invariant
