use Rattle.std.proofs.Common.{ap, ◌∙◌}
use Rattle.std.specs.Ordering.{is_eq}
use Rattle.std.specs.Cmp.{tied_itself}
use Rattle.std.specs.FinMap.{put}
use Rattle.kd_base.specs.Places.{without}
use Rattle.service_ends.specs.Index.{mark_cmp}
use Rattle.service_ends.specs.Kinds.{is_of_kind, kind_cmp, kind_of}
use Rattle.service_ends.proofs.step_scheduler.Marked.{kind_total, marks_back, marks_with}
use Rattle.service_ends.proofs.step_scheduler.marks.Marks.add.Goals as goal

pub returns-in-Ok-clause-ok : goal.returns-in-Ok-clause-ok
returns-in-Ok-clause-ok c arrivals absent h =
    let m = c.args.self.now in
    let entry = c.args.entry.now in
    let own = ap is_eq (tied_itself kind_total (kind_of entry)) in
    marks_with c.args.number entry arrivals m h _ absent c.note.ensures.kept
    (c.in_ok-note.ensures.noted entry (ap (λ kind. is_of_kind kind entry) c.kind_of-kind.ensures ∙ own))
    (c.in_ok-put.ensures.ok ∙ ap (λ kind. put (mark_cmp kind_cmp) (kind, c.args.number) tt m.by_kind) c.kind_of-kind.ensures)
    c.in-Ok.ensures.ok

pub returns-in-Err-clause-err : goal.returns-in-Err-clause-err
returns-in-Err-clause-err c arrivals absent h =
    let m = c.args.self.now in
    marks_back c.args.number c.args.entry.now arrivals m h _ absent c.note.ensures.kept
    (c.remove.ensures.left ∙ ap (without (mark_cmp kind_cmp) (c.kind_of-kind.result, c.args.number)) c.in_ok-put.ensures.ok
    ∙ ap (λ kind. without (mark_cmp kind_cmp) (kind, c.args.number) (put (mark_cmp kind_cmp) (kind, c.args.number) tt m.by_kind)) c.kind_of-kind.ensures)
    c.in-Err.ensures.err
