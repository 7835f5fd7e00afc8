use Rattle.std.proofs.Common.{refl, ap, ◌∙◌}
use Rattle.kd_base.specs.Places.{without}
use Rattle.service_ends.specs.Index.{mark_cmp}
use Rattle.service_ends.specs.Kinds.{kind_cmp}
use Rattle.service_ends.proofs.step_scheduler.Marked.{marks_without}
use Rattle.service_ends.proofs.step_scheduler.marks.Marks.remove.Goals as goal

pub returns : goal.returns
returns c arrivals there h =
    let m = c.args.self.now in
    marks_without c.args.number c.args.entry.now arrivals m h _ there refl
    (c.remove.ensures.left ∙ ap (λ kind. without (mark_cmp kind_cmp) (kind, c.args.number) m.by_kind) c.kind_of.ensures)
    c.remove-2.ensures.left
