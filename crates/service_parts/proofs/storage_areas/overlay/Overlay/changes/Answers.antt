use Rattle.std.proofs.Common.{sym, ap, subst, ◌∙◌}
use Rattle.kdcs_types.specs.Tables.{with_changes, AreChanges}
use Rattle.service_parts.specs.Areas.{PrivateAreas, changes_of}
use Rattle.service_parts.proofs.storage_areas.Changing.{all_made, are_changes, makes_the_writes}
use Rattle.service_parts.proofs.storage_areas.overlay.Overlay.changes.Goals as goal

pub returns-clause-fit : goal.returns-clause-fit
returns-clause-fit c =
    let all = all_made c.loop-area.changes c.loop-area.area-iterator c.args.self.now.written c.loop-area.invariant c.in-None.ensures.steps.0 in
    subst AreChanges (sym (all ∙ ap (λ (o : PrivateAreas). changes_of o.written) (sym c.self.view_is))) (are_changes c.self.inside.written c.iter-area-items.ensures.ascending)

pub returns-clause-tables : goal.returns-clause-tables
returns-clause-tables c t =
    let all = all_made c.loop-area.changes c.loop-area.area-iterator c.args.self.now.written c.loop-area.invariant c.in-None.ensures.steps.0 in
    ap (with_changes t) all ∙ makes_the_writes c.args.self.now.written t
