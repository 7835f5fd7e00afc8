use Rattle.std.proofs.Common.{arith, sym, ap, ◌∙◌}
use Rattle.kdcs_types.specs.Keys.{area_eq}
use Rattle.serial_audit.proofs.NotesOn.{none_counted, one_counted}
use Rattle.serial_audit.proofs.notes.count_on.Goals.{then-eq, else-eq}
use Rattle.serial_audit.proofs.notes.count_on.Goals as goal

pub loop-note-preserved : goal.loop-note-preserved
loop-note-preserved c =
    elim c.if-eq.branch [
      | then-eq w ↦ record { counted = one_counted c.args.area.now c.args.notes.now c.loop-note.note-index c.note-item.result c.loop-note-test.true c.note-item.is c.loop-note.count _ c.loop-note.invariant.counted c.if-eq.count (ap (λ a. area_eq a c.args.area.now) (sym c.noted_area.ensures) ∙ sym c.eq.ensures ∙ w.if-eq.true) w.count-is; few = omega (arith, w.count-is, c.loop-note.invariant.few) }
      | else-eq w ↦ record { counted = none_counted c.args.area.now c.args.notes.now c.loop-note.note-index c.note-item.result c.loop-note-test.true c.note-item.is c.loop-note.count _ c.loop-note.invariant.counted c.if-eq.count (ap (λ a. area_eq a c.args.area.now) (sym c.noted_area.ensures) ∙ sym c.eq.ensures ∙ w.if-eq.false) w.count-is; few = omega (arith, w.count-is, c.loop-note.invariant.few) }
    ]
