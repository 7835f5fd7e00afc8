use Rattle.std.proofs.Common.{refl, sym, ap, ◌∙◌, true≢false}
use Rattle.kdcs_types.specs.Keys.{area_eq}
use Rattle.serial_audit.proofs.NotesOn.{none_left, other_left, passed_left, same_after}
use Rattle.serial_audit.proofs.notes.same_on.Goals.{then-eq+in-Some+else-not-same_note, else-eq}
use Rattle.serial_audit.proofs.notes.same_on.Goals as goal

pub returns-in_default : goal.returns-in_default
returns-in_default c = none_left c.args.area.now c.args.a.now c.loop-note.note-index c.note-item.result c.loop-note-test.true c.note-item.is c.args.b.now c.loop-note.rest.now c.loop-note.invariant (ap (λ a. area_eq a c.args.area.now) (sym c.noted_area.ensures) ∙ sym c.eq.ensures ∙ c.if-eq.true) c.in_default.ensures.none

pub returns-then-not-same_note : goal.returns-then-not-same_note
returns-then-not-same_note c = other_left c.args.area.now c.args.a.now c.loop-note.note-index c.note-item.result c.loop-note-test.true c.note-item.is c.args.b.now c.loop-note.rest.now c.loop-note.invariant c.in-Some.found.note.now c.in-Some.found.behind.now c.in-Some.ensures.found (ap (λ a. area_eq a c.args.area.now) (sym c.noted_area.ensures) ∙ sym c.eq.ensures ∙ c.if-eq.true) (λ same. true≢false (sym (c.if-not-same_note.ensures.1 same)))

pub loop-note-preserved : goal.loop-note-preserved
loop-note-preserved c =
    elim c.if-eq.branch [
      | then-eq+in-Some+else-not-same_note w ↦ same_after c.args.area.now c.args.a.now c.loop-note.note-index c.note-item.result c.loop-note-test.true c.note-item.is c.args.b.now c.loop-note.rest.now c.loop-note.invariant w.in-Some.found.note.now w.in-Some.found.behind.now w.in-Some.ensures.found (ap (λ a. area_eq a c.args.area.now) (sym c.noted_area.ensures) ∙ sym c.eq.ensures ∙ w.if-eq.true) (w.if-not-same_note.ensures.0 refl) c.if-eq.rest.now (ap (λ r. r.now) w.rest-is)
      | else-eq w ↦ passed_left c.args.area.now c.args.a.now c.loop-note.note-index c.note-item.result c.loop-note-test.true c.note-item.is c.args.b.now c.loop-note.rest.now c.loop-note.invariant (ap (λ a. area_eq a c.args.area.now) (sym c.noted_area.ensures) ∙ sym c.eq.ensures ∙ w.if-eq.false) c.if-eq.rest.now (ap (λ r. r.now) w.rest-is)
    ]
