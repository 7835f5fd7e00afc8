use Rattle.std.proofs.Common.{sym, ap, ◌∙◌}
use Rattle.kdcs_types.specs.Keys.{area_eq}
use Rattle.serial_audit.proofs.NotesOn.{next_found, next_passed}
use Rattle.serial_audit.proofs.notes.next_on.Goals as goal

pub returns-then-eq-clause-found : goal.returns-then-eq-clause-found
returns-then-eq-clause-found c = next_found c.args.area.now c.in-Some.note.now c.args.notes.now c.loop-note.rest.now c.in-Some.behind.now c.loop-note.invariant c.in-Some.ensures.cases.0 (ap (λ a. area_eq a c.args.area.now) (sym c.noted_area.ensures) ∙ sym c.eq.ensures ∙ c.if-eq.true)

pub loop-note-preserved : goal.loop-note-preserved
loop-note-preserved c = next_passed c.args.area.now c.in-Some.note.now c.args.notes.now c.loop-note.rest.now c.in-Some.behind.now c.loop-note.invariant c.in-Some.ensures.cases.0 (ap (λ a. area_eq a c.args.area.now) (sym c.noted_area.ensures) ∙ sym c.eq.ensures ∙ c.if-eq.false)
