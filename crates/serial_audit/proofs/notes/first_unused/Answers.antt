use Rattle.std.specs.Prelude.{◌<◌, length}
use Rattle.std.proofs.Common.{sym, ap, subst, ◌∙◌}
use Rattle.laws_of_states.specs.Replay.{notes_on}
use Rattle.serial_audit.proofs.NotesOn.{all_used}
use Rattle.serial_audit.proofs.Places.{drop_more}
use Rattle.serial_audit.proofs.notes.first_unused.Goals as goal

pub returns-in_err-rest : goal.returns-in_err-rest
returns-in_err-rest c = rw c.from_residual.ensures (all_used (notes_on c.args.area.now c.args.record.now.notes) c.loop.counter (length (notes_on c.args.area.now c.args.transaction.now.notes)) (sym c.loop.invariant ∙ c.in_err-rest.ensures.none) (subst (λ n. c.loop.counter < n) (c.count_on-end.ensures ∙ ap (λ notes. length (notes_on c.args.area.now notes)) c.as_slice.ensures) c.loop-test.true))

pub loop-preserved : goal.loop-preserved
loop-preserved c = sym (drop_more (notes_on c.args.area.now c.args.record.now.notes) c.loop.counter c.in_ok-rest.field-0.note.now (notes_on c.args.area.now c.in_ok-rest.field-0.behind.now) (sym c.loop.invariant ∙ c.in_ok-rest.ensures.found))
