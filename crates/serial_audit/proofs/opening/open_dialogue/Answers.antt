use Rattle.std.specs.Prelude.{IfOk, Some}
use Rattle.std.proofs.Common.{sym, ap, subst, ◌∙◌}
use Rattle.abstract_monitor.specs.Endings.{header_of_row}
use Rattle.serial_audit.specs.Opening.{IsOpened, dialogue_opened, reads_first}
use Rattle.serial_audit.proofs.opening.open_dialogue.Goals as goal

pub returns-then-row : goal.returns-then-row
returns-then-row c =
    let p = c.args.replay.now in
    subst (λ x. IfOk c.open_with_input.result (IsOpened p x))
    ((λ i. reads_first p (Some (c.in_ok-clone.ensures.cases i)) (c.header_of_row.ensures i))
    ∙ ap (λ lterm. reads_first p (Some c.args.row.now) (header_of_row p.record.now.service c.args.row.now lterm)) c.requires.lterm
    ∙ ap (dialogue_opened p c.args.row.now) (sym c.if-row.true))
    c.open_with_input.ensures
