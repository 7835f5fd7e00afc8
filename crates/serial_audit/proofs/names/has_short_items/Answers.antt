use Rattle.std.specs.List.{list_all}
use Rattle.std.proofs.Common.{ap, sym, ◌∙◌}
use Rattle.laws_of_states.specs.Suits.{fits_message}
use Rattle.serial_audit.specs.Audit.{note_fits}
use Rattle.serial_audit.proofs.names.has_short_items.Goals as goal

pub returns-then-inputs_fit : goal.returns-then-inputs_fit
returns-then-inputs_fit c =
    let inputs = ap (list_all (fits_message c.args.generation.now)) (sym c.accepted.ensures) ∙ sym c.inputs_fit.ensures ∙ c.if-inputs_fit.true in
    let notes = c.notes_fit.ensures ∙ ap (list_all note_fits) c.as_slice.ensures in
    (λ h. record { inputs = inputs; notes = sym notes ∙ h }, λ h. notes ∙ h.notes)
