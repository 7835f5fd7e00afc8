use Rattle.std.proofs.Common.{◌∙◌, ap, refl}
use Rattle.device_acts.specs.Fingerprints.{fingerprint as print_of}
use Rattle.lab_turns.specs.Sources.{source_of}
use Rattle.lab_cli.specs.Stops.{IsCauseOfTexts, StopsFor}
use Rattle.lab_cli.proofs.Placing.{lent_asks, lent_refused, lent_script}
use Rattle.lab_cli.proofs.Rooms.{handed}
use Rattle.lab_cli.proofs.reading.asked_of.Goals as goal

pub returns-in_err-application-clause-refused : goal.returns-in_err-application-clause-refused
returns-in_err-application-clause-refused c =
    let t = c.args.texts in
    handed (StopsFor (IsCauseOfTexts t.definition.items t.units.items t.script.items)) c.from_residual.result _ c.from_residual.ensures.1
    (lent_refused t.definition.items c.deref.result.now t.units.items c.deref-2.result.now t.script.items t.script.items c.deref.ensures.value c.deref-2.ensures.value refl c.in_err-application.field-0.0 c.in_err-application.ensures.refused)

pub returns-in_err-commands-clause-refused : goal.returns-in_err-commands-clause-refused
returns-in_err-commands-clause-refused c =
    let t = c.args.texts in
    handed (StopsFor (IsCauseOfTexts t.definition.items t.units.items t.script.items)) c.from_residual-in_err-commands.result _ c.from_residual-in_err-commands.ensures.1
    (lent_script t.definition.items c.deref.result.now t.units.items c.deref-2.result.now t.script.items c.deref-3.result.now c.deref.ensures.value c.deref-2.ensures.value c.deref-3.ensures.value c.in_ok-application.application c.in_ok-application.ensures.generates c.in_err-commands.field-0.0 c.in_err-commands.ensures.refused)

pub returns-clause-asks : goal.returns-clause-asks
returns-clause-asks c =
    let t = c.args.texts in
    lent_asks t.definition.items c.deref.result.now t.units.items c.deref-2.result.now t.script.items c.deref-3.result.now c.deref.ensures.value c.deref-2.ensures.value c.deref-3.ensures.value c.in_ok-application.application c.fingerprint_of-fingerprint.result c.in_ok-units.units c.in_ok-commands.commands.items c.in_ok-application.ensures.generates
    (c.fingerprint_of-fingerprint.ensures ∙ (λ i. print_of (c.deref-4.ensures.value i) (c.deref-5.ensures.value i))) (c.in_ok-units.ensures ∙ ap source_of c.deref-6.ensures.value) c.in_ok-commands.ensures.says
