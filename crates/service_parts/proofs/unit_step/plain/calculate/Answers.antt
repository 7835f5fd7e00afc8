use Rattle.std.proofs.Common.{refl, sym, ap, ◌∙◌}
use Rattle.abstract_monitor.specs.Contents.{number_of}
use Rattle.service_parts.specs.Calculation.{calculation_of}
use Rattle.service_parts.proofs.unit_step.Results.{no_result}
use Rattle.service_parts.proofs.unit_step.plain.calculate.Goals as goal

pub returns-in_default-result_of-clause-stored : goal.returns-in_default-result_of-clause-stored
returns-in_default-result_of-clause-stored c =
    let x = ap number_of (sym c.content.ensures) ∙ sym c.in-Some.ensures in
    let y = ap number_of (sym c.value.ensures) ∙ sym c.in-Some-number_of.ensures in
    rw (no_result c.args.field.now.length (calculation_of c.args.calculation) _ _ c.in-Some.own c.in-Some-number_of.other x y (sym c.in_default-result_of.ensures)) refl

pub returns-in_default-result_of-clause-fits : goal.returns-in_default-result_of-clause-fits
returns-in_default-result_of-clause-fits c =
    let x = ap number_of (sym c.content.ensures) ∙ sym c.in-Some.ensures in
    let y = ap number_of (sym c.value.ensures) ∙ sym c.in-Some-number_of.ensures in
    rw (no_result c.args.field.now.length (calculation_of c.args.calculation) _ _ c.in-Some.own c.in-Some-number_of.other x y (sym c.in_default-result_of.ensures)) refl
