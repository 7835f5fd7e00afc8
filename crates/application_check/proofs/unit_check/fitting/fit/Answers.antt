use Rattle.std.proofs.Common.{◌≡◌, List, refl, sym, subst, ap, ◌∙◌}
use Rattle.std.specs.Prelude.{Option, Ok, Err, bytes_eq}
use Rattle.std.specs.List.{position_from}
use Rattle.std.specs.Option.{option_or}
use Rattle.application_types.specs.UnitText.{UnitText}
use Rattle.application_check.specs.declared.unit_check.fault.FitFault.{FitFault}
use Rattle.application_check.specs.Finding.{fit_fault}
use Rattle.application_types.specs.Fitted.{AreFittedTo}
use Rattle.application_check.proofs.unit_check.Laws.{HasNoFault, no_fault, found_first}
use Rattle.application_check.proofs.unit_check.Answered.{only_that, refused_for}
use Rattle.application_check.proofs.unit_check.fitting.fit.Goals as goal

of_both : {a b x y : Option FitFault} → a ≡ x → b ≡ y → option_or x y ≡ option_or a b
of_both e f i = option_or (sym e i) (sym f i)

pub returns-in-Some-clause-fault : goal.returns-in-Some-clause-fault
returns-in-Some-clause-fault c = λ _. found_first c.args.generation.now c.args.units.items c.in-Some.fault (ap (fit_fault c.args.generation.now) (sym c.as_slice-listed.ensures.value) ∙ of_both c.lacking.ensures c.units_fault.ensures ∙ sym c.in-Some.ensures)

pub returns-in-Some-clause-only : goal.returns-in-Some-clause-only
returns-in-Some-clause-only c = only_that c.args.generation.now c.args.units.items (Err c.in-Some.fault) tt (returns-in-Some-clause-fault c)

pub returns-in-Some-clause-refused : goal.returns-in-Some-clause-refused
returns-in-Some-clause-refused c = refused_for c.args.generation.now c.args.units.items (Err c.in-Some.fault) tt (returns-in-Some-clause-fault c)

faultless : (c : goal.In_ok-tacs_of) → HasNoFault c.args.generation.now c.args.units.items
faultless c =
    no_fault c.args.generation.now c.args.units.items c.max-limits.ensures.sound c.requires.whole (ap (fit_fault c.args.generation.now) (sym c.as_slice-listed.ensures.value) ∙ of_both c.lacking.ensures c.units_fault.ensures ∙ sym c.in_default.ensures)

pub of-requires-clause-places : goal.of-requires-clause-places
of-requires-clause-places c = λ name. c.in_ok-places.ensures name ∙ ap (λ (units : List UnitText). position_from (λ (u : UnitText). bytes_eq name u.name) 0 units) c.as_slice-listed.ensures.value

pub of-requires-clause-fit : goal.of-requires-clause-fit
of-requires-clause-fit c = rw (c.max-limits.ensures.limits, c.in_ok-tacs_of.ensures) (faultless c).fit

pub returns-clause-found : goal.returns-clause-found
returns-clause-found c =
    let free : HasNoFault c.args.generation.now c.args.units.items =
    no_fault c.args.generation.now c.args.units.items c.max-limits.ensures.sound c.requires.whole (ap (fit_fault c.args.generation.now) (sym c.as_slice-listed.ensures.value) ∙ of_both c.lacking.ensures c.units_fault.ensures ∙ sym c.in_default.ensures) in
    subst (AreFittedTo c.args.generation.now c.args.units.items) (sym c.in_ok-units.ensures)
    (record { units = refl; limits = c.max-limits.ensures.limits; tacs = c.in_ok-tacs_of.ensures; programs = free.programs; fit = free.fit })

pub returns-clause-only : goal.returns-clause-only
returns-clause-only c = only_that c.args.generation.now c.args.units.items (Ok _) (returns-clause-found c) tt

pub returns-clause-refused : goal.returns-clause-refused
returns-clause-refused c = refused_for c.args.generation.now c.args.units.items (Ok _) (returns-clause-found c) tt
