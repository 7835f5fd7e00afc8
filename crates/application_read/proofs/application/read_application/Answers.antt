use Rattle.std.proofs.Common.{Ok, Err, rules}
use Rattle.application_read.proofs.Layers.{definition_refused, units_refused, fit_refused, with_all}
use Rattle.application_read.proofs.application.read_application.Goals as goal

pub returns-in_err-generation : goal.returns-in_err-generation
returns-in_err-generation c =
    let e = c.in_err-generation.ensures in
    let is = definition_refused c.args.definition.now c.args.units.now c.in_err-generation.field-0.0 e.only e.refused e.fault c.from_residual.result c.from_residual.ensures.1 in
    record { found = search rules; fitted = search rules; only = λ a. is.gives (Ok a); fault = is.fault; refused = λ f. is.gives (Err f) }

pub returns-in_err-read : goal.returns-in_err-read
returns-in_err-read c =
    let made = c.in_ok-generation.ensures in
    let e = c.in_err-read.ensures in
    let r = c.from_residual-in_err-read.result in
    let err = c.from_residual-in_err-read.ensures.1 in
    let is = units_refused c.args.definition.now c.args.units.now c.in_ok-generation.generation made.only made.refused c.in_err-read.field-0.0 e.only e.refused made.found e.fault r err in
    record { found = search rules; fitted = search rules; only = λ a. is.gives (Ok a); fault = is.fault; refused = λ f. is.gives (Err f) }

pub returns-in_err-units : goal.returns-in_err-units
returns-in_err-units c =
    let made = c.in_ok-generation.ensures in
    let spelled = c.in_ok-read.ensures in
    let e = c.in_err-units.ensures in
    let r = c.from_residual-in_err-units.result in
    let err = c.from_residual-in_err-units.ensures.1 in
    let is = fit_refused c.args.definition.now c.args.units.now c.in_ok-generation.generation made.only made.refused c.in_ok-read.read.items spelled.only spelled.refused c.in_err-units.field-0.0 e.only e.refused made.found spelled.found e.fault r err in
    record { found = search rules; fitted = search rules; only = λ a. is.gives (Ok a); fault = is.fault; refused = λ f. is.gives (Err f) }

pub returns : goal.returns
returns c =
    let made = c.in_ok-generation.ensures in
    let spelled = c.in_ok-read.ensures in
    let fitted = c.in_ok-units.ensures in
    let gives = with_all c.args.definition.now c.args.units.now c.in_ok-generation.generation made.only made.refused c.in_ok-read.read.items spelled.only spelled.refused c.in_ok-units.units fitted.only fitted.refused in
    record {
      found = (made.found, (c.in_ok-read.read.items, spelled.found, fitted.found));
      fitted = record { limits = fitted.found.limits; tacs = fitted.found.tacs };
      only = λ a. gives (Ok a);
      fault = search rules;
      refused = λ f. gives (Err f);
    }
