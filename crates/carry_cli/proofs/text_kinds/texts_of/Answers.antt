use Rattle.std.proofs.Common.{ap, inl, Err}
use Rattle.refusals.specs.declared.error.TextError.{TextError}
use Rattle.carry_cli.proofs.text_kinds.texts_of.Goals as goal

pub returns-in-Err-Refused-clause-found : goal.returns-in-Err-Refused-clause-found
returns-in-Err-Refused-clause-found g c = λ told.
    let fault = c.in-Err-Refused.ensures.refused _ (ap (λ (e : TextError). Err e) c.in-Err-Refused.field-0-is) (inl told) in
    (_, fault.one, fault.none)
