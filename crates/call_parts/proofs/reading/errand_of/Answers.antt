use Rattle.kd_base.specs.ToolsLaws.{error_same}
use Rattle.std.proofs.Common.{false, refl, subst}
use Rattle.refusals.specs.declared.error.TextError.TheVariants.{Refused}
use Rattle.call_parts.specs.Words.{HasNoThird}
use Rattle.call_parts.specs.declared.words.Word.TheVariants.{Run, Trail, Make}
use Rattle.call_parts.proofs.AskedSaid.{refused_as}
use Rattle.call_parts.proofs.reading.errand_of.Goals as goal

pub returns-in_err-commands-in-Run-clause-refused : goal.returns-in_err-commands-in-Run-clause-refused
returns-in_err-commands-in-Run-clause-refused c = λ why is.
    refused_as c.args.word c.args.work c.args.third.now Run c.in-Run.is false refl why (c.in_err-commands-in-Run.ensures.refused why (error_same _ _ c.from_residual.result c.in_err-commands-in-Run.field-0.0 (Refused why) c.from_residual.ensures.1 is))

pub returns-in_err-commands-in-Trail-clause-refused : goal.returns-in_err-commands-in-Trail-clause-refused
returns-in_err-commands-in-Trail-clause-refused c = λ why is.
    refused_as c.args.word c.args.work c.args.third.now Trail c.in-Trail.is false refl why (c.in_err-commands-in-Trail.ensures.refused why (error_same _ _ c.from_residual-in_err-commands-in-Trail.result c.in_err-commands-in-Trail.field-0.0 (Refused why) c.from_residual-in_err-commands-in-Trail.ensures.1 is))

pub returns-in_err-commands-in-Make-clause-refused : goal.returns-in_err-commands-in-Make-clause-refused
returns-in_err-commands-in-Make-clause-refused c = λ why is.
    refused_as c.args.word c.args.work c.args.third.now (Make c.in-Make.inputs) c.in-Make.is false refl why (c.in_err-commands-in-Make.ensures.refused why (error_same _ _ c.from_residual-in_err-commands-in-Make.result c.in_err-commands-in-Make.field-0.0 (Refused why) c.from_residual-in_err-commands-in-Make.ensures.1 is))

-- ---- a word without a third text

pub returns-in_err-commands-in-Run-clause-third : goal.returns-in_err-commands-in-Run-clause-third
returns-in_err-commands-in-Run-clause-third c = λ none why is. subst HasNoThird c.in-Run.is none

pub returns-in_err-commands-in-Trail-clause-third : goal.returns-in_err-commands-in-Trail-clause-third
returns-in_err-commands-in-Trail-clause-third c = λ none why is. subst HasNoThird c.in-Trail.is none

pub returns-in_err-trail-in-Audit-clause-third : goal.returns-in_err-trail-in-Audit-clause-third
returns-in_err-trail-in-Audit-clause-third c = λ none why is. subst HasNoThird c.in-Audit.is none

pub returns-in_err-commands-in-Make-clause-third : goal.returns-in_err-commands-in-Make-clause-third
returns-in_err-commands-in-Make-clause-third c = λ none why is. subst HasNoThird c.in-Make.is none
