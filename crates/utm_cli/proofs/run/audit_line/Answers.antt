use Rattle.std.proofs.Common.{ap, subst, sym, ◌∙◌}
use Rattle.kd_base.specs.ToolsLaws.{err_is}
use Rattle.refusals.specs.declared.error.FileRefusal.TheVariants.{Differs}
use Rattle.trail_run.specs.Auditing.{verdict_line}
use Rattle.call_parts.specs.Asking.{audit_errand}
use Rattle.utm_cli.specs.AuditLaws.{holds_of}
use Rattle.utm_cli.specs.Parts.{Finds}
use Rattle.call_parts.specs.declared.error.CallError.TheVariants.{Refused}
use Rattle.call_parts.proofs.HandedOn.{same_reason}
use Rattle.utm_cli.proofs.run.audit_line.Goals as goal

pub returns-in-Differs-clause-refused : goal.returns-in-Differs-clause-refused
returns-in-Differs-clause-refused c = λ why is. (
  c.in-Differs.number,
  sym (same_reason (Differs c.in-Differs.number) why (err_is _ (Refused (Differs c.in-Differs.number)) (Refused why) is)),
  subst (Finds (audit_errand c.args.work.now c.args.trail)) c.in-Differs.is c.in_ok-verdict.ensures,
)

pub returns-clause-line : goal.returns-clause-line
returns-clause-line c =
    let h = holds_of (audit_errand c.args.work.now c.args.trail) c.in_ok-verdict.verdict c.in_ok-verdict.ensures c.in_default.not-Differs in (h.0, h.1, c.in-Ok.ensures ∙ ap verdict_line h.2)
