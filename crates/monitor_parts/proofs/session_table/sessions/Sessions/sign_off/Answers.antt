use Rattle.std.proofs.Common.{sym, ◌∙◌, subst}
use Rattle.monitor_parts.specs.Signed.{AreSessions, ArePterms}
use Rattle.monitor_parts.proofs.session_table.Keeping.{kept_by_sign_off, left_is}
use Rattle.monitor_parts.proofs.session_table.Pterms.{pterms_without}
use Rattle.monitor_parts.proofs.session_table.sessions.Sessions.sign_off.Goals as goal

pub invariant_of-self : goal.invariant_of-self
invariant_of-self c = (subst AreSessions (sym c.in_err-remove.ensures.absent) c.self.invariant.0, subst (λ es. ArePterms es c.self.inside.by_user) (sym c.in_err-remove.ensures.absent) c.self.invariant.1)

pub returns-in_err-remove-clause-left : goal.returns-in_err-remove-clause-left
returns-in_err-remove-clause-left c = rw (← c.self.view_is) (c.remove.ensures.left ∙ left_is c.args.pterm _)

pub invariant_of-self-2 : goal.invariant_of-self-2
invariant_of-self-2 c =
    (rw c.remove.ensures.left (kept_by_sign_off c.args.pterm _ c.self.invariant.0), rw (c.remove.ensures.left, c.remove-2.ensures.left, c.user-user.ensures) (pterms_without _ _ c.self.invariant.1 c.args.pterm _ (sym c.in_ok-remove.ensures.value)))

pub returns-clause-left : goal.returns-clause-left
returns-clause-left c = rw (← c.self.view_is) (c.remove.ensures.left ∙ left_is c.args.pterm _)
