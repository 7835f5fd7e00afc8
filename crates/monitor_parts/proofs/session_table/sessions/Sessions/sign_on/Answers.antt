use Rattle.std.proofs.Common.{◌≡◌, ap, sym, subst, ◌∙◌}
use Rattle.std.specs.Prelude.{None}
use Rattle.std.specs.FinMap.{find}
use Rattle.abstract_monitor.specs.Bytes.{bytes_cmp}
use Rattle.abstract_monitor.specs.Turns.{pterm_of_user}
use Rattle.monitor_parts.specs.Signed.{AreSessions}
use Rattle.monitor_parts.proofs.session_table.Finding.{pterm_kept}
use Rattle.monitor_parts.proofs.session_table.Keeping.{kept_by_sign_on}
use Rattle.monitor_parts.proofs.session_table.Pterms.{pterms_taken_back, pterms_with}
use Rattle.monitor_parts.proofs.session_table.sessions.Sessions.sign_on.Goals as goal

pub invariant_of-self-in-Err : goal.invariant_of-self-in-Err
invariant_of-self-in-Err c =
    let nowhere : pterm_of_user c.self.inside.by_pterm c.args.user ≡ None = ap (λ es. pterm_of_user es c.args.user) c.self.view_is ∙ c.requires.user_is_free in
    let absent = pterm_kept _ _ c.args.user c.self.invariant.0.sorted c.self.invariant.1 ∙ nowhere in (
      subst AreSessions (sym c.in-Err.ensures.err) c.self.invariant.0,
      rw (c.in-Err.ensures.err, c.remove.ensures.left, c.in_ok-put.ensures.ok) (pterms_taken_back _ _ c.self.invariant.1 c.args.user c.args.pterm absent),
    )

pub invariant_of-self-in_default : goal.invariant_of-self-in_default
invariant_of-self-in_default c =
    let free : find bytes_cmp c.args.pterm c.self.inside.by_pterm ≡ None = ap (find bytes_cmp c.args.pterm) c.self.view_is ∙ c.requires.pterm_is_free in
    let nowhere : pterm_of_user c.self.inside.by_pterm c.args.user ≡ None = ap (λ es. pterm_of_user es c.args.user) c.self.view_is ∙ c.requires.user_is_free in
    rw (c.in_default.ensures.ok, c.in_ok-put.ensures.ok, c.of.ensures) (kept_by_sign_on c.args.pterm _ _ c.self.invariant.0 nowhere, pterms_with _ _ c.self.invariant.1 c.args.pterm _ free nowhere)
