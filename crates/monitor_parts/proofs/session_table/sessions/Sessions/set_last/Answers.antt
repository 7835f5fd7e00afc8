use Rattle.std.proofs.Common.{sym, ap}
use Rattle.monitor_parts.proofs.session_table.Keeping.{kept_by_change}
use Rattle.monitor_parts.proofs.session_table.Pterms.{pterms_changed}
use Rattle.monitor_parts.proofs.session_table.sessions.Sessions.set_last.Goals as goal

pub invariant_of-self-2 : goal.invariant_of-self-2
invariant_of-self-2 c =
    let same = sym (ap (λ s. s.user) c.set_last.ensures) in
    let found = sym c.in-Some.ensures.value in
    (kept_by_change c.args.pterm _ _ _ c.self.invariant.0 found same, pterms_changed _ _ c.self.invariant.1 c.args.pterm _ _ found same)
