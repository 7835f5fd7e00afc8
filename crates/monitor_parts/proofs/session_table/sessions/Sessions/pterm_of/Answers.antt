use Rattle.std.proofs.Common.{ap, ◌∙◌}
use Rattle.abstract_monitor.specs.Turns.{pterm_of_user}
use Rattle.monitor_parts.proofs.session_table.Finding.{pterm_kept}
use Rattle.monitor_parts.proofs.session_table.sessions.Sessions.pterm_of.Goals as goal

pub returns-clause-exact : goal.returns-clause-exact
returns-clause-exact c =
    c.copied.ensures ∙ c.get.ensures.value ∙ pterm_kept _ _ c.args.user c.self.invariant.0.sorted c.self.invariant.1 ∙ ap (λ es. pterm_of_user es c.args.user) c.self.view_is
