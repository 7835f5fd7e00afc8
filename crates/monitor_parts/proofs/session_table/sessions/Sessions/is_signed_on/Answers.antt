use Rattle.std.proofs.Common.{◌∙◌, ap, is_some}
use Rattle.monitor_parts.proofs.session_table.Finding.{signed_on}
use Rattle.monitor_parts.proofs.session_table.sessions.Sessions.is_signed_on.Goals as goal

pub returns-clause-exact : goal.returns-clause-exact
returns-clause-exact c = c.is_some.ensures ∙ ap is_some c.pterm_of.ensures.exact ∙ signed_on c.args.self.now c.args.user
