use Rattle.std.proofs.Common.{◌∙◌}
use Rattle.application_check.proofs.kdcdef_check.tables.Tables.shares_lterm.Goals as goal

pub returns-in-Pterm : goal.returns-in-Pterm
returns-in-Pterm c = λ g have. rw c.in-Pterm.is (c.contains.ensures ∙ have.served _)
