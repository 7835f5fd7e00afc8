use Rattle.std.proofs.Common.{ap, not, ◌∙◌}
use Rattle.application_check.proofs.kdcdef_check.Options.{not_some}
use Rattle.application_check.proofs.kdcdef_check.tables.Tables.lacks_lterm.Goals as goal

pub returns-in-Pterm : goal.returns-in-Pterm
returns-in-Pterm c = λ g have. rw c.in-Pterm.is (ap not (c.contains_key.ensures ∙ have.lterms _) ∙ not_some _)
