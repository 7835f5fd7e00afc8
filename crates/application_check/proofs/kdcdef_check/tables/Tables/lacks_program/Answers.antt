use Rattle.std.proofs.Common.{ap, not, ◌∙◌}
use Rattle.application_check.proofs.kdcdef_check.Options.{not_some}
use Rattle.application_check.proofs.kdcdef_check.tables.Tables.lacks_program.Goals as goal

pub returns-in-Tac : goal.returns-in-Tac
returns-in-Tac c = λ g have. rw c.in-Tac.is (ap not (c.contains_key.ensures ∙ have.programs _) ∙ not_some _)
