use Rattle.std.proofs.Common.{ap, not, ◌∙◌}
use Rattle.application_check.proofs.kdcdef_check.Options.{not_some}
use Rattle.application_check.proofs.kdcdef_check.tables.Tables.lacks_keys.Goals as goal

pub returns-in-Some : goal.returns-in-Some
returns-in-Some c = λ g have. rw c.in-Some.is (ap not (c.contains_key.ensures ∙ have.ksets _) ∙ not_some _)
