use Rattle.std.proofs.Common.{◌∙◌}
use Rattle.application_check.proofs.kdcdef_check.tables.Tables.is_taken.Goals as goal

pub returns-in-Program : goal.returns-in-Program
returns-in-Program c = λ g have. rw c.in-Program.is (c.contains_key.ensures ∙ have.programs _)

pub returns-in-User : goal.returns-in-User
returns-in-User c = λ g have. rw c.in-User.is (c.contains_key-in-User.ensures ∙ have.users _)

pub returns-in-Pterm : goal.returns-in-Pterm
returns-in-Pterm c = λ g have. rw c.in-Pterm.is (c.contains_key-in-Pterm.ensures ∙ have.pterms _)

pub returns-in-Tls : goal.returns-in-Tls
returns-in-Tls c = λ g have. rw c.in-Tls.is (c.contains.ensures ∙ have.tls _)

pub returns-in-Uls : goal.returns-in-Uls
returns-in-Uls c = λ g have. rw c.in-Uls.is (c.contains-in-Uls.ensures ∙ have.uls _)

pub returns-in-Kset : goal.returns-in-Kset
returns-in-Kset c = λ g have. rw c.in-Kset.is (c.contains_key-in-Kset.ensures ∙ have.ksets _)
