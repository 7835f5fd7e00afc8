use Rattle.kdcdef_read.proofs.said.said_of.Goals as goal

pub returns-in-Tac : goal.returns-in-Tac
returns-in-Tac c = rw c.in-Tac.is c.tac_said.ensures
