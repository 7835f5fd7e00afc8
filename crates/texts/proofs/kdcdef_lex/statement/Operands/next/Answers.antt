use Rattle.texts.proofs.kdcdef_lex.Following.{operand_first}
use Rattle.texts.proofs.kdcdef_lex.statement.Operands.next.Goals as goal

pub invariant_of-result : goal.invariant_of-result
invariant_of-result c = (operand_first c.self.inside.left c.in_ok-operand.rest c.in_ok-operand.operand _ c.in_ok-operand.ensures c.self.invariant).0

pub returns : goal.returns
returns c = rw (← c.self.view_is) (operand_first c.self.inside.left c.in_ok-operand.rest c.in_ok-operand.operand _ c.in_ok-operand.ensures c.self.invariant).1
