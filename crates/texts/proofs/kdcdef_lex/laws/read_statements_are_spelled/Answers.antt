use Rattle.texts.proofs.kdcdef_lex.Faults.{text_stands}
use Rattle.texts.proofs.kdcdef_lex.laws.read_statements_are_spelled.Goals as goal

pub returns : goal.returns
returns c = text_stands
