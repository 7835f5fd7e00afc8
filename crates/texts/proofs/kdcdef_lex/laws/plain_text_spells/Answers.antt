use Rattle.texts.proofs.kdcdef_lex.Writing.{plain_spells}
use Rattle.texts.proofs.kdcdef_lex.laws.plain_text_spells.Goals as goal

pub returns : goal.returns
returns c = plain_spells
