use Rattle.kdcfile_copies.proofs.kdcfile_mending.Source.{source_same, source_mends, source_rest}
use Rattle.kdcfile_copies.proofs.kdcfile_mending.reading.source_len.Goals as goal

pub returns-in-Ok-clause-any_moment : goal.returns-in-Ok-clause-any_moment
returns-in-Ok-clause-any_moment g c = λ told. source_mends c.args.target c.other_half.result c.other_half.ensures _ _ _ _ (c.requires.at_rest told) (c.size.ensures.content told)

pub returns-in-Ok-clause-rest : goal.returns-in-Ok-clause-rest
returns-in-Ok-clause-rest g c = λ told. source_rest c.args.target c.other_half.result c.other_half.ensures _ _ _ _ (c.requires.at_rest told) (c.size.ensures.content told) (source_same c.args.target c.other_half.result c.other_half.ensures _ _ c.size.ensures.other_half)

pub returns-in-Err-clause-any_moment : goal.returns-in-Err-clause-any_moment
returns-in-Err-clause-any_moment g c = λ told. source_mends c.args.target c.other_half.result c.other_half.ensures _ _ _ _ (c.requires.at_rest told) (c.size.ensures.content told)

pub returns-in-Err-clause-rest : goal.returns-in-Err-clause-rest
returns-in-Err-clause-rest g c = λ told. source_rest c.args.target c.other_half.result c.other_half.ensures _ _ _ _ (c.requires.at_rest told) (c.size.ensures.content told) (source_same c.args.target c.other_half.result c.other_half.ensures _ _ c.size.ensures.other_half)
