use Rattle.kdcfile_copies.proofs.kdcfile_mending.Halves.{mends_none}
use Rattle.kdcfile_copies.proofs.kdcfile_mending.Source.{source_same, source_mends, source_rest}
use Rattle.kdcfile_copies.proofs.kdcfile_mending.reading.source_piece.Goals as goal

pub returns-in_err-piece-clause-any_moment : goal.returns-in_err-piece-clause-any_moment
returns-in_err-piece-clause-any_moment g c = λ told. mends_none c.args.target _ _ (c.requires.at_rest told)

pub returns-in_default-clause-any_moment : goal.returns-in_default-clause-any_moment
returns-in_default-clause-any_moment g c = λ told. source_mends c.args.target c.other_half.result c.other_half.ensures _ _ _ _ (c.requires.at_rest told) (c.read_at.ensures.content told)

pub returns-in_default-clause-rest : goal.returns-in_default-clause-rest
returns-in_default-clause-rest g c = λ told. source_rest c.args.target c.other_half.result c.other_half.ensures _ _ _ _ (c.requires.at_rest told) (c.read_at.ensures.content told) (source_same c.args.target c.other_half.result c.other_half.ensures _ _ c.read_at.ensures.other_half)

pub returns-clause-any_moment : goal.returns-clause-any_moment
returns-clause-any_moment g c = λ told. source_mends c.args.target c.other_half.result c.other_half.ensures _ _ _ _ (c.requires.at_rest told) (c.read_at.ensures.content told)

pub returns-clause-rest : goal.returns-clause-rest
returns-clause-rest g c = λ told. source_rest c.args.target c.other_half.result c.other_half.ensures _ _ _ _ (c.requires.at_rest told) (c.read_at.ensures.content told) (source_same c.args.target c.other_half.result c.other_half.ensures _ _ c.read_at.ensures.other_half)
