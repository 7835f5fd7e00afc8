use Rattle.std.specs.Prelude.{[]}
use Rattle.kdcfile_copies.proofs.kdcfile_mending.Halves.{quiet_rest, mends_same}
use Rattle.kdcfile_copies.proofs.kdcfile_mending.gate.gate_of.Goals as goal

pub returns-in_err-read-clause-any_moment : goal.returns-in_err-read-clause-any_moment
returns-in_err-read-clause-any_moment g c = λ told. mends_same c.args.target _ _ _ _ (c.requires.at_rest told) (c.read_at.ensures.content told) c.read_at.ensures.other_half

pub returns-in_err-read-clause-holds : goal.returns-in_err-read-clause-holds
returns-in_err-read-clause-holds g c = λ told. (c.read_at.ensures.content told []).holds

pub returns-in_err-read-clause-rest : goal.returns-in_err-read-clause-rest
returns-in_err-read-clause-rest g c = λ told. quiet_rest c.args.target _ _ _ _ (c.requires.at_rest told) (c.read_at.ensures.content told) c.read_at.ensures.other_half

pub returns-then-read-eq1-clause-any_moment : goal.returns-then-read-eq1-clause-any_moment
returns-then-read-eq1-clause-any_moment g c = λ told. mends_same c.args.target _ _ _ _ (c.requires.at_rest told) (c.read_at.ensures.content told) c.read_at.ensures.other_half

pub returns-then-read-eq1-clause-holds : goal.returns-then-read-eq1-clause-holds
returns-then-read-eq1-clause-holds g c = λ told. (c.read_at.ensures.content told []).holds

pub returns-then-read-eq1-clause-rest : goal.returns-then-read-eq1-clause-rest
returns-then-read-eq1-clause-rest g c = λ told. quiet_rest c.args.target _ _ _ _ (c.requires.at_rest told) (c.read_at.ensures.content told) c.read_at.ensures.other_half

pub returns-else-read-eq1-clause-any_moment : goal.returns-else-read-eq1-clause-any_moment
returns-else-read-eq1-clause-any_moment g c = λ told. mends_same c.args.target _ _ _ _ (c.requires.at_rest told) (c.read_at.ensures.content told) c.read_at.ensures.other_half

pub returns-else-read-eq1-clause-holds : goal.returns-else-read-eq1-clause-holds
returns-else-read-eq1-clause-holds g c = λ told. (c.read_at.ensures.content told []).holds

pub returns-else-read-eq1-clause-rest : goal.returns-else-read-eq1-clause-rest
returns-else-read-eq1-clause-rest g c = λ told. quiet_rest c.args.target _ _ _ _ (c.requires.at_rest told) (c.read_at.ensures.content told) c.read_at.ensures.other_half

pub returns-in_err-read-clause-put : goal.returns-in_err-read-clause-put
returns-in_err-read-clause-put g c = λ told. (c.read_at.ensures.content told []).put

pub returns-then-read-eq1-clause-put : goal.returns-then-read-eq1-clause-put
returns-then-read-eq1-clause-put g c = λ told. (c.read_at.ensures.content told []).put

pub returns-else-read-eq1-clause-put : goal.returns-else-read-eq1-clause-put
returns-else-read-eq1-clause-put g c = λ told. (c.read_at.ensures.content told []).put
