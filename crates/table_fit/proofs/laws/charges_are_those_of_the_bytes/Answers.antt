use Rattle.table_fit.specs.LengthsLaws.{charges_are_those_of_the_bytes, lengths_are_those_of_the_bytes}
use Rattle.table_fit.proofs.laws.charges_are_those_of_the_bytes.Goals as goal

pub returns-clause-lengths : goal.returns-clause-lengths
returns-clause-lengths c = lengths_are_those_of_the_bytes

pub returns-clause-charges : goal.returns-clause-charges
returns-clause-charges c = charges_are_those_of_the_bytes
