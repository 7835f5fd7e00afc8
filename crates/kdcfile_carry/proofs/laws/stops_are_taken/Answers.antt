use Rattle.kdcfile_carry.specs.WaysLaws.{stops_are_taken}
use Rattle.kdcfile_carry.proofs.laws.stops_are_taken.Goals as goal

pub returns : goal.returns
returns c = stops_are_taken
