use Rattle.kdcdef_read.proofs.Readings.{found, only, fault_is, refused}
use Rattle.kdcdef_read.proofs.Apart.{are_read}
use Rattle.kdcdef_read.proofs.reading.read.Goals as goal

pub returns-clause-found : goal.returns-clause-found
returns-clause-found c = found c.args.raw.now

pub returns-clause-only : goal.returns-clause-only
returns-clause-only c = only c.args.raw.now

pub returns-clause-fault : goal.returns-clause-fault
returns-clause-fault c = fault_is c.args.raw.now

pub returns-clause-refused : goal.returns-clause-refused
returns-clause-refused c = refused c.args.raw.now

pub returns-clause-read : goal.returns-clause-read
returns-clause-read c = λ ss read. are_read c.args.raw.now ss c.requires (found c.args.raw.now ss read)
