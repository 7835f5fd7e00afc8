use Rattle.kdcfile_load.proofs.OpeningsLaws.{numbers_long}
use Rattle.kdcfile_load.proofs.opening.read_numbers.Goals as goal

pub returns-clause-number : goal.returns-clause-number
returns-clause-number g c = numbers_long c.args.count c.as_slice.result.now c.in_ok-numbers_of.field-0 c.in_ok-numbers_of.ensures.bytes c.in_ok-numbers_of.ensures.value
