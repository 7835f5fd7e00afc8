use Rattle.kdcfile_copies.specs.CopiesLaws.{one_meaning_of_copies}
use Rattle.kdcfile_copies.proofs.laws.copies_have_one_meaning.Goals as goal

pub returns : goal.returns
returns c = one_meaning_of_copies
