use Rattle.kdcfile_copies.specs.MendingLaws.{copies_mean_the_same}
use Rattle.kdcfile_copies.proofs.kdcfile_mending.laws.copies_mean_the_same.Goals as goal

pub returns : goal.returns
returns c = copies_mean_the_same
