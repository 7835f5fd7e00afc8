use Rattle.kdcfile_copies.specs.MendingLaws.{shut_means_nothing}
use Rattle.kdcfile_copies.proofs.kdcfile_mending.laws.shut_files_mean_nothing.Goals as goal

pub returns : goal.returns
returns c = shut_means_nothing
