use Rattle.kdcfile_copies.specs.CopiesLaws.{one_is_chosen, no_rival_is_chosen}
use Rattle.kdcfile_copies.proofs.laws.one_copy_counts.Goals as goal

pub returns-clause-one : goal.returns-clause-one
returns-clause-one c = one_is_chosen

pub returns-clause-no_rival : goal.returns-clause-no_rival
returns-clause-no_rival c = no_rival_is_chosen
