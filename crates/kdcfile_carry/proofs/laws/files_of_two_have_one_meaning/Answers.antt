use Rattle.kdcfile_carry.specs.FilesLaws.{one_meaning_of_files, two_meanings_are_none}
use Rattle.kdcfile_carry.proofs.laws.files_of_two_have_one_meaning.Goals as goal

pub returns-clause-one : goal.returns-clause-one
returns-clause-one c = one_meaning_of_files

pub returns-clause-none : goal.returns-clause-none
returns-clause-none c = two_meanings_are_none
