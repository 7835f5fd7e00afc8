use Rattle.kdcfile_copies.specs.CopiesLaws.{next_patch_makes_next, patch_keeps_bare, sequence_is_one_page}
use Rattle.kdcfile_copies.proofs.laws.next_copies_are_made.Goals as goal

pub returns-clause-next : goal.returns-clause-next
returns-clause-next c = next_patch_makes_next

pub returns-clause-bare : goal.returns-clause-bare
returns-clause-bare c = patch_keeps_bare

pub returns-clause-page : goal.returns-clause-page
returns-clause-page c = sequence_is_one_page
