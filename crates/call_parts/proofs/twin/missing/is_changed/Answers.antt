use Rattle.std.proofs.Common.{subst}
use Rattle.kdcfile_copies.specs.Finding.{IsAnswer, IsFound}
use Rattle.kdcfile_copies.specs.declared.answer.Found.{Found}
use Rattle.call_parts.proofs.Missing.{commits_no, commits_yes, is_zero, no_copy_no, not_zero}
use Rattle.call_parts.proofs.twin.missing.is_changed.Goals as goal

pub returns-in-NoCopy-clause-no : goal.returns-in-NoCopy-clause-no
returns-in-NoCopy-clause-no c = λ is bytes h. no_copy_no bytes (subst (λ (f : Found). IsAnswer f bytes) c.in-NoCopy.is h).1

pub returns-in-Copy-clause-yes : goal.returns-in-Copy-clause-yes
returns-in-Copy-clause-yes c = λ is bytes h. commits_yes c.in-Copy.copy (subst IsFound c.in-Copy.is c.requires) bytes (subst (λ (f : Found). IsAnswer f bytes) c.in-Copy.is h) (not_zero _ is)

pub returns-in-Copy-clause-no : goal.returns-in-Copy-clause-no
returns-in-Copy-clause-no c = λ is bytes h. commits_no c.in-Copy.copy (subst IsFound c.in-Copy.is c.requires) bytes (subst (λ (f : Found). IsAnswer f bytes) c.in-Copy.is h) (is_zero _ is)
