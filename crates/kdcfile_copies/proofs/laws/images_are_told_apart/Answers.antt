use Rattle.kdcfile_copies.specs.CopiesLaws.{no_image_is_no_copy, images_are_copies, others_are_no_copies}
use Rattle.kdcfile_copies.proofs.laws.images_are_told_apart.Goals as goal

pub returns-clause-none : goal.returns-clause-none
returns-clause-none c = no_image_is_no_copy

pub returns-clause-copies : goal.returns-clause-copies
returns-clause-copies c = images_are_copies

pub returns-clause-others : goal.returns-clause-others
returns-clause-others c = others_are_no_copies
