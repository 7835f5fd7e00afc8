use Rattle.std.proofs.Common.{◌∙◌}
use Rattle.kdcfile_layout.proofs.kdcfile_images.Fresh.{numbers_none, numbers_more}
use Rattle.kdcfile_layout.proofs.kdcfile_images.making.numbers.Goals as goal

pub loop-n-init : goal.loop-n-init
loop-n-init c = c.new-pages.ensures ∙ numbers_none

pub loop-n-preserved : goal.loop-n-preserved
loop-n-preserved c = c.in_ok-push.ensures.ok ∙ numbers_more _ c.loop-n.n c.loop-n.invariant
