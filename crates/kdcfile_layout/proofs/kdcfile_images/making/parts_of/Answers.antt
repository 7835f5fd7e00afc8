use Rattle.std.proofs.Common.{arith}
use Rattle.kdcfile_layout.proofs.kdcfile_images.Fresh.{parts_begin, parts_go_on}
use Rattle.kdcfile_layout.proofs.kdcfile_images.making.parts_of.Goals as goal

pub loop-left-init : goal.loop-left-init
loop-left-init c = (parts_begin c.args.front _ _ c.args.count c.new-parts.ensures.items c.in_ok-push.ensures.items, omega arith)

pub loop-left-preserved : goal.loop-left-preserved
loop-left-preserved c = (
  parts_go_on _ _ c.split_at.result.0 c.args.front.now c.args.buffer.now c.args.count c.loop-left.left c.min.result c.loop-left.invariant.0 c.loop-left.invariant.1 c.requires.buffer c.min.ensures c.split_at.ensures.front c.in_ok-push-2.ensures.items,
  omega (arith, c.loop-left.invariant.1),
)
