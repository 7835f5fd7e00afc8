use Rattle.std.proofs.Common.{subst, arith}
use Rattle.std.proofs.lemmas.Grind.{common_steps}
use Rattle.std.proofs.lemmas.List.Elements.{All-more}
use Rattle.audit_trail.specs.Written.{AreChangeBytes}
use Rattle.audit_trail.proofs.writing.put_items.Goals as goal

pub loop-item-preserved : goal.loop-item-preserved
loop-item-preserved c = record {
  put = grind (arith, common_steps);
  bytes =
      All-more AreChangeBytes c.args.items.now c.loop-item.item-index c.item-item.result c.loop-item-test.true c.loop-item.invariant.bytes
      (subst AreChangeBytes c.item-item.is c.in_ok-put_change.ensures.bytes);
}
