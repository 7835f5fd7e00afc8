use Rattle.kdcfile_carry.specs.Losing.{is_gone}
use Rattle.kdcfile_carry.proofs.Gone.{more}
use Rattle.kdcfile_carry.proofs.losing.add_gone.Goals as goal

pub loop-item-preserved : goal.loop-item-preserved
loop-item-preserved g c =
    more g.K.Kind.row_of (is_gone c.args.new.now) c.args.items.now c.loop-item.item-index c.item-item.result c.loop-item-test.true c.item-item.is _ _ _ c.loop-item.invariant c.in_ok-add_one.ensures
