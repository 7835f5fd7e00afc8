use Rattle.std.proofs.Common.{length, refl}
use Rattle.std.proofs.lemmas.Option.{slice_get_read}
use Rattle.page_drafts.specs.TablesLaws.{index_none, index_more}
use Rattle.page_drafts.proofs.table.index_of.Goals as goal

pub loop-n-init : goal.loop-n-init
loop-n-init c = index_none c.args.slots.now c.new-index.result c.new-index.ensures

pub loop-n-preserved : goal.loop-n-preserved
loop-n-preserved c =
    index_more c.args.slots.now c.requires.once c.loop-n.index c.loop-n.n c.loop-n.invariant c.index-slots-n.result c.add_key.new.index
    (slice_get_read c.args.slots.now (length c.args.slots.now) c.loop-n.n _ refl c.loop-n-test.true c.index-slots-n.is)
    c.in_ok-add_key.ensures.none c.in_ok-add_key.ensures.some
