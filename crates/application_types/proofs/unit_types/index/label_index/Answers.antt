use Rattle.std.proofs.Common.{refl}
use Rattle.application_types.specs.Index.{at_name}
use Rattle.application_types.specs.PlacesLaws.{label_more}
use Rattle.application_types.proofs.unit_types.index.label_index.Goals as goal

pub loop-label-preserved : goal.loop-label-preserved
loop-label-preserved c =
    label_more (at_name c.loop-label.places) (at_name c.put_first.new.places) c.args.labels.now c.loop-label.label-index c.loop-label-item.result c.as_slice.result.now c.loop-label-item.result.1
    c.loop-label-test.true c.loop-label-item.is c.as_slice.ensures refl c.loop-label.invariant c.in_ok-put_first.ensures
