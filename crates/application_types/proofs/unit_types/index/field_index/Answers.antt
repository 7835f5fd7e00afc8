use Rattle.application_types.specs.Index.{at_name}
use Rattle.application_types.specs.PlacesLaws.{item_more}
use Rattle.application_types.specs.declared.unit_types.unit.Field.{Field}
use Rattle.application_types.proofs.unit_types.index.field_index.Goals as goal

pub loop-i-preserved : goal.loop-i-preserved
loop-i-preserved c =
    item_more (λ (f : Field). f.name) (at_name c.loop-i.places) (at_name c.put_first.new.places) c.args.fields.now c.loop-i.i c.index-fields-i.result c.as_slice.result.now
    c.loop-i-test.true c.index-fields-i.is c.as_slice.ensures c.loop-i.invariant c.in_ok-put_first.ensures
