use Rattle.std.proofs.Common.{ℕ, List}
use Rattle.std.specs.BTreeMap.{get_by}
use Rattle.std.specs.Cmp.Lexicographic.{slice_cmp}
use Rattle.std.specs.Ordering.{nat_cmp}
use Rattle.application_types.specs.PlacesLaws.{item_more}
use Rattle.application_types.specs.UnitText.{UnitText}
use Rattle.application_types.proofs.units.places_of.Goals as goal

pub loop-i-preserved : goal.loop-i-preserved
loop-i-preserved c =
    item_more (λ (u : UnitText). u.name) (λ (w : List ℕ). get_by (slice_cmp nat_cmp w) c.loop-i.places) (λ (w : List ℕ). get_by (slice_cmp nat_cmp w) c.put_first.new.places)
    c.args.units.now c.loop-i.i c.index-units-i.result c.name.result.now
    c.loop-i-test.true c.index-units-i.is c.name.ensures c.loop-i.invariant c.in_ok-put_first.ensures
