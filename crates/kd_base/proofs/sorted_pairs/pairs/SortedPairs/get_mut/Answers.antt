use Rattle.std.proofs.Common.{refl}
use Rattle.kd_base.specs.PlacesLaws.{none_found}
use Rattle.kd_base.proofs.sorted_pairs.pairs.SortedPairs.get_mut.Goals as goal

pub returns-in-Err : goal.returns-in-Err
returns-in-Err g c = (
  refl,
  record { writes_back = tt; value = none_found g.K.Ord.cmp g.met.K.Ord.total c.args.key.now c.args.self.now _ _ c.place.ensures.ascending refl c.in-Err.ensures.place },
)
