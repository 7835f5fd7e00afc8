use Rattle.kdcs_types.specs.declared.key.Key.TheVariants as key
use Rattle.kdcs_types.specs.Tables.{service_key}
use Rattle.kdcs_types.proofs.AtPlaces.{found_in}
use Rattle.kdcs_types.proofs.tables.Tables.service.Goals as goal

pub returns : goal.returns
returns c = rw (← c.self.view_is) (found_in service_key (key.Service c.args.id) _ _ _ c.self.invariant.services c.deref-2.ensures.value c.deref.ensures.value _ c.service_place.ensures _ c.found.ensures)
