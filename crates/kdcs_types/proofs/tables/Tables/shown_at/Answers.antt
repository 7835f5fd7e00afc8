use Rattle.std.proofs.Common.{ap}
use Rattle.std.specs.Option.{option_map}
use Rattle.kdcs_types.specs.declared.key.Key.TheVariants as key
use Rattle.kdcs_types.specs.Tables.{shown_key}
use Rattle.kdcs_types.proofs.AtPlaces.{found_in}
use Rattle.kdcs_types.proofs.tables.Tables.shown_at.Goals as goal

pub returns-in-Some : goal.returns-in-Some
returns-in-Some c = rw (← c.self.view_is) (ap (option_map (λ r. r.1)) (found_in shown_key (key.Shown c.args.lterm) _ _ _ c.self.invariant.shown c.deref-2.ensures.value c.deref.ensures.value _ c.shown_place.ensures _ c.in-Some.ensures))

pub returns-in-None : goal.returns-in-None
returns-in-None c = rw (← c.self.view_is) (ap (option_map (λ r. r.1)) (found_in shown_key (key.Shown c.args.lterm) _ _ _ c.self.invariant.shown c.deref-2.ensures.value c.deref.ensures.value _ c.shown_place.ensures _ c.in-None.ensures))
