use Rattle.std.proofs.Common.{ap}
use Rattle.std.specs.Option.{option_map}
use Rattle.kdcs_types.specs.declared.key.Key.TheVariants as key
use Rattle.kdcs_types.specs.Tables.{gssb_key, tls_key, uls_key}
use Rattle.kdcs_types.proofs.AtPlaces.{found_in}
use Rattle.kdcs_types.proofs.tables.Tables.content.Goals as goal

pub returns-in-Some : goal.returns-in-Some
returns-in-Some c =
    rw (← c.self.view_is, c.in-Gssb.is) (ap (option_map (λ r. r.1))
    (found_in gssb_key (key.Gssb c.in-Gssb.name) _ _ _ c.self.invariant.gssbs c.deref-in-Gssb.ensures.value c.deref.ensures.value _ c.gssb_place.ensures _ c.in-Some.ensures))

pub returns-in-None : goal.returns-in-None
returns-in-None c =
    rw (← c.self.view_is, c.in-Gssb.is) (ap (option_map (λ r. r.1))
    (found_in gssb_key (key.Gssb c.in-Gssb.name) _ _ _ c.self.invariant.gssbs c.deref-in-Gssb.ensures.value c.deref.ensures.value _ c.gssb_place.ensures _ c.in-None.ensures))

pub returns-in-Some-found : goal.returns-in-Some-found
returns-in-Some-found c =
    rw (← c.self.view_is, c.in-Tls.is) (ap (option_map (λ r. r.2))
    (found_in tls_key (key.Tls c.in-Tls.block c.in-Tls.lterm) _ _ _ c.self.invariant.tlss c.deref-in-Tls-2.ensures.value c.deref-in-Tls.ensures.value _ c.tls_place.ensures _ c.in-Some-found.ensures))

pub returns-in-None-found : goal.returns-in-None-found
returns-in-None-found c =
    rw (← c.self.view_is, c.in-Tls.is) (ap (option_map (λ r. r.2))
    (found_in tls_key (key.Tls c.in-Tls.block c.in-Tls.lterm) _ _ _ c.self.invariant.tlss c.deref-in-Tls-2.ensures.value c.deref-in-Tls.ensures.value _ c.tls_place.ensures _ c.in-None-found.ensures))

pub returns-in-Some-found-2 : goal.returns-in-Some-found-2
returns-in-Some-found-2 c =
    rw (← c.self.view_is, c.in-Uls.is) (ap (option_map (λ r. r.2))
    (found_in uls_key (key.Uls c.in-Uls.block c.in-Uls.user) _ _ _ c.self.invariant.ulss c.deref-in-Uls-2.ensures.value c.deref-in-Uls.ensures.value _ c.uls_place.ensures _ c.in-Some-found-2.ensures))

pub returns-in-None-found-2 : goal.returns-in-None-found-2
returns-in-None-found-2 c =
    rw (← c.self.view_is, c.in-Uls.is) (ap (option_map (λ r. r.2))
    (found_in uls_key (key.Uls c.in-Uls.block c.in-Uls.user) _ _ _ c.self.invariant.ulss c.deref-in-Uls-2.ensures.value c.deref-in-Uls.ensures.value _ c.uls_place.ensures _ c.in-None-found-2.ensures))
