-- What the tasks hold, one after another.
use Rattle.std.specs.Prelude.{◌≡◌, refl, ℕ, ◌+◌, ◌-◌, ◌<◌, [], ◌∷◌, ◌++◌, length, map, slice_get, Option, Some, None}
use Rattle.std.proofs.Common.{ap, sym, ◌∙◌, arith, take, get_or}
use Rattle.std.proofs.lemmas.List.{map_more}
use Rattle.std.proofs.lemmas.Option.{unwrap_or-slice_get}
use Rattle.std.specs.Option.{unwrap_or}
use Rattle.abstract_monitor.specs.Picks.{Classed}
use Rattle.service_ends.specs.Schedule.{Schedule, place_by, place_of, service_in}

place_or : (o : Option (Option Classed)) → place_by o ≡ unwrap_or o None
place_or None = refl
place_or (Some place) = refl

pub held_more : (s : Schedule) (n : ℕ) → n < length s.places → map service_in (take (n + 1) s.places) ≡ map service_in (take n s.places) ++ service_in (place_of (n + 1) s) ∷ []
held_more s n within = map_more service_in s.places n None within ∙ ap (λ place. map service_in (take n s.places) ++ service_in place ∷ []) (sym here)
  where
    back : n + 1 - 1 ≡ n
    back = omega arith

    here : place_of (n + 1) s ≡ get_or s.places n None
    here = ap (λ k. place_by (slice_get s.places k)) back ∙ place_or (slice_get s.places n) ∙ unwrap_or-slice_get s.places n None
