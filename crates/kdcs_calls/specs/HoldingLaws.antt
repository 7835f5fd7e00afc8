-- While the locks give a service just what its transaction touches, no area changes hands by what touches no other.
use Rattle.std.specs.Prelude.{◌≡◌, refl, Bool, true, false, List, Option, Some, None, if◌then◌else◌}
use Rattle.std.proofs.Common.{ap, sym, ◌∙◌, true≢false}
use Rattle.std.specs.List.{list_any}
use Rattle.kdcs_types.specs.declared.key.Area.{Area}
use Rattle.kdcs_types.specs.declared.key.ServiceId.{ServiceId}
use Rattle.kdcs_types.specs.KeyLaws.{id_eq_itself, id_eq_same}
use Rattle.kdcs_types.specs.Keys.{area_eq, id_eq}
use Rattle.monitor_parts.specs.Asked.{is_holder, other_than}
use Rattle.abstract_monitor.specs.Calls.{touches}
use Rattle.abstract_monitor.specs.Locks.{Locks, holder}
use Rattle.abstract_monitor.specs.State.{OpenTransaction as Transaction}
use Rattle.kdcs_calls.specs.Calling.{HoldersMatch, HoldsJust, holder_then}

-- HoldsJust again
pub match_holds : (l m : Locks) (id : ServiceId) (x : Transaction) → HoldersMatch l m id x → HoldsJust m id x
match_holds l m id x matching area = ap (λ (o : Option ServiceId). is_holder o id) (matching area) ∙ by (holder l area) (touches x area)
  where
    other : (o : ServiceId) (b : Bool) → id_eq o id ≡ b → is_holder (if b then None else Some o) id ≡ false
    other o true e = refl
    other o false e = e

    by : (o : Option ServiceId) (b : Bool) → is_holder (if b then Some id else other_than id o) id ≡ b
    by o true = id_eq_itself id
    by None false = refl
    by (Some o) false = other o (id_eq o id) refl

module _ (l : Locks) (id : ServiceId) (x : Transaction) (h : HoldsJust l id x) where
  pub kept : (area : Area) → holder l area ≡ holder_then id x area (holder l area)
  kept area = by (holder l area) (touches x area) (h area)
    where
      by : (o : Option ServiceId) (b : Bool) → is_holder o id ≡ b → o ≡ (if b then Some id else other_than id o)
      by None true e = absurd (true≢false (sym e))
      by None false e = refl
      by (Some other) true e = ap (λ (i : ServiceId). Some i) (id_eq_same other id e)
      by (Some other) false e = sym (ap (λ (b : Bool). if b then None else Some other) e)

  pub quiet_matches : (y : Transaction) → y.touched ≡ x.touched → HoldersMatch l l id y
  quiet_matches y e area =
      kept area ∙ ap (λ (held : List Area). if list_any (λ (k : Area). area_eq k area) held then Some id else other_than id (holder l area)) (sym e)
