-- The holders of areas once more, by the service.
use Rattle.std.specs.Prelude.{◌≡◌, Bool, true, false, IsTrue, List, Option, Some, None, is_some}
use Rattle.std.specs.Option.{option_cmp}
use Rattle.std.specs.Ordering.{ordering_then}
use Rattle.std.specs.declared.cmp.Ordering.{Ordering}
use Rattle.std.specs.FinMap.{find, is_sorted}
use Rattle.kdcs_types.specs.declared.key.Area.{Area}
use Rattle.kdcs_types.specs.declared.key.ServiceId.{ServiceId}
use Rattle.kdcs_types.specs.Keys.{area_cmp, id_cmp, id_eq}
use Rattle.abstract_monitor.specs.Locks.{Locks, holder}
use Rattle.monitor_parts.specs.Asked.{is_holder}

-- a service, and an area that it holds
abbrev pub Holding : Type 0
Holding = ServiceId × Option Area

-- by service, then by area; no area stands before all
abbrev pub holding_cmp : Holding → Holding → Ordering
holding_cmp h k = ordering_then (id_cmp h.0 k.0) (option_cmp area_cmp h.1 k.1)

-- the service holds the area
abbrev pub is_held : List (Area × ServiceId) → ServiceId → Option Area → Bool
is_held holders who None = false
is_held holders who (Some area) = is_holder (find area_cmp area holders) who

-- a service stands with an area just where it holds it, and so once
pub record IsIndex {X : Type 0} (holders : List (Area × ServiceId)) (held : List (Holding × X)) : Type 0 where
  pub ascending : IsTrue (is_sorted area_cmp holders)
  pub exact : (who : ServiceId) (area : Option Area) → is_some (find holding_cmp (who, area) held) ≡ is_held holders who area

-- no other service holds the area
abbrev pub IsOpenTo : Locks → ServiceId → Area → Type 0
IsOpenTo l who area = (other : ServiceId) → holder l area ≡ Some other → id_eq other who ≡ true
