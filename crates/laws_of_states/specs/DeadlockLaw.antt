-- The test for a deadlock finds the relation of it.
use Rattle.std.specs.Prelude.{◌≡◌, ◌↔◌, IsTrue, false, Some}
use Rattle.kdcs_types.specs.declared.key.Area.{Area}
use Rattle.kdcs_types.specs.declared.key.ServiceId.{ServiceId}
use Rattle.kdcs_types.specs.Keys.{id_eq}
use Rattle.abstract_monitor.specs.Locks.{Locks, IsDeadlocked, holder, is_deadlocked}

-- where another service holds the area
abbrev pub DeadlocksAreFound : Type 0
DeadlocksAreFound =
    (l : Locks) (asker other : ServiceId) (area : Area) → holder l area ≡ Some other → id_eq other asker ≡ false
    → IsTrue (is_deadlocked l asker other) ↔ IsDeadlocked l asker area
