-- The ready services with the numbers of their arrivals, and the marks by which they are found.
use Rattle.std.specs.Prelude.{◌≡◌, ◌<◌, ℕ, Bool, false, not, IsTrue, List}
use Rattle.std.specs.List.{All, list_any}
use Rattle.std.specs.Ordering.{nat_cmp}
use Rattle.std.specs.FinMap.{find, is_sorted}
use Rattle.kdcs_types.specs.declared.key.ServiceId.{ServiceId}
use Rattle.kdcs_types.specs.Keys.{id_cmp, id_eq}
use Rattle.abstract_monitor.specs.Picks.{Classed, place_passes}
use Rattle.service_ends.specs.declared.step_scheduler.kinds.Kind.{Kind}
use Rattle.service_ends.specs.declared.step_scheduler.marks.Marks.{Marks}
use Rattle.service_ends.specs.Index.{is_marked}
use Rattle.service_ends.specs.Kinds.{kind_cmp, is_of_kind}

abbrev pub Arrivals : Type 0
Arrivals = List (ℕ × Classed)

-- a service arrived with this number, and passes the test
abbrev pub passes : (Classed → Bool) → Arrivals → ℕ → Bool
passes test arrivals n = place_passes test (find nat_cmp n arrivals)

-- all that arrived have lesser numbers
abbrev pub IsAfter : ℕ → Arrivals → Type 0
IsAfter n arrivals = All (λ (e : ℕ × Classed). e.0 < n) arrivals

-- the service is of one of these kinds
abbrev pub is_of_kinds : List Kind → Classed → Bool
is_of_kinds kinds e = list_any (λ (kind : Kind). is_of_kind kind e) kinds

-- the marks are those of the services that are ready
pub record AreMarks (marks : Marks) (arrivals : Arrivals) : Type 0 where
  pub kinds : (n : ℕ) → passes (λ e. not (is_of_kinds marks.kinds.items e)) arrivals n ≡ false
  pub by_kind : (kind : Kind) (n : ℕ) → is_marked kind_cmp marks.by_kind kind n ≡ passes (is_of_kind kind) arrivals n
  pub by_service : (id : ServiceId) (n : ℕ) → is_marked id_cmp marks.by_service id n ≡ passes (λ e. id_eq id e.0) arrivals n

-- the numbers ascend, and each service is found by its marks
pub record IsQueue (index : Marks) (arrivals : Arrivals) : Type 0 where
  pub ascending : IsTrue (is_sorted nat_cmp arrivals)
  pub marks : AreMarks index arrivals
