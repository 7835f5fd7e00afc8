-- Counts of what the tasks hold, and where the free ones at the end begin.
use Rattle.std.specs.Prelude.{◌≡◌, ◌<◌, ◌≤◌, ℕ, ◌==◌, List, length, Option, Some, None, slice_get, slice_index}
use Rattle.abstract_monitor.specs.Endings.{is_asynchronous}
use Rattle.abstract_monitor.specs.Picks.{Classed, tasks_with}

-- how many tasks hold a service of each class, and how many an asynchronous one
pub record AreCounts (places : List (Option Classed)) (counts : List ℕ) (count : ℕ) : Type 0 where
  pub classes : length counts ≡ 256
  pub of_class : (class : ℕ) → class < 256 → slice_index counts class ≡ tasks_with places (λ (e : Classed). e.1 == class)
  pub asynchronous : count ≡ tasks_with places (λ (e : Classed). is_asynchronous e.0)

-- from this place on, all are free
abbrev pub AreFreeFrom : (places : List (Option Classed)) → (used : ℕ) → Type 0
AreFreeFrom places used = (place : ℕ) → used ≤ place → place < length places → slice_get places place ≡ Some None
