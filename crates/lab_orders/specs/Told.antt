-- What is told of the walks that were tried.
use Rattle.std.specs.Prelude.{◌≡◌, ◌+◌, ◌≤◌, ℕ, Bool, ◌&&◌, List, [], ◌∷◌, count_by, length, nat_lt}
use Rattle.abstract_monitor.specs.declared.command.Command.{Command}
use Rattle.abstract_monitor.specs.State.{Application, State}
use Rattle.laws_of_states.specs.ItemsLaws.{IsIn}
use Rattle.lab_orders.specs.declared.explored.Outcome.{Outcome}
use Rattle.lab_walks.specs.Lists.{AreOnce}
use Rattle.lab_walks.specs.Outcomes.{Result, result_of, same_result}
use Rattle.lab_walks.specs.Serial.{is_serial}
use Rattle.lab_walks.specs.Walks.{IsWalk}

-- how many turns of tasks a walk has: 0 is none
abbrev pub turns_of : (walk : List ℕ) → ℕ
turns_of walk = count_by (λ (task : ℕ). nat_lt 0 task) walk

-- what the code says of an outcome
abbrev pub outcome_result : Outcome → Result
outcome_result x = record { lines = x.lines; tables = x.tables; signs = x.signs }

-- the walk comes to the outcome: for each name the same lines are sent, the tables are the same, and so are the signs
abbrev pub ComesTo : Application → List Command → State → Outcome → (walk : List ℕ) → Type 0
ComesTo app cs s x walk = outcome_result x ≡ result_of app cs s walk

abbrev pub comes_to : Application → List Command → State → Outcome → (walk : List ℕ) → Bool
comes_to app cs s x walk = same_result (outcome_result x) (result_of app cs s walk)

-- and in the walk each transaction runs in one go
abbrev pub comes_serially : Application → List Command → State → Outcome → (walk : List ℕ) → Bool
comes_serially app cs s x walk = comes_to app cs s x walk && is_serial app cs s walk

-- one of the walks that were tried, which comes to the outcome
pub record IsOneOf (app : Application) (cs : List Command) (s : State) (walks : List (List ℕ)) (x : Outcome) (walk : List ℕ) : Type 0 where
  pub among : IsIn walk walks
  pub comes : ComesTo app cs s x walk

-- what is told of an outcome
pub record IsTold (app : Application) (cs : List Command) (s : State) (walks : List (List ℕ)) (x : Outcome) : Type 0 where
  -- so many of the walks come to it
  pub orders : x.orders ≡ count_by (comes_to app cs s x) walks
  -- so many of these have each transaction in one go
  pub serial : x.serial ≡ count_by (comes_serially app cs s x) walks
  -- it shows one of them
  pub shown : IsOneOf app cs s walks x x.turns
  -- none of them has fewer turns
  pub shortest : (walk : List ℕ) → IsOneOf app cs s walks x walk → turns_of x.turns ≤ turns_of walk

-- of each outcome
abbrev pub AreTold : Application → List Command → State → List (List ℕ) → List Outcome → Type 0
AreTold app cs s walks [] = Unit {0}
AreTold app cs s walks (x ∷ xs) = IsTold app cs s walks x × AreTold app cs s walks xs

-- each of them is a walk
abbrev pub AreWalks : Application → List Command → State → List (List ℕ) → Type 0
AreWalks app cs s walks = (walk : List ℕ) → IsIn walk walks → IsWalk app cs s walk

-- there are more walks than so many: one more of them, none twice
pub record AreMore (app : Application) (cs : List Command) (s : State) (most : ℕ) : Type 0 where
  pub walks : List (List ℕ)
  pub each : AreWalks app cs s walks
  pub once : AreOnce walks
  pub number : length walks ≡ most + 1
