-- What an exploration promises.
use Rattle.std.specs.Prelude.{◌≡◌, ◌⊎◌, ◌+◌, ◌≤◌, ℕ, zero, suc, Bool, true, false, ◌&&◌, List, [], ◌∷◌, bytes_eq, cond, length, nat_lt, sum_by, Option, Some, None, ◌++◌}
use Rattle.std.specs.List.{list_any}
use Rattle.kdcs_types.specs.Tables.{TableRows}
use Rattle.abstract_monitor.specs.declared.command.Command.{Command}
use Rattle.abstract_monitor.specs.Commands.{started}
use Rattle.abstract_monitor.specs.State.{Application}
use Rattle.laws_of_states.specs.ItemsLaws.{IsIn}
use Rattle.lab_orders.specs.declared.explored.Explored.{Explored}
use Rattle.lab_orders.specs.declared.explored.Outcome.{Outcome}
use Rattle.lab_orders.specs.declared.performed.Found.{Found}
use Rattle.lab_orders.specs.declared.standing.Node.{Node}
use Rattle.lab_orders.specs.Finding.{IsFound, found_result}
use Rattle.lab_orders.specs.Laws.{IsOrdered}
use Rattle.lab_orders.specs.Standing.{AllAreCovered, AreNodes, IsFollowed, IsStoodFor}
use Rattle.lab_walks.specs.declared.frame.Frame.{Frame}
use Rattle.lab_walks.specs.Frames.{turns_in}
use Rattle.lab_walks.specs.Lists.{AreOnce}
use Rattle.lab_walks.specs.Orders.{IsOrder}
use Rattle.abstract_monitor.specs.Bytes.{Bytes}
use Rattle.lab_walks.specs.Outcomes.{HasOutcome, left_by, sent_by}
use Rattle.lab_walks.specs.Serial.{is_serial}
use Rattle.lab_orders.specs.Told.{AreMore, AreTold, AreWalks, ComesTo, outcome_result, turns_of}
use Rattle.lab_walks.specs.Walks.{IsWalk}

-- the outcome of a walk, which it shows with what it sends
pub record IsOutcome (app : Application) (t : TableRows) (commands : List Command) (outcome : Outcome) : Type 0 where
  pub walk : IsWalk app commands (started app t) outcome.turns
  pub sent : outcome.sent ≡ sent_by app commands (started app t) outcome.turns
  pub comes : ComesTo app commands (started app t) outcome outcome.turns

-- each is one
abbrev pub AreOutcomes : Application → TableRows → List Command → List Outcome → Type 0
AreOutcomes app t commands [] = Unit {0}
AreOutcomes app t commands (x ∷ xs) = IsOutcome app t commands x × AreOutcomes app t commands xs

-- the turns that each shows are those with an effect of an order
abbrev pub AreOrdered : Application → TableRows → List Command → List Outcome → Type 0
AreOrdered app t commands [] = Unit {0}
AreOrdered app t commands (x ∷ xs) = IsOrdered app commands (started app t) x.turns × AreOrdered app t commands xs

-- a walk comes to one of the outcomes
abbrev pub IsShown : Application → TableRows → List Command → List Outcome → (walk : List ℕ) → Type 0
IsShown app t commands [] walk = ⊥
IsShown app t commands (x ∷ xs) walk = ComesTo app commands (started app t) x walk ⊎ IsShown app t commands xs walk

-- the lines of each name and the tables that come out of an order are those of one of the outcomes
abbrev pub IsMet : Application → TableRows → List Command → List Outcome → (order : List ℕ) → Type 0
IsMet app t commands [] order = ⊥
IsMet app t commands (x ∷ xs) order = HasOutcome app commands (started app t) order x.lines x.tables ⊎ IsMet app t commands xs order

-- each order's are
abbrev pub AreAll : Application → TableRows → List Command → List Outcome → Type 0
AreAll app t commands outcomes = (order : List ℕ) → IsOrder app commands (started app t) order → IsMet app t commands outcomes order

-- the same lines of each name, the same tables, and the same signs
abbrev pub AreSame : Outcome → Outcome → Type 0
AreSame x y = outcome_result x ≡ outcome_result y

-- none of these is the same
abbrev pub IsOther : Outcome → List Outcome → Type 0
IsOther x [] = Unit {0}
IsOther x (y ∷ ys) = (AreSame x y → ⊥) × IsOther x ys

-- no two of them are the same
abbrev pub AreDistinct : List Outcome → Type 0
AreDistinct [] = Unit {0}
AreDistinct (x ∷ xs) = IsOther x xs × AreDistinct xs

-- how many orders come to these outcomes
abbrev pub orders_of : List Outcome → ℕ
orders_of outcomes = sum_by (λ (o : Outcome). o.orders) outcomes

-- ---- whole transactions

-- an order with each transaction in one go comes to these tables
abbrev pub is_serial_with : (tables : Bytes) → Outcome → Bool
is_serial_with tables outcome = bytes_eq outcome.tables tables && nat_lt 0 outcome.serial

-- of one of the outcomes: so the tables of this one can come of whole transactions, one after another
abbrev pub tables_are_serial : List Outcome → Outcome → Bool
tables_are_serial outcomes x = list_any (is_serial_with x.tables) outcomes

-- a walk with each transaction in one go that leaves these tables
pub record LeavesSerially (app : Application) (t : TableRows) (commands : List Command) (tables : Bytes) (walk : List ℕ) : Type 0 where
  pub walk_is : IsWalk app commands (started app t) walk
  pub serial : is_serial app commands (started app t) walk ≡ true
  pub tables_are : left_by app commands (started app t) walk ≡ tables

-- there is one, or there is none
abbrev pub SomeOrNone : Application → TableRows → List Command → (tables : Bytes) → (some : Bool) → Type 0
SomeOrNone app t commands tables true = (walk : List ℕ) × LeavesSerially app t commands tables walk
SomeOrNone app t commands tables false = (walk : List ℕ) → LeavesSerially app t commands tables walk → ⊥

-- just so is it told of the tables of each outcome
abbrev pub AreToldSerial : Application → TableRows → List Command → List Outcome → Type 0
AreToldSerial app t commands outcomes = (x : Outcome) → IsIn x outcomes → SomeOrNone app t commands x.tables (tables_are_serial outcomes x)

-- ---- just these walks

-- distinct outcomes of just these walks
pub record IsTally (app : Application) (t : TableRows) (commands : List Command) (walks : List (List ℕ)) (outcomes : List Outcome) : Type 0 where
  pub each : AreOutcomes app t commands outcomes
  pub distinct : AreDistinct outcomes
  pub counted : orders_of outcomes ≡ length walks
  pub told : AreTold app commands (started app t) walks outcomes
  pub walks_are : AreWalks app commands (started app t) walks
  pub shown : (walk : List ℕ) → IsIn walk walks → IsShown app t commands outcomes walk

-- the walks that were tried, and that the outcomes tell of them what is so
pub record IsTried (app : Application) (t : TableRows) (commands : List Command) (e : Explored) : Type 0 where
  pub walks : List (List ℕ)
  pub each : AreWalks app commands (started app t) walks
  -- the number told is theirs
  pub number : length walks ≡ e.orders
  -- each comes to one of the outcomes
  pub shown : (walk : List ℕ) → IsIn walk walks → IsShown app t commands e.outcomes walk
  pub told : AreTold app commands (started app t) walks e.outcomes
  -- where they tell of all, each walk is stood for by one of them
  pub stood : e.all ≡ true → (walk : List ℕ) → IsWalk app commands (started app t) walk → IsStoodFor app commands (started app t) walks walk
  -- where each was tried, it was, and once
  pub once : e.each ≡ true → AreOnce walks
  pub whole : e.each ≡ true → (walk : List ℕ) → IsWalk app commands (started app t) walk → IsIn walk walks

-- of walks that stand for all, which are at most so many, or of each walk
pub record IsOfAllWalks (app : Application) (t : TableRows) (commands : List Command) (most : ℕ) (e : Explored) : Type 0 where
  pub walks : List (List ℕ)
  pub tally : IsTally app t commands walks e.outcomes
  pub number : length walks ≡ e.orders
  pub stood : (walk : List ℕ) → IsWalk app commands (started app t) walk → IsStoodFor app commands (started app t) walks walk
  pub once : e.each ≡ true → AreOnce walks
  pub whole : e.each ≡ true → (walk : List ℕ) → IsWalk app commands (started app t) walk → IsIn walk walks
  pub all : e.all ≡ true
  pub most_orders : e.orders ≤ most

-- of all walks; where not each of them was tried, there are more than so many
abbrev pub AllOrMore : Application → TableRows → List Command → (most : ℕ) → Option Explored → Type 0
AllOrMore app t commands most (Some e) = IsOfAllWalks app t commands most e × (e.each ≡ false → AreMore app commands (started app t) most)
AllOrMore app t commands most None = AreMore app commands (started app t) most

-- of just so many walks
pub record IsDrawn (app : Application) (t : TableRows) (commands : List Command) (most : ℕ) (e : Explored) : Type 0 where
  pub walks : List (List ℕ)
  pub tally : IsTally app t commands walks e.outcomes
  pub number : length walks ≡ e.orders
  pub all : e.all ≡ false
  pub each : e.each ≡ false
  pub orders : e.orders ≡ most

-- ---- one order more

-- what comes out of the walk is the outcome
abbrev pub IsThatOf : Outcome → Found → Type 0
IsThatOf outcome found = outcome_result outcome ≡ found_result found

-- the first such outcome is at this place
abbrev pub IsThere : List Outcome → Found → ℕ → Type 0
IsThere [] found at = ⊥
IsThere (x ∷ xs) found zero = IsThatOf x found
IsThere (x ∷ xs) found (suc at) = (IsThatOf x found → ⊥) × IsThere xs found at

-- it has fewer turns than the one that is shown
abbrev pub is_shorter : Found → Outcome → Bool
is_shorter found outcome = nat_lt (turns_of found.turns) (turns_of outcome.turns)

-- one walk more that comes to it, and it shows the shorter one
pub record IsCounted (old new : Outcome) (found : Found) : Type 0 where
  pub same : IsThatOf old found
  pub result : outcome_result new ≡ outcome_result old
  pub turns : new.turns ≡ cond (is_shorter found old) found.turns old.turns
  pub sent : new.sent ≡ cond (is_shorter found old) found.sent old.sent
  pub orders : new.orders ≡ old.orders + 1
  pub serial : new.serial ≡ old.serial + cond found.serial 1 0

-- what was found is a new outcome
pub record IsFirst (new : Outcome) (found : Found) : Type 0 where
  pub same : IsThatOf new found
  pub turns : new.turns ≡ found.turns
  pub sent : new.sent ≡ found.sent
  pub orders : new.orders ≡ 1
  pub serial : new.serial ≡ cond found.serial 1 0

-- what was found is one outcome more, or counts for the first that is the same
abbrev pub IsAdded : (old new : List Outcome) → Found → Type 0
IsAdded [] [] found = ⊥
IsAdded [] (y ∷ []) found = IsFirst y found
IsAdded [] (y ∷ z ∷ zs) found = ⊥
IsAdded (x ∷ xs) [] found = ⊥
IsAdded (x ∷ xs) (y ∷ ys) found = (IsCounted x y found × (ys ≡ xs)) ⊎ ((y ≡ x) × (IsThatOf x found → ⊥) × IsAdded xs ys found)

-- ---- walks that stand for all

-- the walks that were found, at most so many, and those that begin with the turns of these nodes stand for all
pub record AreFollowed (app : Application) (t : TableRows) (commands : List Command) (most orders : ℕ) (outcomes : List Outcome) (nodes : List Node) : Type 0 where
  pub walks : List (List ℕ)
  pub tally : IsTally app t commands walks outcomes
  pub number : length walks ≡ orders
  pub few : orders ≤ most
  pub nodes_are : AreNodes app t commands nodes
  pub covered : AllAreCovered app commands (started app t) walks nodes

-- the turns of these frames were followed to nodes, or they are a walk, with which no other begins
abbrev pub IsFollowedIf : Application → TableRows → List Command → (nodes : List Node) → List Frame → Option Found → Type 0
IsFollowedIf app t commands nodes frames None = IsFollowed app commands (started app t) nodes frames
IsFollowedIf app t commands nodes frames (Some found) = IsFound app t commands found × ((o : List ℕ) → IsWalk app commands (started app t) (turns_in frames ++ o) → turns_in frames ++ o ≡ found.turns)

-- what was found, if anything, is added, and the orders are at most so many
abbrev pub IsAddedIf : (most : ℕ) → (old new : List Outcome) → (before after : ℕ) → Option Found → Type 0
IsAddedIf most old new before after None = (new ≡ old) × (after ≡ before)
IsAddedIf most old new before after (Some found) = IsAdded old new found × (after ≡ before + 1) × (after ≤ most)
