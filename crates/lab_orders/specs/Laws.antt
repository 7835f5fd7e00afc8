-- What holds of orders and walks.
use Rattle.std.specs.Prelude.{◌≡◌, ℕ, List}
use Rattle.kdcs_types.specs.Tables.{IsSortedTables, TableRows}
use Rattle.abstract_monitor.specs.declared.command.Command.{Command}
use Rattle.abstract_monitor.specs.Bytes.{Bytes}
use Rattle.abstract_monitor.specs.Commands.{started}
use Rattle.abstract_monitor.specs.State.{Application, State}
use Rattle.abstract_monitor.specs.Trace.{history}
use Rattle.laws_of_states.specs.Applications.{IsApplication}
use Rattle.laws_of_states.specs.Keeping.{IsScriptOf}
use Rattle.laws_of_states.specs.Suits.{Suits}
use Rattle.lab_walks.specs.Orders.{IsOrder, order_steps, turned_script, worked}
use Rattle.lab_walks.specs.Outcomes.{HasOutcome}
use Rattle.lab_walks.specs.Walks.{IsWalk}

-- tables from which the script can start
pub record Starts (app : Application) (t : TableRows) (cs : List Command) : Type 0 where
  pub application : IsApplication app
  pub order : IsSortedTables t
  pub suits : Suits app.generation t
  pub names : IsScriptOf app cs

-- an order without its turns without effect is a walk, and it comes to the same
pub record IsWalked (app : Application) (t : TableRows) (cs : List Command) (order : List ℕ) : Type 0 where
  pub walk : IsWalk app cs (started app t) (worked app cs (started app t) order)
  pub same : (lines : List Bytes) (tables : Bytes) → HasOutcome app cs (started app t) (worked app cs (started app t) order) lines tables → HasOutcome app cs (started app t) order lines tables

-- each order is
abbrev pub OrdersAreWalked : Type 0
OrdersAreWalked = (app : Application) (t : TableRows) (cs : List Command) → Starts app t cs → (order : List ℕ) → IsOrder app cs (started app t) order → IsWalked app t cs order

-- a walk is an order without its turns without effect
pub record IsOrdered (app : Application) (cs : List Command) (s : State) (walk : List ℕ) : Type 0 where
  pub order : List ℕ
  pub is_order : IsOrder app cs s order
  pub is : worked app cs s order ≡ walk

-- each walk is
abbrev pub WalksAreOrders : Type 0
WalksAreOrders = (app : Application) (cs : List Command) (s : State) (walk : List ℕ) → IsWalk app cs s walk → IsOrdered app cs s walk

-- an order that does, step by step, what the script does in the rotation of the tasks
pub record IsRotation (app : Application) (t : TableRows) (cs : List Command) (order : List ℕ) : Type 0 where
  pub is_order : IsOrder app cs (started app t) order
  pub steps : order_steps app cs (started app t) order ≡ history app (started app t) cs

-- there is one
abbrev pub RotationsAreOrders : Type 0
RotationsAreOrders = (app : Application) (t : TableRows) (cs : List Command) → Starts app t cs → (order : List ℕ) × IsRotation app t cs order

-- the script that a walk stands for names what the generation has, as the script of which it is a walk does
abbrev pub WalksAreScripts : Type 0
WalksAreScripts = (app : Application) (cs : List Command) (s : State) (walk : List ℕ) → IsScriptOf app cs → IsWalk app cs s walk → IsScriptOf app (turned_script cs walk)
