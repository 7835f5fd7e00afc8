-- What an exploration answers.
use Rattle.std.specs.Prelude.{ℕ, Bool, ◌&&◌, ◌||◌, not, nat_lt, List, length}
use Rattle.std.specs.List.{list_any}
use Rattle.lab_orders.specs.declared.explored.Outcome.{Outcome}
use Rattle.lab_orders.specs.Exploring.{tables_are_serial}
use Rattle.lab_cli.specs.Invariants.{is_broken}

-- at its end a service waits, and nobody can go on
abbrev pub stands_still : Outcome → Bool
stands_still outcome = outcome.signs.standstill

-- a RUN of it ends while a task's turn has an effect
abbrev pub is_spent : Outcome → Bool
is_spent outcome = outcome.signs.spent

-- no request was refused, and nothing kept a transaction from its end
abbrev pub is_unhindered : Outcome → Bool
is_unhindered outcome = not (outcome.signs.k04 || outcome.signs.k05 || outcome.signs.standstill || outcome.signs.spent)

-- some orders that come to it have each transaction in one go
abbrev pub is_serial : Outcome → Bool
is_serial outcome = nat_lt 0 outcome.serial

-- all orders are known, some have each transaction in one go, and none of these leaves the tables of the outcome, in which no transaction was hindered
abbrev pub is_not_serial : List Outcome → Outcome → (all : Bool) → Bool
is_not_serial outcomes outcome all = all && is_unhindered outcome && list_any is_serial outcomes && not (tables_are_serial outcomes outcome)

-- there are two outcomes, or one is a standstill, or a RUN of one is spent, or one is not serial, or one breaks a line of the script
abbrev pub do_differ : (script : List ℕ) → List Outcome → (all : Bool) → Bool
do_differ script outcomes all = nat_lt 1 (length outcomes) || list_any stands_still outcomes || list_any is_spent outcomes || list_any (λ (outcome : Outcome). is_not_serial outcomes outcome all) outcomes || list_any (is_broken script) outcomes
