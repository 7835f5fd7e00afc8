-- What is printed of an exploration, line by line.
use Rattle.std.specs.Prelude.{◌≡◌, ℕ, ◌+◌, Bool, All, true, false, List, [], ◌∷◌, ◌++◌, length, flat_map, codes, decimal}
use Rattle.abstract_monitor.specs.declared.command.Command.{Command}
use Rattle.abstract_monitor.specs.Lines.{line}
use Rattle.abstract_monitor.specs.State.{Application, State}
use Rattle.laws_of_states.specs.Keeping.{IsScriptOf}
use Rattle.lab_walks.specs.declared.signs.Signs.{Signs}
use Rattle.lab_walks.specs.Orders.{turned_script}
use Rattle.lab_turns.specs.Phrases.{command_text}
use Rattle.lab_orders.specs.declared.explored.Explored.{Explored}
use Rattle.lab_orders.specs.declared.explored.Outcome.{Outcome}
use Rattle.lab_scripts.specs.Parting.{TellsParting, indented, indented_line}
use Rattle.lab_cli.specs.Exploring.{is_not_serial}

-- ---- the orders

-- where not each order was tried: those that were tried stand for all, or they were drawn from this number
abbrev pub some_text : (all : Bool) → (number : ℕ) → List ℕ
some_text true number = codes " FOR ALL"
some_text false number = codes " DRAWN FROM " ++ decimal number

-- these are all orders, or some of them
abbrev pub chosen_text : (each all : Bool) → (number : ℕ) → List ℕ
chosen_text true all number = codes " ALL"
chosen_text false all number = some_text all number

-- how many orders were tried, which, and how many outcomes they have
abbrev pub orders_line : (number : ℕ) → Explored → List ℕ
orders_line number e = line (codes "ORDERS " ++ decimal e.orders ++ chosen_text e.each e.all number ++ codes " OUTCOMES " ++ decimal (length e.outcomes))

-- ---- an outcome

-- the word of a sign, where the outcome has it
abbrev pub sign_text : (word : List ℕ) → (has : Bool) → List ℕ
sign_text word true = word
sign_text word false = []

abbrev pub signs_text : Signs → List ℕ
signs_text signs =
    sign_text (codes " K04") signs.k04
    ++ sign_text (codes " K05") signs.k05
    ++ sign_text (codes " DUMP") signs.dump
    ++ sign_text (codes " STANDSTILL") signs.standstill
    ++ sign_text (codes " SPENT") signs.spent

-- its number, how many orders come to it, its signs, and whether no order of whole transactions leaves its tables
abbrev pub outcome_line : (number : ℕ) → (not_serial : Bool) → Outcome → List ℕ
outcome_line number not_serial o = line (codes "OUTCOME " ++ decimal number ++ codes " ORDERS " ++ decimal o.orders ++ signs_text o.signs ++ sign_text (codes " NOT SERIAL") not_serial)

-- a command, as a script has it
abbrev pub command_below : Command → List ℕ
command_below command = indented_line (command_text command)

-- the script of the order that it shows, what this order sends, and the tables at its end
abbrev pub parts_text : List Command → Outcome → List ℕ
parts_text commands o =
    codes "SCRIPT\n" ++ flat_map command_below (turned_script commands o.turns)
    ++ codes "SENT\n" ++ indented o.sent
    ++ codes "TABLES\n" ++ indented o.tables

abbrev pub outcome_text : List Command → (number : ℕ) → (not_serial : Bool) → Outcome → List ℕ
outcome_text commands number not_serial o = outcome_line number not_serial o ++ parts_text commands o

-- the script of each outcome names only what the generation has
abbrev pub AreScripts : Application → List Command → List Outcome → Type 0
AreScripts app commands outcomes = All (λ o. IsScriptOf app (turned_script commands o.turns)) outcomes

-- ---- all of it

-- outcomes behind the first one, numbered from this number on: what is printed of each, and then where its script parts from that of the first one
abbrev pub TellsOthers : Application → State → (source : List (List ℕ)) → List Command → Explored → (first : Outcome) → (number : ℕ) → List Outcome → (text : List ℕ) → Type 0
TellsOthers app s source commands e first number [] text = text ≡ []
TellsOthers app s source commands e first number (o ∷ os) text =
    (told : List ℕ) × (rest : List ℕ) × TellsParting app s source 1 (turned_script commands first.turns) (turned_script commands o.turns) told × TellsOthers app s source commands e first (number + 1) os rest
    × (text ≡ outcome_text commands number (is_not_serial e.outcomes o e.all) o ++ told ++ rest)

-- outcomes of an exploration, from the first one on
abbrev pub TellsOutcomes : Application → State → (source : List (List ℕ)) → List Command → Explored → List Outcome → (text : List ℕ) → Type 0
TellsOutcomes app s source commands e [] text = text ≡ []
TellsOutcomes app s source commands e (o ∷ os) text = (rest : List ℕ) × TellsOthers app s source commands e o 2 os rest × (text ≡ outcome_text commands 1 (is_not_serial e.outcomes o e.all) o ++ rest)

-- this text tells all of an exploration of these commands from this state, where drawn orders come from this number
abbrev pub TellsExplored : Application → State → (source : List (List ℕ)) → List Command → (number : ℕ) → Explored → (text : List ℕ) → Type 0
TellsExplored app s source commands number e text = (rest : List ℕ) × TellsOutcomes app s source commands e e.outcomes rest × (text ≡ orders_line number e ++ rest)
