-- What a script demands of the tables at the end of each order, and what is printed of outcomes that break it.
use Rattle.std.specs.Prelude.{ℕ, ◌+◌, Bool, true, false, not, bytes_eq, List, [], ◌∷◌, ◌++◌, take, drop, flat_map, codes, decimal}
use Rattle.std.specs.List.{list_any}
use Rattle.std.specs.Str.Lines.{lines}
use Rattle.abstract_monitor.specs.Lines.{line}
use Rattle.script_read.specs.Script.{same}
use Rattle.lab_orders.specs.declared.explored.Outcome.{Outcome}

-- the text has this line
abbrev pub has_line : (text wanted : List ℕ) → Bool
has_line text wanted = list_any (λ (l : List ℕ). bytes_eq l wanted) (lines text)

abbrev pub breaks_by : (wanted unwanted has : Bool) → Bool
breaks_by true unwanted has = not has
breaks_by false true has = has
breaks_by false false has = false

-- the tables lack the line behind `*= `, or have the one behind `*! `
abbrev pub breaks : (tables demand : List ℕ) → Bool
breaks tables demand = breaks_by (same (take 3 demand) (codes "*= ")) (same (take 3 demand) (codes "*! ")) (has_line tables (drop 3 demand))

-- the outcome breaks a line of the script
abbrev pub is_broken : (script : List ℕ) → Outcome → Bool
is_broken script o = list_any (breaks o.tables) (lines script)

-- what is printed of a line of the script, where the tables of the outcome with this number break it
abbrev pub break_by : (number : ℕ) → (demand : List ℕ) → (broken : Bool) → List ℕ
break_by number demand true = line (codes "BREAKS " ++ decimal number ++ codes " " ++ demand)
break_by number demand false = []

abbrev pub break_text : (number : ℕ) → (tables demand : List ℕ) → List ℕ
break_text number tables demand = break_by number demand (breaks tables demand)

-- of each line of the script
abbrev pub breaks_text : (script : List ℕ) → (number : ℕ) → Outcome → List ℕ
breaks_text script number o = flat_map (break_text number o.tables) (lines script)

-- of outcomes, numbered from this number on
abbrev pub all_breaks_text : (script : List ℕ) → (number : ℕ) → List Outcome → List ℕ
all_breaks_text script number [] = []
all_breaks_text script number (o ∷ os) = breaks_text script number o ++ all_breaks_text script (number + 1) os
