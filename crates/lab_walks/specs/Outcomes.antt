-- What comes out of a walk: the lines that were sent, name by name, the tables at its end, and its signs.
use Rattle.std.specs.Prelude.{◌≡◌, ℕ, Bool, true, false, ◌&&◌, ◌==◌, not, List, [], ◌∷◌, filter, bytes_eq, if◌then◌else◌}
use Rattle.std.specs.Cmp.Lexicographic.{pointwise}
use Rattle.std.specs.Ordering.{is_lt}
use Rattle.std.specs.Str.Lines.{lines}
use Rattle.abstract_monitor.specs.declared.command.Command.{Command}
use Rattle.abstract_monitor.specs.Bytes.{Bytes, bytes_cmp}
use Rattle.abstract_monitor.specs.Commands.{acts_of, state_after}
use Rattle.abstract_monitor.specs.Listing.{listing}
use Rattle.abstract_monitor.specs.State.{Application, State}
use Rattle.abstract_monitor.specs.Trace.{bytes_of}
use Rattle.lab_walks.specs.declared.signs.Signs.{Signs}
use Rattle.lab_walks.specs.Orders.{order_steps}
use Rattle.lab_walks.specs.Signs.{signs_of}

-- ---- the lines of each name

unfoldable pub before_blank : Bytes → Bytes
before_blank [] = []
before_blank (c ∷ cs) = if c == 32 then [] else c ∷ before_blank cs

unfoldable pub behind_blank : Bytes → Bytes
behind_blank [] = []
behind_blank (c ∷ cs) = if c == 32 then cs else behind_blank cs

-- the second word of a line: the terminal to which it is sent, or the owner of a dump
abbrev pub name_in : (line : Bytes) → Bytes
name_in line = before_blank (behind_blank line)

-- the lines with this name, in their order
abbrev pub lines_of : (name : Bytes) → List Bytes → List Bytes
lines_of name texts = filter (λ (line : Bytes). bytes_eq (name_in line) name) texts

-- a line behind those whose names are not greater
unfoldable pub placed : (line : Bytes) → List Bytes → List Bytes
placed line [] = line ∷ []
placed line (other ∷ rest) = if is_lt (bytes_cmp (name_in line) (name_in other)) then line ∷ other ∷ rest else other ∷ placed line rest

-- one line after the other in its place among others
unfoldable pub placed_all : (placed_ones : List Bytes) → List Bytes → List Bytes
placed_all placed_ones [] = placed_ones
placed_all placed_ones (line ∷ rest) = placed_all (placed line placed_ones) rest

-- the lines of a text by their names, those of one name in their order
abbrev pub by_name : Bytes → List Bytes
by_name text = placed_all [] (lines text)

-- ---- what comes out

-- all that is sent
abbrev pub sent_by : Application → List Command → State → (order : List ℕ) → Bytes
sent_by app cs s order = bytes_of (acts_of (order_steps app cs s order))

-- the lines of the tables at the end
abbrev pub left_by : Application → List Command → State → (order : List ℕ) → Bytes
left_by app cs s order = listing (state_after s (order_steps app cs s order)).tables

pub record Result : Type 0 where
  pub lines : List Bytes
  pub tables : Bytes
  pub signs : Signs

-- what comes out of a walk
abbrev pub result_of : Application → List Command → State → (walk : List ℕ) → Result
result_of app cs s walk = record { lines = by_name (sent_by app cs s walk); tables = left_by app cs s walk; signs = signs_of app cs s walk }

-- both are told, or none is
abbrev pub alike : Bool → Bool → Bool
alike true b = b
alike false b = not b

abbrev pub same_signs : Signs → Signs → Bool
same_signs x y = alike x.k04 y.k04 && alike x.k05 y.k05 && alike x.dump y.dump && alike x.standstill y.standstill && alike x.spent y.spent

-- the same lines of each name, the same tables, and the same signs
abbrev pub same_result : Result → Result → Bool
same_result x y = pointwise bytes_eq x.lines y.lines && bytes_eq x.tables y.tables && same_signs x.signs y.signs

-- these lines of each name are sent by an order, and these are the lines of the tables at the end
pub record HasOutcome (app : Application) (cs : List Command) (s : State) (order : List ℕ) (sent : List Bytes) (tables : Bytes) : Type 0 where
  pub sent_is : sent ≡ by_name (sent_by app cs s order)
  pub tables_are : tables ≡ left_by app cs s order
