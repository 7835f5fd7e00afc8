-- How commands are spelled.
use Rattle.std.specs.Prelude.{◌≡◌, ◌⊎◌, ℕ, ◌≤◌, Bool, true, false, IsTrue, List, [], ◌∷◌, ◌++◌, length, replicate, codes, Some}
use Rattle.std.specs.List.{list_all}
use Rattle.kd_base.specs.Text.{IsName, is_digit, decimal_value}
use Rattle.kd_base.specs.Limits.{last_clock}
use Rattle.application_types.specs.declared.kdcdef_types.entry.PtermEntry.{PtermEntry}
use Rattle.application_types.specs.declared.kdcdef_types.entry.LtermEntry.{LtermEntry}
use Rattle.application_types.specs.Generation.{Generated, pterm_of, lterm_of}
use Rattle.application_types.specs.Statements.{IsWithin}
use Rattle.abstract_monitor.specs.declared.command.Command.{Command}
use Rattle.abstract_monitor.specs.declared.command.Command.TheVariants.{Input, Tick, Run, Turn, Drop, Print, PrintLast, Restart}
use Rattle.script_read.specs.Script.{Nothing, Says, IsOutOfRange}
use Rattle.script_read.specs.Commands.{last_turns, is_text_byte, line_in}

-- the line is these words, parted by one or more spaces, with any spaces after them
abbrev pub AreParted : List (List ℕ) → List ℕ → Type 0
AreParted [] line = (behind : ℕ) × (line ≡ replicate behind 32)
AreParted (word ∷ []) line = (behind : ℕ) × (line ≡ word ++ replicate behind 32)
AreParted (word ∷ next ∷ words) line =
    (between : ℕ) × (rest : List ℕ) × (1 ≤ between) × (line ≡ word ++ replicate between 32 ++ rest) × AreParted (next ∷ words) rest

-- 1 to 18 digits with a value from low to high
pub record IsNumber (low high n : ℕ) (digits : List ℕ) : Type 0 where
  pub some : 1 ≤ length digits
  pub few : length digits ≤ 18
  pub all_digits : IsTrue (list_all is_digit digits)
  pub value : n ≡ decimal_value digits
  pub range : IsWithin low high n

-- the name of a PTERM whose LTERM has USAGE=O (a printer), or else USAGE=D
pub record IsPterm (g : Generated) (printer : Bool) (name : List ℕ) : Type 0 where
  pub terminal : PtermEntry
  pub lterm : LtermEntry
  pub is_name : IsName name
  pub is_pterm : pterm_of g name ≡ Some terminal
  pub is_lterm : lterm_of g terminal.lterm ≡ Some lterm
  pub usage : lterm.printer ≡ printer

-- `IN`, one space and the name; after it a space and the text, or nothing for the empty text
pub record IsInput (g : Generated) (pterm text line : List ℕ) : Type 0 where
  pub dialogue : IsPterm g false pterm
  pub printable : IsTrue (list_all is_text_byte text)
  pub spelled : (line ≡ codes "IN " ++ (pterm ++ 32 ∷ text)) ⊎ ((line ≡ codes "IN " ++ pterm) × (text ≡ []))

-- a keyword and a number
abbrev pub IsNumbered : List ℕ → ℕ → ℕ → ℕ → List ℕ → Type 0
IsNumbered keyword low high n line = (digits : List ℕ) × IsNumber low high n digits × AreParted (keyword ∷ digits ∷ []) line

-- the line is spelled as this command
abbrev pub IsSpelled : Generated → Command → List ℕ → Type 0
IsSpelled g (Input pterm text) line = IsInput g pterm text line
IsSpelled g (Tick ticks) line = IsNumbered (codes "TICK") 0 last_clock ticks line
IsSpelled g (Run turns) line = IsNumbered (codes "RUN") 0 last_turns turns line
IsSpelled g (Turn task) line = IsNumbered (codes "TURN") 1 g.limits.tasks task line
IsSpelled g (Drop pterm) line = IsPterm g false pterm × AreParted (codes "DROP" ∷ pterm ∷ []) line
IsSpelled g (Print pterm) line = IsPterm g true pterm × AreParted (codes "PRINT" ∷ pterm ∷ []) line
IsSpelled g (PrintLast pterm) line = IsPterm g true pterm × AreParted (codes "PRINT" ∷ pterm ∷ codes "LAST" ∷ []) line
IsSpelled g Restart line = AreParted (codes "RESTART" ∷ []) line

-- a keyword and digits that are no number of its range
pub record IsOutside (keyword : List ℕ) (low high : ℕ) (line : List ℕ) : Type 0 where
  pub digits : List ℕ
  pub some : 1 ≤ length digits
  pub all_digits : IsTrue (list_all is_digit digits)
  pub outside : (n : ℕ) → IsNumber low high n digits → ⊥
  pub parted : AreParted (keyword ∷ digits ∷ []) line

-- one of the three commands with a number
abbrev pub IsOutsideItsRange : Generated → List ℕ → Type 0
IsOutsideItsRange g line =
    IsOutside (codes "TICK") 0 last_clock line
    ⊎ (IsOutside (codes "RUN") 0 last_turns line ⊎ IsOutside (codes "TURN") 1 g.limits.tasks line)

abbrev pub CommandsAreSaid : Type 0
CommandsAreSaid = (g : Generated) (command : Command) (line : List ℕ) → IsSpelled g command line → line_in g line ≡ Says command

-- no other line says a command
abbrev pub CommandsOnly : Type 0
CommandsOnly = (g : Generated) (command : Command) (line : List ℕ) → line_in g line ≡ Says command → IsSpelled g command line

abbrev pub OutsideIsTold : Type 0
OutsideIsTold = (g : Generated) (line : List ℕ) → IsOutsideItsRange g line → line_in g line ≡ IsOutOfRange

-- no other line is out of range
abbrev pub OutsideOnly : Type 0
OutsideOnly = (g : Generated) (line : List ℕ) → line_in g line ≡ IsOutOfRange → IsOutsideItsRange g line

-- a comment, which begins with `*`, or spaces alone
abbrev pub IsPassed : List ℕ → Type 0
IsPassed line = ((rest : List ℕ) × (line ≡ 42 ∷ rest)) ⊎ ((n : ℕ) × (line ≡ replicate n 32))

abbrev pub PassedAreNothing : Type 0
PassedAreNothing = (g : Generated) (line : List ℕ) → IsPassed line → line_in g line ≡ Nothing

-- no other line is passed over
abbrev pub PassedOnly : Type 0
PassedOnly = (g : Generated) (line : List ℕ) → line_in g line ≡ Nothing → IsPassed line
