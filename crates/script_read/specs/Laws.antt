-- What holds of every script.
use Rattle.std.specs.Prelude.{◌≡◌, ℕ, ◌+◌, List, [], ◌∷◌, ◌++◌, length, Ok, Err}
use Rattle.std.specs.Str.Lines.{lines}
use Rattle.script_read.specs.declared.fault.ScriptFault.TheVariants.{BadLine, OutOfRange}
use Rattle.application_types.specs.Generation.{Generated}
use Rattle.script_read.specs.Script.{Line, Says, IsBad, IsOutOfRange, script_of}
use Rattle.script_read.specs.Commands.{line_in}

-- a line that is no fault
abbrev pub IsRight : {C : Type 0} → Line C → Type 0
IsRight IsBad = ⊥
IsRight IsOutOfRange = ⊥
IsRight _ = Unit {0}

abbrev pub AreRight : {C : Type 0} → (List ℕ → Line C) → List (List ℕ) → Type 0
AreRight reads [] = Unit {0}
AreRight reads (line ∷ rest) = IsRight (reads line) × AreRight reads rest

-- of these lines, the one with this number has the fault, and none before it has any
pub record IsFirstFault {C : Type 0} (reads : List ℕ → Line C) (n : ℕ) (what : Line C) (all : List (List ℕ)) : Type 0 where
  pub before : List (List ℕ)
  pub line : List ℕ
  pub behind : List (List ℕ)
  pub parts : all ≡ before ++ line ∷ behind
  pub number : n ≡ length before + 1
  pub right : AreRight reads before
  pub fault : reads line ≡ what

pub record IsFirstOf {C : Type 0} (reads : List ℕ → Line C) (text : List ℕ) : Type 0 where
  pub bad : (number : ℕ) → script_of reads text ≡ Err (BadLine number) → IsFirstFault reads number IsBad (lines text)
  pub out_of_range : (number : ℕ) → script_of reads text ≡ Err (OutOfRange number) → IsFirstFault reads number IsOutOfRange (lines text)

abbrev pub FaultsAreFirst : Type 0
FaultsAreFirst = (g : Generated) (text : List ℕ) → IsFirstOf (line_in g) text

-- the command of a line, where it says one
abbrev pub said : {C : Type 0} → Line C → List C
said (Says command) = command ∷ []
said _ = []

abbrev pub all_said : {C : Type 0} → (List ℕ → Line C) → List (List ℕ) → List C
all_said reads [] = []
all_said reads (line ∷ rest) = said (reads line) ++ all_said reads rest

-- what a script says that is no fault
abbrev pub SaysItsLines : {C : Type 0} → (List ℕ → Line C) → Type 0
SaysItsLines {C} reads =
    (text : List ℕ) (commands : List C) → script_of reads text ≡ Ok commands → AreRight reads (lines text) × (commands ≡ all_said reads (lines text))

abbrev pub SaysWhatItsLinesSay : Type 0
SaysWhatItsLinesSay = (g : Generated) → SaysItsLines (line_in g)
