-- A script is met, or what it expects and what is sent differ at a first place.
use Rattle.std.specs.Prelude.{◌≡◌, ◌≢◌, ℕ, List, [], ◌∷◌, ◌++◌, length, map, sum_by, codes, decimal, Option, Some, None}
use Rattle.abstract_monitor.specs.Lines.{line as line_with}
use Rattle.lab_scripts.specs.declared.difference.Difference.{Difference}
use Rattle.lab_scripts.specs.Expected.{Awaited, Expectation}

abbrev pub texts_of : List Awaited → List (List ℕ)
texts_of awaited = map (λ (a : Awaited). a.text) awaited

abbrev pub texts_expected : Expectation → List (List ℕ)
texts_expected e = texts_of e.awaited

-- of each command just those lines are expected that it sends, in their order
abbrev pub IsMet : (expected : List Expectation) → (sent : List (List (List ℕ))) → Type 0
IsMet expected sent = map texts_expected expected ≡ sent

-- how many lines are expected
abbrev pub lines_expected : List Expectation → ℕ
lines_expected expected = sum_by (λ (e : Expectation). length e.awaited) expected

-- ---- the first difference

abbrev pub first : {A : Type 0} → List A → Option A
first [] = None
first (x ∷ rest) = Some x

-- the line of the script that is expected next, or that of the command
abbrev pub line_of : (command : ℕ) → List Awaited → ℕ
line_of command [] = command
line_of command (a ∷ rest) = a.line

-- this is expected at a line, and that is sent, which is another text; either may be none
pub record Differ (line : ℕ) (expected sent : Option (List ℕ)) (d : Difference) : Type 0 where
  pub line_is : d.line ≡ line
  pub expected_is : d.expected ≡ expected
  pub sent_is : d.sent ≡ sent
  pub differ : expected ≢ sent

-- commands that are met stand before it; of the next one some texts are expected that it sends, and behind them what is expected and what is sent differ
pub record IsFirstDifference (expected : List Expectation) (sent : List (List (List ℕ))) (d : Difference) : Type 0 where
  pub met : List Expectation
  pub line : ℕ
  pub same : List Awaited
  pub awaited : List Awaited
  pub left : List (List ℕ)
  pub later : List Expectation
  pub later_sent : List (List (List ℕ))
  pub expects : expected ≡ met ++ record { line = line; awaited = same ++ awaited } ∷ later
  pub sends : sent ≡ map texts_expected met ++ (texts_of same ++ left) ∷ later_sent
  pub differs : Differ (line_of line awaited) (first (texts_of awaited)) (first left) d

-- ---- what is printed

-- how many lines are met
abbrev pub met_line : (met : ℕ) → List ℕ
met_line met = line_with (codes "OK " ++ decimal met)

abbrev pub told : (line : ℕ) → (word : List ℕ) → Option (List ℕ) → List ℕ
told line word None = []
told line word (Some text) = line_with (codes "SCRIPT " ++ decimal line ++ word ++ text)

-- the text that is expected, if one is, and below it the one that is sent
abbrev pub difference_lines : Difference → List ℕ
difference_lines d = told d.line (codes " EXPECTED ") d.expected ++ told d.line (codes " SENT ") d.sent
