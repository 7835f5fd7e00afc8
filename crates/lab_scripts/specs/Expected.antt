-- What a script expects of its commands, and what they send.
use Rattle.std.specs.Prelude.{ℕ, ◌+◌, Bool, true, false, List, [], ◌∷◌, take, drop, codes, Option, Some, None}
use Rattle.std.specs.Str.Lines.{lines}
use Rattle.abstract_monitor.specs.declared.command.Command.{Command}
use Rattle.abstract_monitor.specs.Commands.{acts_of, state_after, steps_of}
use Rattle.abstract_monitor.specs.State.{Application, State}
use Rattle.abstract_monitor.specs.Trace.{bytes_of}
use Rattle.script_read.specs.Script.{is_passed, same}

-- ---- what is expected

abbrev pub text_by : (spaced marked : Bool) → List ℕ → Option (List ℕ)
text_by true marked line = Some (drop 3 line)
text_by false true line = Some (drop 2 line)
text_by false false line = None

-- the text that a line of a script expects: what is behind `*>` and a space, or behind `*>`
abbrev pub text_in : List ℕ → Option (List ℕ)
text_in line = text_by (same (take 3 line) (codes "*> ")) (same (take 2 line) (codes "*>")) line

-- a line that is expected: its number in the script, and its text
pub record Awaited : Type 0 where
  pub line : ℕ
  pub text : List ℕ

-- the lines that are expected of a command, which is in this line of the script
pub record Expectation : Type 0 where
  pub line : ℕ
  pub awaited : List Awaited

-- an expected line stands before those that follow it, and a command ends them
abbrev pub awaited_by : (number : ℕ) → Option (List ℕ) → (passed : Bool) → List Awaited → List Awaited
awaited_by number (Some text) passed rest = record { line = number; text = text } ∷ rest
awaited_by number None true rest = rest
awaited_by number None false rest = []

-- what is expected in lines from this number on, up to the first command in them
unfoldable pub awaited_in : (number : ℕ) → List (List ℕ) → List Awaited
awaited_in number [] = []
awaited_in number (line ∷ rest) = awaited_by number (text_in line) (is_passed line) (awaited_in (number + 1) rest)

abbrev pub expected_by : (number : ℕ) → Option (List ℕ) → (passed : Bool) → (own : List Awaited) → List Expectation → List Expectation
expected_by number (Some text) passed own rest = rest
expected_by number None true own rest = rest
expected_by number None false own rest = record { line = number; awaited = own } ∷ rest

-- the commands in these lines, each with what is expected behind it, up to the next one
unfoldable pub expected_in : (number : ℕ) → List (List ℕ) → List Expectation
expected_in number [] = []
expected_in number (line ∷ rest) = expected_by number (text_in line) (is_passed line) (awaited_in (number + 1) rest) (expected_in (number + 1) rest)

-- what a script expects before its first command, and of each of its commands
abbrev pub expected_of : List ℕ → List Expectation
expected_of script = record { line = 0; awaited = awaited_in 1 (lines script) } ∷ expected_in 1 (lines script)

-- ---- what is sent

-- the lines that a command sends in a state
abbrev pub lines_sent : Application → State → Command → List (List ℕ)
lines_sent app s command = lines (bytes_of (acts_of (steps_of app s command)))

-- those of each command of a script, in the state after the commands before it
unfoldable pub each_sent : Application → State → List Command → List (List (List ℕ))
each_sent app s [] = []
each_sent app s (c ∷ cs) = lines_sent app s c ∷ each_sent app (state_after s (steps_of app s c)) cs

-- before the first command nothing is sent
abbrev pub sent_of : Application → State → List Command → List (List (List ℕ))
sent_of app s commands = [] ∷ each_sent app s commands
