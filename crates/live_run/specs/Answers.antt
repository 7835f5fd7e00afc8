-- What answers a typed line.
use Rattle.std.specs.Prelude.{◌≡◌, ℕ, List, [], ◌∷◌, ◌++◌}
use Rattle.abstract_monitor.specs.Listing.{listing}
use Rattle.abstract_monitor.specs.State.{State}
use Rattle.typed_lines.specs.declared.typed.Question.{Question}
use Rattle.typed_lines.specs.declared.typed.Question.TheVariants.{Show, Locks, Tasks, Jobs, Counts, Echo}
use Rattle.typed_lines.specs.declared.typed.Typed.{Typed}
use Rattle.typed_lines.specs.declared.typed.Typed.TheVariants as asks
use Rattle.typed_lines.specs.Typing.{echo_line, typed_of}

-- one or more lines, whatever they say
pub record AreLines (text : List ℕ) : Type 0 where
  pub front : List ℕ
  pub ended : text ≡ front ++ 10 ∷ []

-- SHOW lists the monitor's tables, and ECHO sends its text back; what the others say is not claimed
abbrev pub Answers : State → (line answer : List ℕ) → Question → Type 0
Answers s line answer Show = answer ≡ listing s.tables
Answers s line answer Locks = AreLines answer
Answers s line answer Tasks = AreLines answer
Answers s line answer Jobs = AreLines answer
Answers s line answer Counts = AreLines answer
Answers s line answer Echo = answer ≡ echo_line line

-- a line that is no question has no answer
abbrev pub AnswersTyped : State → (line answer : List ℕ) → Typed → Type 0
AnswersTyped s line answer (asks.Question question) = Answers s line answer question
AnswersTyped s line answer (asks.Switch switch) = answer ≡ []
AnswersTyped s line answer asks.Script = answer ≡ []

-- this answers a line that is typed at a monitor in this state
unfoldable pub IsAnswer : State → (line answer : List ℕ) → Type 0
IsAnswer s line answer = AnswersTyped s line answer (typed_of line)
