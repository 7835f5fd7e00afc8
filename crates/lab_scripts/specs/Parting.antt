-- Where two scripts part, and what is told of it.
use Rattle.std.specs.Prelude.{◌≡◌, ℕ, ◌+◌, ◌≤◌, true, List, ◌++◌, length, take, drop, flat_map, slice_get, Some, codes, decimal}
use Rattle.std.specs.Str.Lines.{lines}
use Rattle.application_types.specs.Fitted.{IsFit}
use Rattle.abstract_monitor.specs.declared.command.Command.{Command}
use Rattle.abstract_monitor.specs.Commands.{state_after}
use Rattle.abstract_monitor.specs.Lines.{line as line_with}
use Rattle.abstract_monitor.specs.State.{Application, State}
use Rattle.abstract_monitor.specs.Trace.{history}
use Rattle.laws_of_runs.specs.Applied.{applied}
use Rattle.lab_turns.specs.Heard.{Heard, TellsScript}
use Rattle.lab_turns.specs.TurnLines.{tale_text}
use Rattle.lab_scripts.specs.declared.parting.Setting.{Setting}

-- ---- where they part

-- behind so many commands both have the same one
abbrev pub GoOnAlike : (at : ℕ) → List Command → List Command → Type 0
GoOnAlike at one other = (command : Command) × (slice_get one at ≡ Some command) × (slice_get other at ≡ Some command)

-- both begin with the same commands, so many, and go on with different ones, or one of them is over
pub record PartAt (at : ℕ) (one other : List Command) : Type 0 where
  pub within : at ≤ length one
  pub within_too : at ≤ length other
  pub same : take at one ≡ take at other
  pub apart : GoOnAlike at one other → ⊥

-- ---- what is told

-- what a trace prints of the command behind so many, in the state after those; no text where there is none
abbrev pub TellsNext : Application → State → (source : List (List ℕ)) → (at : ℕ) → List Command → (text : List ℕ) → Type 0
TellsNext app s source at commands text =
    (tale : List Heard) × TellsScript app (state_after s (history app s (take at commands))) (take 1 (drop at commands)) tale × (text ≡ tale_text true source tale)

-- a line after two blanks
abbrev pub indented_line : List ℕ → List ℕ
indented_line text = line_with (codes "  " ++ text)

-- each line of a text after two blanks
abbrev pub indented : List ℕ → List ℕ
indented text = flat_map indented_line (lines text)

-- from which script another one differs, at which of its commands, from 1; and what each of them does there
abbrev pub parting_text : (from at : ℕ) → (text its : List ℕ) → List ℕ
parting_text from at text its = line_with (codes "DIFFERS FROM " ++ decimal from ++ codes " AT " ++ decimal (at + 1)) ++ indented text ++ indented its

-- this text tells where a script parts from the one with this number, and what a trace prints of the next command of each
pub record TellsParting (app : Application) (s : State) (source : List (List ℕ)) (from : ℕ) (one other : List Command) (told : List ℕ) : Type 0 where
  pub at : ℕ
  pub text : List ℕ
  pub its : List ℕ
  pub parts : PartAt at one other
  pub tells : TellsNext app s source at one text
  pub tells_its : TellsNext app s source at other its
  pub all : told ≡ parting_text from at text its

-- ---- what scripts are performed with

-- it can be performed with again: the application is the same, and so is the text of its units
pub record IsSetAgain (before after : Setting) : Type 0 where
  pub fit : IsFit after.generation after.units
  pub application : applied after.generation after.units ≡ applied before.generation before.units
  pub source : after.source ≡ before.source
