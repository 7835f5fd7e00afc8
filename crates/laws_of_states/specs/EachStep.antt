-- A law on each step of a list of steps, with the state before it.
use Rattle.std.specs.Prelude.{List, [], ◌∷◌}
use Rattle.abstract_monitor.specs.State.{State}
use Rattle.abstract_monitor.specs.Commands.{ScriptStep}

-- it holds of each step, with the state before it
abbrev pub EachStep : (State → ScriptStep → Type 0) → State → List ScriptStep → Type 0
EachStep law s [] = Unit {0}
EachStep law s (d ∷ ds) = law s d × EachStep law d.after ds
