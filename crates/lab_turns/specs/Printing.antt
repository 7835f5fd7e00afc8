-- What a printer prints of what it hears.
use Rattle.std.specs.Prelude.{◌≡◌, ℕ, Bool, List}
use Rattle.lab_turns.specs.Consoles.{Passed, printed}
use Rattle.lab_turns.specs.Heard.{Heard}
use Rattle.lab_turns.specs.TurnLines.{tale_text}

-- the text of what was heard was printed, in a trace or not; the printer goes on with the same source
pub record Prints {C : Type 0} (passes : C → List Passed → C → Type 0) (tale : List Heard) (traces : Bool) (source : List (List ℕ)) (console : C) (traces' : Bool) (source' : List (List ℕ)) (console' : C) : Type 0 where
  pub traces_stays : traces' ≡ traces
  pub source_stays : source' ≡ source
  pub passed : passes console (printed (tale_text traces source tale)) console'
