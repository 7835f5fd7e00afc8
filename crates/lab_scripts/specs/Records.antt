-- The lines that a recorder keeps.
use Rattle.std.specs.Prelude.{◌≡◌, ℕ, List, [], ◌∷◌, ◌++◌}
use Rattle.abstract_monitor.specs.Trace.{bytes_of}
use Rattle.lab_turns.specs.Heard.{Heard, Asked, Turned, Done, Over}

-- the bytes of all Emits of what was heard
abbrev pub heard_bytes : List Heard → List ℕ
heard_bytes [] = []
heard_bytes (Asked command ∷ hs) = heard_bytes hs
heard_bytes (Turned view after acts ∷ hs) = bytes_of acts ++ heard_bytes hs
heard_bytes (Done after acts ∷ hs) = bytes_of acts ++ heard_bytes hs
heard_bytes (Over turns end ∷ hs) = heard_bytes hs

-- the lines of this came behind those before
abbrev pub Records : List ℕ → List Heard → List ℕ → Type 0
Records before tale after = after ≡ before ++ heard_bytes tale
