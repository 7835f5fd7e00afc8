-- What a stop leaves of a file that is made: its first byte, the gate, is opened when all else is on the disk.
use Rattle.std.specs.Prelude.{◌≡◌, ◌≤◌, ◌⊎◌, ℕ, List, ◌∷◌, length, get_or}

-- the gate is not open, or nothing is after it
abbrev pub IsShut : List ℕ → Type 0
IsShut c = (length c ≤ 1) ⊎ (get_or c 0 0 ≡ 75 → ⊥)

-- nothing more was sent, and the file is shut, or this is after the open gate
abbrev pub ShutOr : List ℕ → List ℕ → List ℕ → List ℕ → Type 0
ShutOr rest sent c out = (out ≡ sent) × (IsShut c ⊎ (c ≡ 75 ∷ rest))
