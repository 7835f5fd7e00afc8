-- How a password lies in memory: its bytes, filled with spaces, and how many they are.
use Rattle.std.specs.Prelude.{◌≡◌, ℕ, ◌≤◌, List, length, take}
use Rattle.kd_base.specs.Text.{filled}
use Rattle.kdcdef_read.specs.declared.password.Password.TheInside.{Inside}

pub record IsPasswordCells (n : Inside) : Type 0 where
  pub used : length (take n.used n.cells) ≡ n.used
  pub rest : n.cells ≡ filled 16 (take n.used n.cells)
  pub short : length (take n.used n.cells) ≤ 16

abbrev pub cells_of : List ℕ → ℕ → Inside
cells_of cells used = record { cells = cells; used = used }
