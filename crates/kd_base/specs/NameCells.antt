-- How a name of at most n bytes lies in memory: its bytes, filled with spaces, and how many they are.
use Rattle.std.specs.Prelude.{◌≡◌, ℕ, List, length, take}
use Rattle.kd_base.specs.declared.name.NameOf.TheInside.{Inside}
use Rattle.kd_base.specs.Text.{IsNameUpTo, filled}

pub record IsNameCells (most : ℕ) (n : Inside most) : Type 0 where
  pub used : length (take n.used n.cells) ≡ n.used
  pub rest : n.cells ≡ filled most (take n.used n.cells)
  pub name : IsNameUpTo most (take n.used n.cells)

abbrev pub cells_of : (most : ℕ) → List ℕ → ℕ → Inside most
cells_of most cells used = record { cells = cells; used = used }
