-- Laws: how a password lies in memory: its bytes, filled with spaces, and how many they are.
use Rattle.std.specs.Prelude.{◌≡◌, ℕ, List, length, take}
use Rattle.std.proofs.Common.{ap, sym, ◌∙◌}
use Rattle.kd_base.specs.Text.{filled}
use Rattle.kdcdef_read.specs.declared.password.Password.TheInside.{Inside}
use Rattle.kdcdef_read.specs.PasswordCells.{IsPasswordCells, cells_of}

pub same_password : (n : Inside) → IsPasswordCells n → cells_of (filled 16 (take n.used n.cells)) (length (take n.used n.cells)) ≡ n
same_password n h =
    ap (cells_of (filled 16 (take n.used n.cells))) h.used ∙ ap (λ (cells : List ℕ). cells_of cells n.used) (sym h.rest)
