-- Laws: how a name of at most n bytes lies in memory: its bytes, filled with spaces, and how many they are.
use Rattle.std.specs.Prelude.{◌≡◌, ℕ, List, length, take}
use Rattle.std.proofs.Common.{ap, sym, ◌∙◌}
use Rattle.kd_base.specs.declared.name.NameOf.TheInside.{Inside}
use Rattle.kd_base.specs.Text.{filled}
use Rattle.kd_base.specs.NameCells.{IsNameCells, cells_of}

pub same_name : (most : ℕ) (n : Inside most) → IsNameCells most n → cells_of most (filled most (take n.used n.cells)) (length (take n.used n.cells)) ≡ n
same_name most n h =
    ap (cells_of most (filled most (take n.used n.cells))) h.used ∙ ap (λ (cells : List ℕ). cells_of most cells n.used) (sym h.rest)
