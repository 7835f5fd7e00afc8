-- Laws: blanks.
use Rattle.std.specs.Prelude.{◌≡◌, ℕ, ◌≤◌, false, IsTrue, List, ◌++◌, length, refl}
use Rattle.std.specs.List.{list_all, prefix_len}
use Rattle.std.proofs.Common.{arith, length-drop}
use Rattle.std.proofs.lemmas.List.{drop_at}
use Rattle.kd_base.specs.Fronts.{begins}
use Rattle.kd_base.specs.FrontsLaws.{split_there}
use Rattle.texts.specs.Blanks.{is_blank, from_first}

pub from_gap : (gap rest : List ℕ) → IsTrue (list_all is_blank gap) → begins is_blank rest ≡ false → from_first (gap ++ rest) ≡ rest
from_gap gap rest h k = rw (split_there is_blank gap rest h k, drop_at gap rest (length gap) refl) refl

pub shorter : (rest : List ℕ) → length (from_first rest) ≤ length rest
shorter rest = omega (arith, length-drop (prefix_len is_blank rest) rest)
