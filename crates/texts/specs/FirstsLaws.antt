-- Laws: the first of a list.
use Rattle.std.specs.Prelude.{◌≡◌, List, [], ◌∷◌, Some}
use Rattle.std.proofs.Common.{sym, ap}
use Rattle.kd_base.specs.ToolsLaws.{some_is}
use Rattle.texts.specs.Firsts.{first_of}

pub first_is : {A : Type 0} (xs rest : List A) (x : A) → Some (x, rest) ≡ first_of xs → xs ≡ x ∷ rest
first_is [] rest x h = absurd cc
first_is {A} (y ∷ ys) rest x h = ap (λ (p : A × List A). p.0 ∷ p.1) (sym (some_is (x, rest) (y, ys) h))
