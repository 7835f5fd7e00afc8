-- Lists in which nothing is twice.
use Rattle.std.specs.Prelude.{List, [], ◌∷◌}
use Rattle.laws_of_states.specs.ItemsLaws.{IsIn}

-- nothing is there twice
abbrev pub AreOnce : {X : Type 0} → List X → Type 0
AreOnce [] = Unit {0}
AreOnce (x ∷ xs) = (IsIn x xs → ⊥) × AreOnce xs
