-- What a line says, taken apart.
use Rattle.std.proofs.Common.{◌≡◌, ℕ, Bool, true, false, List, [], ◌∷◌, ◌++◌, refl, sym, ◌∙◌, append_assoc}
use Rattle.std.specs.Prelude.{replicate}
use Rattle.script_read.specs.Script.{Line, Nothing, Says, IsBad, IsOutOfRange, as_command, line_by}
use Rattle.script_read.specs.Spelling.{AreParted}

-- what is neither passed over nor bad by its front
pub by_front : {C : Type 0} (passed spaced : Bool) (said what : Line C) → (what ≡ Nothing → ⊥) → (what ≡ IsBad → ⊥) → line_by passed spaced said ≡ what → (passed ≡ false) × (spaced ≡ false) × (said ≡ what)
by_front true spaced said what some good h = absurd (some (sym h))
by_front false true said what some good h = absurd (good (sym h))
by_front false false said what some good h = (refl, refl, h)

pub as_said : {A C : Type 0} (say : A → C) (x : Line A) (c : C) → as_command say x ≡ Says c → (a : A) × (x ≡ Says a) × (c ≡ say a)
as_said say Nothing c h = absurd cc
as_said say (Says a) c h = (a, refl, cc)
as_said say IsBad c h = absurd cc
as_said say IsOutOfRange c h = absurd cc

pub as_out : {A C : Type 0} (say : A → C) (x : Line A) → as_command say x ≡ IsOutOfRange → x ≡ IsOutOfRange
as_out say Nothing h = absurd cc
as_out say (Says a) h = absurd cc
as_out say IsBad h = absurd cc
as_out say IsOutOfRange h = refl

-- what is after the first of parted words
pub front_of : (word : List ℕ) (words : List (List ℕ)) (line : List ℕ) → AreParted (word ∷ words) line → (rest : List ℕ) × (line ≡ word ++ rest)
front_of word [] line p = (replicate p.0 32, p.1)
front_of word (next ∷ words) line p = (replicate p.0 32 ++ p.1, p.3 ∙ append_assoc word (replicate p.0 32) p.1)
