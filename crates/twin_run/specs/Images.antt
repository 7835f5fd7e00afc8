-- What a stop leaves of two files, as one image: of both, or of one of them by itself.
use Rattle.std.specs.Prelude.{ℕ, zero, suc, List, [], ◌∷◌, ◌++◌, length, take, drop}
use Rattle.kd_device.specs.declared.half.Half.{Half}
use Rattle.kd_device.specs.declared.half.Half.TheVariants.{First, Second}

-- both files: 0, the length of the first, and their bytes
abbrev pub pair_image : (c d : List ℕ) → List ℕ
pair_image c d = 0 ∷ length c ∷ (c ++ d)

-- one of them: 1 or 2, and its bytes
abbrev pub alone_image : Half → List ℕ → List ℕ
alone_image First c = 1 ∷ c
alone_image Second c = 2 ∷ c

-- what holds of the files of an image
abbrev pub OfImage : (pair : List ℕ → List ℕ → Type 0) → (alone : Half → List ℕ → Type 0) → List ℕ → Type 0
OfImage pair alone [] = ⊥
OfImage pair alone (zero ∷ []) = ⊥
OfImage pair alone (zero ∷ n ∷ bytes) = pair (take n bytes) (drop n bytes)
OfImage pair alone (suc zero ∷ bytes) = alone First bytes
OfImage pair alone (suc (suc n) ∷ bytes) = alone Second bytes
