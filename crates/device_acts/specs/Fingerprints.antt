-- The fingerprint of the two texts of an application: a digest of both.
use Rattle.std.specs.Prelude.{◌≡◌, ℕ, ◌<◌, ◌^◌, List, ◌++◌, length}
use Rattle.std.specs.Int.{w64, to_be_bytes}
use Rattle.sha2.specs.Sha256.{sha256}

-- the definition's length in eight bytes, the definition, and the units
abbrev pub joined : List ℕ → List ℕ → List ℕ
joined definition units = to_be_bytes w64 (length definition) ++ definition ++ units

abbrev pub fingerprint : List ℕ → List ℕ → List ℕ
fingerprint definition units = sha256 (joined definition units)

-- no other two texts are joined to the same bytes
abbrev pub TextsAreToldApart : Type 0
TextsAreToldApart = (a b c d : List ℕ) → length a < 2 ^ 64 → length c < 2 ^ 64 → joined a b ≡ joined c d → (a ≡ c) × (b ≡ d)
