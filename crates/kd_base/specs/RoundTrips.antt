-- What was written is read again, whatever follows.
use Rattle.std.specs.Prelude.{◌≡◌, ℕ, ◌^◌, ◌<◌, List, ◌∷◌, ◌++◌, length, Some}
use Rattle.std.specs.Int.{w8, w32, w64, to_be_bytes}
use Rattle.kd_base.specs.Text.{IsName, padded}
use Rattle.kd_base.specs.Field.{number_at, after_number, list, list_at, after_list, name_at, after_name}

-- a number of one byte
abbrev pub U8ComesBack : Type 0
U8ComesBack = (n : ℕ) (rest : List ℕ) → n < 256 → (number_at w8 (n ∷ rest) ≡ Some n) × (after_number w8 (n ∷ rest) ≡ rest)

-- a number of four bytes
abbrev pub U32ComesBack : Type 0
U32ComesBack = (n : ℕ) (rest : List ℕ) → n < 2 ^ 32 → (number_at w32 (to_be_bytes w32 n ++ rest) ≡ Some n) × (after_number w32 (to_be_bytes w32 n ++ rest) ≡ rest)

-- a number of eight bytes
abbrev pub U64ComesBack : Type 0
U64ComesBack = (n : ℕ) (rest : List ℕ) → n < 2 ^ 64 → (number_at w64 (to_be_bytes w64 n ++ rest) ≡ Some n) × (after_number w64 (to_be_bytes w64 n ++ rest) ≡ rest)

-- a list
abbrev pub ListComesBack : Type 0
ListComesBack = (bytes rest : List ℕ) → length bytes < 2 ^ 32 → (list_at (list bytes ++ rest) ≡ Some bytes) × (after_list (list bytes ++ rest) ≡ rest)

-- a name
abbrev pub NameComesBack : Type 0
NameComesBack = (name rest : List ℕ) → IsName name → (name_at (padded name ++ rest) ≡ Some name) × (after_name (padded name ++ rest) ≡ rest)

-- and no other bytes are read as that name
abbrev pub NameStandsThere : Type 0
NameStandsThere = (name bytes : List ℕ) → name_at bytes ≡ Some name → IsName name × (bytes ≡ padded name ++ after_name bytes)
