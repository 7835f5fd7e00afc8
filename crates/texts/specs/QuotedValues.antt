-- The bytes of quoted values.
use Rattle.std.specs.Prelude.{ℕ, ◌+◌, ◌*◌, Bool, true, false, ◌==◌, nat_lt, List, [], ◌∷◌, Option, Some, None, if◌then◌else◌, option_and_then}
use Rattle.std.specs.Option.{option_map}
use Rattle.std.specs.Char.{digit_value}
use Rattle.kd_base.specs.Tools.{onto}

-- the value of a hexadecimal digit
abbrev pub hex_digit : ℕ → Option ℕ
hex_digit b = if nat_lt (digit_value b) 16 then Some (digit_value b) else None

-- the bytes of pairs of hexadecimal digits
abbrev pub hex_bytes : List ℕ → Option (List ℕ)
hex_bytes [] = Some []
hex_bytes (h ∷ []) = None
hex_bytes (h ∷ l ∷ rest) =
    option_and_then (λ (high : ℕ). option_and_then (λ (low : ℕ). onto ((16 * high + low) ∷ []) (hex_bytes rest)) (hex_digit l)) (hex_digit h)

-- the byte of two digits
abbrev pub byte_of : Option ℕ → Option ℕ → Option ℕ
byte_of None low = None
byte_of (Some high) None = None
byte_of (Some high) (Some low) = Some (16 * high + low)

-- the byte of the two digits at the front, and what follows
abbrev pub hex_pair : List ℕ → Option (ℕ × List ℕ)
hex_pair [] = None
hex_pair (h ∷ []) = None
hex_pair (h ∷ l ∷ rest) = option_map (λ (byte : ℕ). (byte, rest)) (byte_of (hex_digit h) (hex_digit l))

-- the bytes that are meant, by digits or by themselves
abbrev pub bytes_of : Bool → List ℕ → Option (List ℕ)
bytes_of true content = hex_bytes content
bytes_of false content = Some content

-- the bytes of `'..'`, `C'..'` and `X'..'`
abbrev pub quoted_value : List ℕ → List ℕ → Option (List ℕ)
quoted_value [] content = Some content
quoted_value (b ∷ []) content = if b == 67 then Some content else (if b == 88 then hex_bytes content else None)
quoted_value (b ∷ c ∷ bs) content = None
