-- Bytes of fields and operands: without spaces, filled or cut, put over others, as numbers, and compared.
use Rattle.std.specs.Prelude.{ℕ, zero, suc, ◌+◌, ◌/◌, ◌%◌, ◌^◌, List, [], ◌∷◌, ◌++◌, length, take, drop, Option, Some, None, min, nat_lt, if◌then◌else◌}
use Rattle.std.specs.List.{prefix_len}
use Rattle.std.specs.Ordering.{nat_cmp}
use Rattle.std.specs.Cmp.Lexicographic.{slice_cmp}
use Rattle.std.specs.declared.cmp.Ordering.{Ordering}
use Rattle.kd_base.specs.Text.{is_space, filled, trim_end, decimal_of}

-- without the spaces in front
unfoldable pub trim_start : List ℕ → List ℕ
trim_start bytes = drop (prefix_len is_space bytes) bytes

-- filled with spaces on the right to so many bytes, or cut
unfoldable pub fitted : ℕ → List ℕ → List ℕ
fitted len bytes = take len (filled len bytes)

-- the bytes put over others from a place on
unfoldable pub overlaid : ℕ → List ℕ → List ℕ → List ℕ
overlaid at bytes under = take at under ++ bytes ++ drop (at + length bytes) under

-- the number of some bytes without spaces around them: none is 0, 1 to 18 digits are their value
abbrev pub number_of_digits : List ℕ → Option ℕ
number_of_digits [] = Some 0
number_of_digits (b ∷ bytes) = decimal_of (b ∷ bytes)

-- the number of an operand: its bytes without the spaces around them
unfoldable pub number_of : List ℕ → Option ℕ
number_of bytes = number_of_digits (trim_start (trim_end bytes))

-- the last so many digits of a number
unfoldable pub in_digits : ℕ → ℕ → List ℕ
in_digits zero n = []
in_digits (suc k) n = in_digits k (n / 10) ++ (48 + n % 10) ∷ []

-- a number in a field: with leading zeros to the field's length; none where it has more digits than the field or than 18
unfoldable pub number_in : ℕ → ℕ → Option (List ℕ)
number_in len n = if nat_lt n (10 ^ min len 18) then Some (in_digits len n) else None

-- byte by byte, the shorter filled with spaces
unfoldable pub compared : List ℕ → List ℕ → Ordering
compared a b = slice_cmp nat_cmp (filled (length b) a) (filled (length a) b)
