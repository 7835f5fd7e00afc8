-- Names, decimal numbers and the printed form of bytes.
use Rattle.std.specs.Prelude.{ℕ, ◌+◌, ◌-◌, ◌/◌, ◌%◌, ◌≤◌, Bool, IsTrue, ◌&&◌, ◌||◌, ◌==◌, nat_le, nat_lt, List, [], ◌∷◌, ◌++◌, length, take, drop, replicate, if◌then◌else◌, Option, Some, None}
use Rattle.std.specs.List.{list_all, flat_map, prefix_len, suffix_len}
use Rattle.std.specs.Str.Parse.{digits_value}

-- b is from low to high
abbrev pub is_between : ℕ → ℕ → ℕ → Bool
is_between low high b = nat_le low b && nat_le b high

-- a decimal digit
abbrev pub is_digit : ℕ → Bool
is_digit b = is_between 48 57 b

-- a letter, a digit, `$`, `#`, `@` or `_`
abbrev pub is_name_byte : ℕ → Bool
is_name_byte b =
    is_between 65 90 b || is_between 97 122 b || is_digit b || b == 36 || b == 35 || b == 64 || b == 95

-- from 1 to so many such bytes
abbrev pub IsNameUpTo : ℕ → List ℕ → Type 0
IsNameUpTo most bytes = (1 ≤ length bytes) × (length bytes ≤ most) × IsTrue (list_all is_name_byte bytes)

-- a name: 1 to 8 such bytes
abbrev pub IsName : List ℕ → Type 0
IsName bytes = IsNameUpTo 8 bytes

-- a program name: 1 to 32 such bytes
abbrev pub IsProgName : List ℕ → Type 0
IsProgName bytes = IsNameUpTo 32 bytes

-- the bytes, where they are such a name
abbrev pub name_up_to : ℕ → List ℕ → Option (List ℕ)
name_up_to most bytes =
    if nat_le 1 (length bytes) && nat_le (length bytes) most && list_all is_name_byte bytes then Some bytes else None

-- the name with these bytes, where they are a name
abbrev pub name_of : List ℕ → Option (List ℕ)
name_of bytes = name_up_to 8 bytes

-- the program name with these bytes, where they are one
abbrev pub prog_name_of : List ℕ → Option (List ℕ)
prog_name_of bytes = name_up_to 32 bytes

-- filled with spaces on the right to a width
abbrev pub filled : ℕ → List ℕ → List ℕ
filled width name = name ++ replicate (width - length name) 32

-- filled with spaces on the right to 8 bytes
abbrev pub padded : List ℕ → List ℕ
padded name = filled 8 name

-- the space that fills a name
abbrev pub is_space : ℕ → Bool
is_space b = b == 32

-- the name that the bytes are when it is filled with spaces; none where there is no such name
abbrev pub name_in : List ℕ → Option (List ℕ)
name_in bytes =
    if list_all is_space (drop (prefix_len is_name_byte bytes) bytes)
    then name_of (take (prefix_len is_name_byte bytes) bytes)
    else None

-- without the spaces at the end
unfoldable pub trim_end : List ℕ → List ℕ
trim_end bytes = take (length bytes - suffix_len is_space bytes) bytes

-- 1 to 18 digits
abbrev pub IsDecimal : List ℕ → Type 0
IsDecimal bytes = (1 ≤ length bytes) × (length bytes ≤ 18) × IsTrue (list_all is_digit bytes)

-- the number that digits stand for
abbrev pub decimal_value : List ℕ → ℕ
decimal_value bytes = digits_value 10 bytes

-- the value of 1 to 18 digits
abbrev pub decimal_of : List ℕ → Option ℕ
decimal_of bytes =
    if nat_le 1 (length bytes) && nat_le (length bytes) 18 && list_all is_digit bytes then Some (decimal_value bytes) else None

-- a hexadecimal digit in lower case
abbrev pub hex_digit : ℕ → ℕ
hex_digit n = if nat_lt n 10 then 48 + n else 87 + n

-- how a byte is printed: `\` twice, the other bytes from 0x20 to 0x7E as they are, the rest as `\x` and two digits
abbrev pub escaped_byte : ℕ → List ℕ
escaped_byte b =
    if b == 92 then 92 ∷ 92 ∷ []
    else (if is_between 32 126 b then b ∷ [] else 92 ∷ 120 ∷ hex_digit (b / 16) ∷ hex_digit (b % 16) ∷ [])

-- how bytes are printed
abbrev pub escaped : List ℕ → List ℕ
escaped bytes = flat_map escaped_byte bytes
