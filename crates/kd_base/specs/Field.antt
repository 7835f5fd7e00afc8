-- Big-endian fields at the front of a list of bytes.
use Rattle.std.specs.Prelude.{ℕ, List, ◌++◌, is_some, length, take, drop, nat_lt, Option, Some, None, if◌then◌else◌}
use Rattle.kd_base.specs.Text.{name_in}
use Rattle.std.specs.Int.{Width, w32, byte_len, from_be_bytes, to_be_bytes}

-- the number in the first bytes, none where there are too few
abbrev pub number_at : Width → List ℕ → Option ℕ
number_at w bytes = if nat_lt (length bytes) (byte_len w) then None else Some (from_be_bytes w (take (byte_len w) bytes))

-- what is left after it; all, where there are too few
abbrev pub after_number : Width → List ℕ → List ℕ
after_number w bytes = if nat_lt (length bytes) (byte_len w) then bytes else drop (byte_len w) bytes

-- how a list is written: four bytes of length, and that many bytes
abbrev pub list : List ℕ → List ℕ
list bytes = to_be_bytes w32 (length bytes) ++ bytes

-- the first n bytes, none where there are too few
abbrev pub list_of : ℕ → List ℕ → Option (List ℕ)
list_of n bytes = if nat_lt (length bytes) n then None else Some (take n bytes)

-- the list that is in front, none where the bytes are too few for it
abbrev pub list_at : List ℕ → Option (List ℕ)
list_at bytes =
    if nat_lt (length bytes) 4 then None else list_of (from_be_bytes w32 (take 4 bytes)) (drop 4 bytes)

-- what is left after the first n of the bytes after a length; all, where there are too few
abbrev pub rest_of : ℕ → List ℕ → List ℕ → List ℕ
rest_of n behind bytes = if nat_lt (length behind) n then bytes else drop n behind

-- what is left after a list; all, where there is none
abbrev pub after_list : List ℕ → List ℕ
after_list bytes =
    if nat_lt (length bytes) 4 then bytes else rest_of (from_be_bytes w32 (take 4 bytes)) (drop 4 bytes) bytes

-- the name in the first 8 bytes, none where there are too few or they are no name filled with spaces
abbrev pub name_at : List ℕ → Option (List ℕ)
name_at bytes = if nat_lt (length bytes) 8 then None else name_in (take 8 bytes)

-- what is left after it; all, where there is no name
abbrev pub after_name : List ℕ → List ℕ
after_name bytes = if is_some (name_at bytes) then drop 8 bytes else bytes
