-- Passwords.
use Rattle.std.specs.Prelude.{ℕ, ◌&&◌, nat_le, List, length, Option, Some, None, if◌then◌else◌}

-- the bytes, where they are 1 to 16
abbrev pub password_of : List ℕ → Option (List ℕ)
password_of bytes = if nat_le 1 (length bytes) && nat_le (length bytes) 16 then Some bytes else None
