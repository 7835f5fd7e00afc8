-- The hash of a name under a key.
use Rattle.std.specs.Prelude.{ℕ, ◌+◌, ◌*◌, ◌/◌, ◌%◌, ◌^◌, ◌==◌, List, fold, length, if◌then◌else◌, bit_xor}
use Rattle.std.specs.Int.{w64, from_le_bytes}
use Rattle.application_types.specs.declared.generation.hashing.NameHasher.{NameHasher}

-- the state after one number: of a product and a sum modulo 2^128 the upper 64 bits
abbrev pub mixed : NameHasher → ℕ → NameHasher
mixed hasher word = record hasher { state = ((hasher.multiplier * bit_xor hasher.state word) % 2 ^ 128 + hasher.addend) % 2 ^ 128 / 2 ^ 64 }

-- the state after bytes: eight are one number, the lowest first, and of others each one
abbrev pub written : NameHasher → List ℕ → NameHasher
written hasher bytes = if length bytes == 8 then mixed hasher (from_le_bytes w64 bytes) else fold mixed hasher bytes
