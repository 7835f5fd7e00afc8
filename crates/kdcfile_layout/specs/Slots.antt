-- How the slots of a directory page are read.
use Rattle.std.specs.Prelude.{ℕ, zero, suc, ◌==◌, nat_lt, if◌then◌else◌, List, [], ◌∷◌, length, take, drop, get_or, Option, Some, None}
use Rattle.std.specs.Option.{option_map, option_and_then}
use Rattle.std.specs.Int.{w32}
use Rattle.std.specs.Str.{bytes_eq}
use Rattle.kdcfile_layout.specs.Fields.{number, key_at}
use Rattle.kdcfile_layout.specs.declared.chain.Chain.{Chain}
use Rattle.kdcfile_layout.specs.Layout.{zeros, first_of_pages}
use Rattle.kdcfile_layout.specs.declared.kdcfile_read.slot.First.{First}

-- what a slot says of the chain in it
abbrev pub first_in : Option Chain → Option First
first_in o = option_map (λ (c : Chain). record { key = c.key; page = first_of_pages c.pages }) o

abbrev pub free_slot_of : List ℕ → Option (Option First)
free_slot_of bytes = if bytes_eq (take 32 bytes) (zeros 32) then Some None else None

abbrev pub used_slot_of : List ℕ → Option (Option First)
used_slot_of bytes = if bytes_eq (take 3 (drop 29 bytes)) (zeros 3) then Some (Some (record { key = key_at bytes; page = number w32 25 bytes })) else None

-- the slot at the front, free or used, if there is one
unfoldable pub slot_of : List ℕ → Option (Option First)
slot_of bytes = if nat_lt (length bytes) 32 then None else (if get_or bytes 0 0 == 0 then free_slot_of bytes else used_slot_of bytes)

-- so many slots from the front
unfoldable pub slots_of : ℕ → List ℕ → Option (List (Option First))
slots_of zero bytes = Some []
slots_of (suc n) bytes = option_and_then (λ o. option_map (λ os. o ∷ os) (slots_of n (drop 32 bytes))) (slot_of bytes)
