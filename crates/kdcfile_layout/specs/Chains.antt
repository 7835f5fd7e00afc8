-- How a chain of pages is read.
use Rattle.std.specs.Prelude.{ℕ, zero, suc, ◌+◌, ◌-◌, ◌^◌, ◌==◌, ◌&&◌, nat_lt, nat_le, if◌then◌else◌, List, [], ◌∷◌, ◌++◌, length, take, drop, Option, Some, None}
use Rattle.std.specs.Option.{option_map, option_and_then}
use Rattle.std.specs.Int.{w32}
use Rattle.std.specs.Str.{bytes_eq}
use Rattle.kd_records.specs.declared.key.RecordKey.{RecordKey}
use Rattle.kdcfile_layout.specs.Fields.{number}
use Rattle.kdcfile_layout.specs.Layout.{page_place, chain_head}

-- the bytes of a page
abbrev pub page_at : ℕ → List ℕ → ℕ → List ℕ
page_at size h p = take size (drop (page_place size p) h)

-- what a record's page holds, if it has this key, length and part, and zero bytes where they have to be: the number of
-- the next page, and what is after the head
abbrev pub Held : Type 0
Held = ℕ × List ℕ

abbrev pub part_of : ℕ → RecordKey → ℕ → ℕ → List ℕ → Option Held
part_of size k n part page =
    if nat_le size (length page) && bytes_eq (take 48 page) (chain_head k n part (number w32 33 page)) then Some (number w32 33 page, drop 48 page) else None

-- the same of a page of the file
abbrev pub part_at : ℕ → ℕ → List ℕ → RecordKey → ℕ → ℕ → ℕ → Option Held
part_at size count h k n part p = if nat_lt p count then part_of size k n part (page_at size h p) else None

abbrev pub Chained : Type 0
Chained = List ℕ × List ℕ

-- the last page of a chain, with so many bytes of the value
abbrev pub last_with : ℕ → ℕ → Held → Option Chained
last_with room p q = if q.0 == 2 ^ 32 - 1 then Some (p ∷ [], take room q.1) else None

-- the pages from this one on, so many of them, with what is left of the value, so many bytes
unfoldable pub chain_of : ℕ → ℕ → List ℕ → RecordKey → ℕ → ℕ → ℕ → ℕ → ℕ → Option Chained
chain_of size count h k n part zero room p = None
chain_of size count h k n part (suc zero) room p = option_and_then (λ q. last_with room p q) (part_at size count h k n part p)
chain_of size count h k n part (suc (suc left)) room p =
    option_and_then (λ q. option_map (λ (r : Chained). (p ∷ r.0, take (size - 48) q.1 ++ r.1)) (chain_of size count h k n (part + 1) (suc left) (room - (size - 48)) q.0)) (part_at size count h k n part p)
