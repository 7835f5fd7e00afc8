-- How the bytes of a KDCFILE are read: what its first bytes say, what the selected root says, which pages its directory
-- has, and what the head of a record's page says of the value.
use Rattle.std.specs.Prelude.{ℕ, zero, suc, ◌%◌, Bool, ◌&&◌, ◌||◌, ◌==◌, nat_lt, nat_le, if◌then◌else◌, List, [], ◌∷◌, ◌++◌, length, take, drop, get_or, codes, Option, Some, None}
use Rattle.std.specs.Option.{option_map}
use Rattle.std.specs.Int.{w32, w64}
use Rattle.std.specs.Str.{bytes_eq}
use Rattle.kdcfile_layout.specs.Fields.{number}
use Rattle.kdcfile_layout.specs.Layout.{directory_pages}
use Rattle.kdcfile_layout.specs.declared.kdcfile_read.head.Head.{Head}
use Rattle.kdcfile_layout.specs.declared.kdcfile_read.root.RootFields.{RootFields}

-- ---- the head

-- the gate, the mark and the form
abbrev pub gate : List ℕ
gate = 75 ∷ codes "UTMKDCF" ++ 2 ∷ []

abbrev pub is_block_size : ℕ → Bool
is_block_size blksize = blksize == 2048 || blksize == 4096 || blksize == 8192

abbrev pub sized : ℕ → Bool → Option Head
sized blksize second = if is_block_size blksize then Some (record { blksize = blksize; second = second }) else None

-- what the first bytes say, up to the selector
abbrev pub head_of : List ℕ → Option Head
head_of front =
    if nat_lt (length front) 4097 then None
    else (if bytes_eq (take 9 front) gate then sized (number w32 9 front) (get_or front 4096 0 % 2 == 1) else None)

-- ---- the root

-- a page pool that there may be
abbrev pub is_pool : ℕ → Bool
is_pool pool = nat_le 16 pool && nat_le pool 30000

-- PGPOOL, the number of directory pages that follows from it, and the mark
abbrev pub is_root : ℕ → List ℕ → Bool
is_root size bytes = is_pool (number w32 48 bytes) && (number w32 52 bytes == directory_pages size (number w32 48 bytes)) && bytes_eq (take 4 (drop 60 bytes)) (codes "ROOT")

abbrev pub fields_of : List ℕ → RootFields
fields_of bytes = record { fingerprint = take 32 bytes; clock = number w64 32 bytes; next_job = number w64 40 bytes; pgpool = number w32 48 bytes; records = number w32 56 bytes }

-- the root at the front
abbrev pub root_of : ℕ → List ℕ → Option RootFields
root_of size bytes = if nat_lt (length bytes) 64 then None else (if is_root size bytes then Some (fields_of bytes) else None)

-- so many page numbers from the front
unfoldable pub numbers_of : ℕ → List ℕ → Option (List ℕ)
numbers_of zero bytes = Some []
numbers_of (suc n) bytes = if nat_lt (length bytes) 4 then None else option_map (λ ps. number w32 0 bytes ∷ ps) (numbers_of n (drop 4 bytes))

-- ---- the head of a record's page

-- the length of the whole value
abbrev pub whole_of : List ℕ → Option ℕ
whole_of page = if nat_lt (length page) 29 then None else Some (number w32 25 page)
