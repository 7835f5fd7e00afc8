-- How the bytes of a KDCFILE are read: what its first bytes say, and what the selected image says.
use Rattle.kdcfile_layout.specs.Fields.{number, key_at}
use Rattle.std.specs.Prelude.{◌≡◌, ◌⊎◌, ◌≤◌, ℕ, zero, suc, ◌+◌, ◌*◌, ◌%◌, Bool, true, ◌&&◌, ◌||◌, ◌==◌, nat_lt, nat_le, if◌then◌else◌, List, [], ◌∷◌, ◌++◌, length, take, drop, get_or, codes, Option}
use Rattle.std.specs.Prelude.{Some, None}
use Rattle.std.specs.Option.{option_map, option_and_then}
use Rattle.std.specs.Int.{w32, w64}
use Rattle.std.specs.Str.{bytes_eq}
use Rattle.std.specs.Ordering.{is_lt}
use Rattle.kd_base.specs.Tools.{onto}
use Rattle.kd_records.specs.declared.key.RecordKey.{RecordKey}
use Rattle.kd_records.specs.Contents.{Record}
use Rattle.kd_records.specs.Keys.{key_cmp}
use Rattle.device_tests.specs.declared.whole_store.head.Head.{Head}
use Rattle.device_tests.specs.declared.whole_store.image.Root.{Root}
use Rattle.device_tests.specs.Opened.{Opened}

-- the sizes that a file may have
pub record HasSizes (blksize pages : ℕ) : Type 0 where
  pub size : (blksize ≡ 2048) ⊎ ((blksize ≡ 4096) ⊎ (blksize ≡ 8192))
  pub least : 16 ≤ pages
  pub most : pages ≤ 30000

abbrev pub has_sizes : ℕ → ℕ → Bool
has_sizes blksize pages = (blksize == 2048 || blksize == 4096 || blksize == 8192) && nat_le 16 pages && nat_le pages 30000

abbrev pub size_of : Head → ℕ
size_of h = 8192 + h.pages * h.blksize

abbrev pub place_of : Head → ℕ
place_of h = if h.second then 8192 + size_of h else 8192

-- the gate, the mark and the form
abbrev pub gate : List ℕ
gate = 75 ∷ codes "UTMKDCF" ++ 1 ∷ []

abbrev pub sized : ℕ → ℕ → Bool → Option Head
sized blksize pages second = if has_sizes blksize pages then Some (record { blksize = blksize; pages = pages; second = second }) else None

-- what the first bytes say, up to the selector
abbrev pub head_of : List ℕ → Option Head
head_of front =
    if nat_lt (length front) 4097 then None
    else (if bytes_eq (take 9 front) gate then sized (number w32 9 front) (number w32 13 front) (get_or front 4096 0 % 2 == 1) else None)

-- PGPOOL once more, no directory, and the mark
abbrev pub is_root : ℕ → List ℕ → Bool
is_root pages image = (number w32 48 image == pages) && (number w32 52 image == 0) && bytes_eq (take 4 (drop 60 image)) (codes "ROOT")

abbrev pub root_with : ℕ → List ℕ → Root
root_with pages image = record { fingerprint = take 32 image; clock = number w64 32 image; next_job = number w64 40 image; pgpool = pages; records = number w32 56 image }

-- the root at the front of an image
abbrev pub root_of : ℕ → List ℕ → Option Root
root_of pages image = if nat_lt (length image) 64 then None else (if is_root pages image then Some (root_with pages image) else None)

-- a key that may be after another
abbrev pub comes_after : Option RecordKey → RecordKey → Bool
comes_after None k = true
comes_after (Some j) k = is_lt (key_cmp j k)

abbrev pub valued : ℕ → List ℕ → Option Record
valued n left = if nat_lt (length left) (29 + n) then None else Some (key_at left, take n (drop 29 left))

-- the record at the front
unfoldable pub record_at : List ℕ → Option Record
record_at left = if nat_lt (length left) 29 then None else (if get_or left 0 0 == 0 then None else valued (number w32 25 left) left)

-- what is left after it
abbrev pub after_record : Record → List ℕ → List ℕ
after_record r left = drop (29 + length r.1) left

-- so many records, whose keys ascend from the previous one
unfoldable pub records_of : Option RecordKey → ℕ → List ℕ → Option (List Record)
records_of previous zero left = Some []
records_of previous (suc n) left =
    option_and_then (λ r. if comes_after previous r.0 then onto (r ∷ []) (records_of (Some r.0) n (after_record r left)) else None) (record_at left)

-- an image: the root, and its records
abbrev pub image_of : Head → List ℕ → Option (Opened × List Record)
image_of h image =
    option_and_then
    (λ root. option_map (λ items. (record { blksize = h.blksize; root = root; second = h.second }, items)) (records_of None root.records (drop 64 image)))
    (root_of h.pages image)
