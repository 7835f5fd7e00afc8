-- What is read of a file: the slots of its directory, and the chains that they begin.
use Rattle.std.specs.Prelude.{◌≡◌, ℕ, ◌-◌, ◌<◌, ◌^◌, nat_lt, nat_le, if◌then◌else◌, List, [], ◌∷◌, ◌++◌, length, Option, Some, None, All}
use Rattle.std.specs.Option.{option_map, option_and_then}
use Rattle.kd_records.specs.declared.key.RecordKey.{RecordKey}
use Rattle.kd_records.specs.Contents.{IsKey, IsRecord}
use Rattle.kd_records.specs.Charge.{charge_of}
use Rattle.kdcfile_layout.specs.Layout.{slots_in_page}
use Rattle.kdcfile_layout.specs.declared.kdcfile_read.slot.First.{First}
use Rattle.kdcfile_layout.specs.Slots.{slots_of}
use Rattle.kdcfile_layout.specs.Reading.{whole_of}
use Rattle.kdcfile_layout.specs.Chains.{page_at, Chained, chain_of}
use Rattle.kdcfile_load.specs.Gathers.{AreKept}
use Rattle.kdcfile_load.specs.declared.records.Gathering.{Gathering}

-- steps that may fail, one for each item
unfoldable pub steps : {S X : Type 0} → (S → X → Option S) → S → List X → Option S
steps step s [] = Some s
steps step s (x ∷ xs) = option_and_then (λ next. steps step next xs) (step s x)

-- ---- the directory

-- the slots of a page that there is
abbrev pub slots_at : ℕ → ℕ → List ℕ → ℕ → Option (List (Option First))
slots_at size count h p = if nat_lt p count then slots_of (slots_in_page size) (page_at size h p) else None

-- the slots that were read, with those of one page more
abbrev pub after_page : ℕ → ℕ → List ℕ → List (Option First) → ℕ → Option (List (Option First))
after_page size count h slots p = option_map (λ more. slots ++ more) (slots_at size count h p)

-- and with those of all of these pages
abbrev pub directory_from : ℕ → ℕ → List ℕ → List (Option First) → List ℕ → Option (List (Option First))
directory_from size count h slots pages = steps (after_page size count h) slots pages

-- a slot with a key that a record can have
abbrev pub IsFirst : Option First → Type 0
IsFirst None = Unit {0}
IsFirst (Some f) = IsKey f.key

-- so many slots that were read
pub record AreFirsts (n : ℕ) (slots : List (Option First)) : Type 0 where
  pub number : length slots ≡ n
  pub keys : All IsFirst slots

-- ---- records

-- the bytes of a page that there is, and else none
abbrev pub page_in : ℕ → ℕ → List ℕ → ℕ → List ℕ
page_in size count h p = if nat_lt p count then page_at size h p else []

-- the chain of a value of n bytes, where no more than so many pages are left for it
abbrev pub chain_within : ℕ → ℕ → ℕ → List ℕ → RecordKey → ℕ → ℕ → Option Chained
chain_within size count left h k p n = if nat_le (charge_of size n) left then chain_of size count h k n 0 (charge_of size n) n p else None

-- the pages and the value of the record whose chain begins at this page
abbrev pub record_at : ℕ → ℕ → ℕ → List ℕ → RecordKey → ℕ → Option Chained
record_at size count left h k p =
    if nat_lt p count then option_and_then (λ n. chain_within size count left h k p n) (whole_of (page_at size h p)) else None

-- with a slot that is free
abbrev pub with_free : Gathering → Gathering
with_free g = record { left = g.left; slots = g.slots ++ None ∷ []; records = g.records }

-- with a slot that has this record
abbrev pub with_record : Gathering → RecordKey → Chained → Gathering
with_record g k r = record { left = g.left - length r.0; slots = g.slots ++ Some (record { key = k; pages = r.0 }) ∷ []; records = g.records ++ (k, r.1) ∷ [] }

-- what was read, with one slot more
abbrev pub after_slot : ℕ → ℕ → List ℕ → Gathering → Option First → Option Gathering
after_slot size count h g None = Some (with_free g)
after_slot size count h g (Some f) = option_map (λ r. with_record g f.key r) (record_at size count g.left h f.key f.page)

-- and with all of these slots
abbrev pub records_from : ℕ → ℕ → List ℕ → Gathering → List (Option First) → Option Gathering
records_from size count h g slots = steps (after_slot size count h) g slots

-- a chain of as many pages as its value is charged
pub record IsCharged (size : ℕ) (r : Chained) : Type 0 where
  pub pages : length r.0 ≡ charge_of size (length r.1)
  pub value : length r.1 < 2 ^ 32

-- the slot is free, or has some chain of as many pages as its value is charged
abbrev pub Follows : ℕ → Option First → Gathering → Gathering → Type 0
Follows size None g n = n ≡ with_free g
Follows size (Some f) g n = (r : Chained) × (n ≡ with_record g f.key r) × IsCharged size r

-- before the first slot, with so many pages left
abbrev pub none_yet : ℕ → Gathering
none_yet count = record { left = count; slots = []; records = [] }

-- so many slots, whose records a file can keep and are charged their pages
pub record IsGathering (size n : ℕ) (g : Gathering) : Type 0 where
  pub number : length g.slots ≡ n
  pub kept : AreKept size g.slots g.records
  pub records : All IsRecord g.records
