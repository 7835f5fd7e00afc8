-- What a commit has prepared so far, and what is kept while it is prepared.
use Rattle.std.specs.Prelude.{◌≡◌, ◌⊎◌, ◌≤◌, ℕ, ◌+◌, ◌*◌, ◌/◌, Bool, true, false, List, [], ◌∷◌, ◌++◌, length, set, get_or, replicate, Option, Some, None, All}
use Rattle.std.specs.List.{count_by}
use Rattle.kd_records.specs.declared.key.RecordKey.{RecordKey}
use Rattle.kd_records.specs.Charge.{charge_of}
use Rattle.kd_records.specs.Contents.{Record}
use Rattle.kdcfile_layout.specs.Places.{At}
use Rattle.kdcfile_layout.specs.declared.chain.Chain.{Chain}
use Rattle.kdcfile_layout.specs.declared.page.PageWrite.{PageWrite}
use Rattle.kdcfile_layout.specs.Layout.{Layout, slots_in_page, page_place, record_parts, directory_text}
use Rattle.kdcfile_layout.specs.Pages.{page_write, part_writes}
use Rattle.page_drafts.specs.Drafts.{Drafted}
use Rattle.page_drafts.specs.DraftSteps.{next_pages, after, HasLength}
use Rattle.page_drafts.specs.Tables.{IsPlaceFor, IsAbsent, pages_in}

-- the layout, which pages of the directory are stale, the writes, how many pages of the plan they take, the pages that
-- only the old layout names, the slots of the old layout, and a length that the file has
pub record Drafting : Type 0 where
  pub layout : Layout
  pub stale : List Bool
  pub writes : List PageWrite
  pub taken : ℕ
  pub freed : List ℕ
  pub before : List (Option Chain)
  pub long : ℕ

-- nothing is prepared yet
abbrev pub unprepared : ℕ → Layout → Drafting
unprepared long l = record { layout = l; stale = replicate (length l.directory) false; writes = []; taken = 0; freed = []; before = l.slots; long = long }

-- the directory page of this slot is stale
abbrev pub touched : ℕ → ℕ → Drafting → Drafting
touched size s d = record d { stale = set d.stale (s / slots_in_page size) true }

-- the chain of a value on the plan's next pages
abbrev pub new_chain : ℕ → List ℕ → RecordKey → List ℕ → ℕ → Chain
new_chain size plan k v t = record { key = k; pages = next_pages plan t (charge_of size (length v)) }

-- the slot gets the chain of this value
abbrev pub put_in : ℕ → List ℕ → RecordKey → List ℕ → ℕ → Drafting → Drafting
put_in size plan k v s d =
    record {
      layout = record d.layout { slots = set d.layout.slots s (Some (new_chain size plan k v d.taken)) };
      stale = set d.stale (s / slots_in_page size) true;
      writes = d.writes ++ part_writes size d.long (record_parts size v (new_chain size plan k v d.taken));
      taken = d.taken + charge_of size (length v);
      freed = d.freed ++ pages_in (get_or d.layout.slots s None);
      before = d.before;
      long = d.long;
    }

-- the slot is freed
abbrev pub removed_in : ℕ → ℕ → Drafting → Drafting
removed_in size s d =
    record d {
      layout = record d.layout { slots = set d.layout.slots s None };
      stale = set d.stale (s / slots_in_page size) true;
      freed = d.freed ++ pages_in (get_or d.layout.slots s None);
    }

-- the key's slot is freed, or no slot has the key
abbrev pub IsRemoved : ℕ → RecordKey → Drafting → Drafting → Type 0
IsRemoved size k d e = (IsAbsent k d.layout.slots × (e ≡ d)) ⊎ ((s : ℕ) × IsPlaceFor k s d.layout.slots × (e ≡ removed_in size s d))

-- the k-th page of the directory is written on the plan's next page
pub record IsPageWritten (size : ℕ) (plan : List ℕ) (k : ℕ) (d e : Drafting) : Type 0 where
  pub page : (q : ℕ) × At plan d.taken q × (e.layout.directory ≡ set d.layout.directory k q) × (e.writes ≡ d.writes ++ page_write size (q, directory_text size k d.layout.slots) ∷ [])
  pub fits : length (directory_text size k d.layout.slots) ≤ size
  pub slots : e.layout.slots ≡ d.layout.slots
  pub stale : e.stale ≡ set d.stale k false
  pub taken : e.taken ≡ d.taken + 1
  pub freed : e.freed ≡ d.freed ++ get_or d.layout.directory k 0 ∷ []
  pub long : e.long ≡ d.long

-- ---- what is kept

-- a page of the plan is written, or its front
abbrev pub IsOnPlan : ℕ → List ℕ → PageWrite → Type 0
IsOnPlan size plan w = (n : ℕ) × (q : ℕ) × At plan n q × (w.at ≡ page_place size q) × (length w.bytes ≤ size)

-- the sizes of what is prepared
pub record IsSized (size : ℕ) (d : Drafting) : Type 0 where
  pub stale : length d.stale ≡ length d.layout.directory
  pub slots : length d.layout.slots ≡ length d.layout.directory * slots_in_page size

-- what is prepared is a draft of these records, for a file that is h now
pub record IsDraft (size pool : ℕ) (items : List Record) (plan : List ℕ) (file : Option (List ℕ)) (d : Drafting) : Type 0 where
  pub drafted : Drafted size pool items d.layout d.stale plan d.taken (after file d.writes)
  pub on_plan : All (IsOnPlan size plan) d.writes
  pub count : length d.writes ≡ d.taken
  pub long : HasLength d.long file

-- how many pages of the directory are stale
abbrev pub stale_pages : Drafting → ℕ
stale_pages d = count_by (λ b. b) d.stale
