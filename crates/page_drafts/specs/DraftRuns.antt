-- All changes of a patch, one after another: first those that remove, then those that put; and then the directory.
use Rattle.std.proofs.Common.{◌≡◌, ◌⊎◌, ℕ, ◌+◌, ◌<◌, ◌≤◌, Bool, true, false, List, [], ◌∷◌, length, Option, Some, None}
use Rattle.std.specs.Prelude.{All, sum_by}
use Rattle.kd_records.specs.Contents.{Record, Change, changed}
use Rattle.kdcfile_layout.specs.Places.{At}
use Rattle.kdcfile_layout.specs.declared.chain.Chain.{Chain}
use Rattle.kdcfile_layout.specs.Layout.{Layout}
use Rattle.kdcfile_layout.specs.Bound.{put_charge}
use Rattle.page_drafts.specs.Drafts.{IsPlan, IsUnnamed}
use Rattle.page_drafts.specs.Drafting.{Drafting, put_in, IsRemoved, IsSized, IsDraft, stale_pages}
use Rattle.page_drafts.specs.Freed.{AreFreed, HasChainsOf, HasPagesOf, IsKeyIn, AreOnce}
use Rattle.page_drafts.specs.Tables.{IsPlaceFor}

-- what is freed, by what is prepared
abbrev pub HasFreed : Layout → List ℕ → Drafting → Type 0
HasFreed from plan d = AreFreed from plan d.layout d.taken d.freed

-- ---- the changes that remove

abbrev pub removed_all : List Record → List Change → List Record
removed_all items [] = items
removed_all items ((k, None) ∷ changes) = removed_all (changed items (k, None)) changes
removed_all items ((k, Some v) ∷ changes) = removed_all items changes

abbrev pub is_removal : Option (List ℕ) → ℕ
is_removal None = 1
is_removal (Some v) = 0

abbrev pub removals : List Change → ℕ
removals changes = sum_by (λ (c : Change). is_removal c.1) changes

abbrev pub RemovesOne : ℕ → Change → Drafting → Drafting → Type 0
RemovesOne size (k, None) d e = IsRemoved size k d e
RemovesOne size (k, Some v) d e = e ≡ d

pub record RemovesAll (size : ℕ) (changes : List Change) (d e : Drafting) : Type 0 where
  pub draft : (pool : ℕ) (items : List Record) (plan : List ℕ) (file : Option (List ℕ)) → IsPlan size pool plan → IsDraft size pool items plan file d → IsDraft size pool (removed_all items changes) plan file e
  pub sized : IsSized size e
  pub stale : stale_pages e ≤ stale_pages d + removals changes
  pub taken : e.taken ≡ d.taken
  pub slots : length e.layout.slots ≡ length d.layout.slots
  pub directory : e.layout.directory ≡ d.layout.directory
  pub chains : HasChainsOf d.layout e.layout
  pub freed : (pool : ℕ) (items : List Record) (plan : List ℕ) (file : Option (List ℕ)) (from : Layout) → IsPlan size pool plan → IsDraft size pool items plan file d → IsUnnamed from plan → HasChainsOf from d.layout → HasFreed from plan d → HasFreed from plan e

-- ---- the changes that put

abbrev pub put_all : List Record → List Change → List Record
put_all items [] = items
put_all items ((k, None) ∷ changes) = put_all items changes
put_all items ((k, Some v) ∷ changes) = put_all (changed items (k, Some v)) changes

abbrev pub is_put : Option (List ℕ) → ℕ
is_put None = 0
is_put (Some v) = 1

abbrev pub puts : List Change → ℕ
puts changes = sum_by (λ (c : Change). is_put c.1) changes

abbrev pub PutsOne : ℕ → List ℕ → Change → Drafting → Drafting → Type 0
PutsOne size plan (k, None) d e = e ≡ d
PutsOne size plan (k, Some v) d e = (s : ℕ) × IsPlaceFor k s d.layout.slots × (e ≡ put_in size plan k v s d)

-- the keys have 24 bytes
abbrev pub AreWide : List Change → Type 0
AreWide changes = All (λ (c : Change). length c.0.bytes ≡ 24) changes

-- there is room for all that is put
pub record HasRoom (size pool : ℕ) (items : List Record) (plan : List ℕ) (changes : List Change) (d : Drafting) : Type 0 where
  pub planned : IsPlan size pool plan
  pub draft : IsDraft size pool items plan None d
  pub slots : length (put_all items changes) ≤ length d.layout.slots

pub record PutsAll (size : ℕ) (plan : List ℕ) (changes : List Change) (d e : Drafting) : Type 0 where
  pub draft : (pool : ℕ) (items : List Record) (file : Option (List ℕ)) → IsPlan size pool plan → IsDraft size pool items plan file d → IsDraft size pool (put_all items changes) plan file e
  pub sized : IsSized size e
  pub stale : stale_pages e ≤ stale_pages d + puts changes
  pub stays : (k : ℕ) → At d.stale k true → At e.stale k true
  pub taken : e.taken ≡ d.taken + put_charge size changes
  pub slots : length e.layout.slots ≡ length d.layout.slots
  pub directory : e.layout.directory ≡ d.layout.directory
  pub chains : (s : ℕ) (c : Chain) → At e.layout.slots s (Some c) → At d.layout.slots s (Some c) ⊎ IsKeyIn c.key changes
  pub freed : (pool : ℕ) (items : List Record) (file : Option (List ℕ)) (from : Layout) → IsPlan size pool plan → AreOnce changes → IsDraft size pool items plan file d → IsUnnamed from plan → HasChainsOf from d.layout → HasFreed from plan d → HasFreed from plan e

-- ---- the directory

-- the first k pages are fresh, and those of them that were stale are on the plan
pub record Freshens (size : ℕ) (plan : List ℕ) (k : ℕ) (d e : Drafting) : Type 0 where
  pub draft : (pool : ℕ) (items : List Record) (file : Option (List ℕ)) → IsPlan size pool plan → IsDraft size pool items plan file d → IsDraft size pool items plan file e
  pub clean : (j : ℕ) → j < k → At e.stale j false
  pub later : (j : ℕ) (b : Bool) → k ≤ j → At d.stale j b → At e.stale j b
  pub written : (j p : ℕ) → j < k → At d.stale j true → At e.layout.directory j p → (n : ℕ) × At plan n p
  pub sized : IsSized size e
  pub weight : e.taken + stale_pages e ≡ d.taken + stale_pages d
  pub slots : e.layout.slots ≡ d.layout.slots
  pub directory : length e.layout.directory ≡ length d.layout.directory
  pub pages : HasPagesOf k d.layout e.layout
  pub freed : (pool : ℕ) (items : List Record) (file : Option (List ℕ)) (from : Layout) → IsPlan size pool plan → IsDraft size pool items plan file d → IsUnnamed from plan → HasPagesOf 0 from d.layout → HasFreed from plan d → HasFreed from plan e
