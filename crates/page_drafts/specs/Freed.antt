-- The pages that a commit frees: those of chains and of the directory that only the old layout names.
use Rattle.std.specs.Prelude.{◌≡◌, ◌⊎◌, ℕ, ◌+◌, ◌<◌, ◌≤◌, List, length, Some}
use Rattle.kd_records.specs.declared.key.RecordKey.{RecordKey}
use Rattle.kd_records.specs.Contents.{Change}
use Rattle.kdcfile_layout.specs.Places.{At, IsDistinct}
use Rattle.kdcfile_layout.specs.declared.chain.Chain.{Chain}
use Rattle.kdcfile_layout.specs.Layout.{Layout, Name, Names, chain_pages}
use Rattle.page_drafts.specs.Drafts.{IsUnnamed}

-- the layout names the page somewhere
abbrev pub IsNamed : Layout → ℕ → Type 0
IsNamed l p = (u : Name) × Names l u p

-- how many pages a layout names
abbrev pub named_pages : Layout → ℕ
named_pages l = chain_pages l.slots + length l.directory

-- of the pages that the first layout names, those that the present one does not; what it names besides is on the plan
-- before t
pub record AreFreed (from : Layout) (plan : List ℕ) (l : Layout) (t : ℕ) (freed : List ℕ) : Type 0 where
  pub unnamed : IsUnnamed l freed
  pub distinct : IsDistinct freed
  pub named : (n p : ℕ) → At freed n p → IsNamed from p
  pub kept : (u : Name) (p : ℕ) → Names l u p → IsNamed from p ⊎ ((n : ℕ) × At plan n p × (n < t))
  pub count : length freed + named_pages l ≡ named_pages from + t

-- the chains are those of the first layout
abbrev pub HasChainsOf : Layout → Layout → Type 0
HasChainsOf from l = (s : ℕ) (c : Chain) → At l.slots s (Some c) → At from.slots s (Some c)

-- the directory's pages from the k-th on are those of the first layout
abbrev pub HasPagesOf : ℕ → Layout → Layout → Type 0
HasPagesOf k from l = (j p : ℕ) → k ≤ j → At l.directory j p → At from.directory j p

-- a change has this key
abbrev pub IsKeyIn : RecordKey → List Change → Type 0
IsKeyIn k changes = (n : ℕ) × (b : Change) × At changes n b × (b.0 ≡ k)

-- no two changes have one key
abbrev pub AreOnce : List Change → Type 0
AreOnce changes = (n m : ℕ) (b c : Change) → At changes n b → At changes m c → b.0 ≡ c.0 → n ≡ m
