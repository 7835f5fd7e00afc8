-- Which copies are in use after two files were read, and which tables they keep.
use Rattle.std.specs.Prelude.{◌≡◌, ◌⊎◌, ◌≤◌, ◌<◌, ℕ, ◌+◌, List, Option, Some, None}
use Rattle.kd_records.specs.Identity.{Identity}
use Rattle.application_types.specs.Generation.{Generated}
use Rattle.kdcs_types.specs.Tables.{TableRows}
use Rattle.laws_of_states.specs.Suits.{Suits}
use Rattle.kdcfile_store.specs.declared.store.StoreLimits.{StoreLimits}
use Rattle.kdcfile_store.specs.Paged.{HasFile}
use Rattle.kdcfile_copies.specs.declared.answer.LoadedCopy.{LoadedCopy}
use Rattle.kdcfile_copies.specs.declared.answer.Found.{Found}
use Rattle.kdcfile_copies.specs.declared.answer.Found.TheVariants.{Empty, NoCopy, Copy}
use Rattle.kdcfile_copies.specs.Copies.{IsChosen, IsNoCopy, bare}
use Rattle.kdcfile_copies.specs.Finding.{IsLoaded}
use Rattle.kdcfile_double.specs.Twice.{Twice, AreSame, with_copies, identity_of, sequence_of, content_of}
use Rattle.kdcfile_double.specs.Opening.{AreInUseSo, KeepsTablesTwice}

-- the copy that was found, if one was
abbrev pub copy_in : Found → Option LoadedCopy
copy_in Empty = None
copy_in NoCopy = None
copy_in (Copy p) = Some p

-- a file with these bytes has this copy, or is none
abbrev pub HasCopy : Option LoadedCopy → List ℕ → Type 0
HasCopy (Some p) bytes = HasFile p.store bytes
HasCopy None bytes = IsNoCopy bytes

abbrev pub IsLoadedIf : Option LoadedCopy → Type 0
IsLoadedIf (Some p) = IsLoaded p
IsLoadedIf None = Unit {0}

-- of two copies: the one with the greater sequence, and of two with one sequence the first, and the second too where it is the same
abbrev pub IsOfTwo : (p q : LoadedCopy) → Twice → Type 0
IsOfTwo p q s =
    ((p.sequence < q.sequence) × (s ≡ with_copies None (Some q)))
    ⊎ (((q.sequence ≤ p.sequence) × (AreSame p q → ⊥) × (s ≡ with_copies (Some p) None)) ⊎ (AreSame p q × (s ≡ with_copies (Some p) (Some q))))

-- a copy that stands alone is the one that counts
abbrev pub IsChoice : (p q : Option LoadedCopy) → Twice → Type 0
IsChoice (Some p) (Some q) s = IsOfTwo p q s
IsChoice (Some p) None s = s ≡ with_copies (Some p) None
IsChoice None (Some q) s = s ≡ with_copies None (Some q)
IsChoice None None s = ⊥

-- the copies in use are those of two files
pub record AreOfFiles (s : Twice) (a b : List ℕ) : Type 0 where
  pub chosen : IsChosen (identity_of s) (sequence_of s) (content_of s) a b
  pub in_use : AreInUseSo s a b
  pub first_has : (p : LoadedCopy) → s.first ≡ Some p → HasFile p.store a
  pub second_has : (p : LoadedCopy) → s.second ≡ Some p → HasFile p.store b

-- this is the copy that counts
pub record IsCounted (p : LoadedCopy) (s : Twice) : Type 0 where
  pub identity : p.store.identity ≡ identity_of s
  pub sequence : p.sequence ≡ sequence_of s
  pub content : bare p.store.content ≡ content_of s

-- ---- tables

-- tables from files with these limits suit a generation: there is one page more
pub record SuitsTwice (g : Generated) (limits : StoreLimits) (t : TableRows) : Type 0 where
  pub pages : limits.blksize ≡ g.limits.blksize
  pub pool : limits.pgpool ≡ g.limits.pgpool + 1
  pub tables : Suits g t

-- no tables are kept, or they are of these texts and do not suit the generation
pub record KeepsNoneTwice (g : Generated) (fingerprint : List ℕ) (s : Twice) : Type 0 where
  pub own_texts : (i : Identity) (t : TableRows) → KeepsTablesTwice i s t → i.fingerprint ≡ fingerprint
  pub unsuited : (i : Identity) (t : TableRows) → KeepsTablesTwice i s t → i.blksize ≡ g.limits.blksize → i.pages ≡ g.limits.pgpool + 1 → Suits g t → ⊥

-- the tables that are kept are of texts with another fingerprint
pub record KeepsOthersTwice (stored fingerprint : List ℕ) (s : Twice) : Type 0 where
  pub differs : stored ≡ fingerprint → ⊥
  pub keeps : (t : TableRows) × KeepsTablesTwice (identity_of s) s t
  pub made_with : (identity_of s).fingerprint ≡ stored
