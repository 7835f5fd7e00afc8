-- What the opening of two copies answers, and what a stop within it leaves.
use Rattle.std.specs.Prelude.{◌≡◌, ◌⊎◌, ◌≤◌, ◌<◌, ℕ, ◌+◌, ◌^◌, List, []}
use Rattle.kd_records.specs.Identity.{Identity}
use Rattle.kd_device.specs.Twin.{Both, half_leaves}
use Rattle.kd_device.specs.declared.half.Half.TheVariants.{First, Second}
use Rattle.application_types.specs.Generation.{Generated}
use Rattle.kdcfile_layout.specs.Layout.{fresh}
use Rattle.kdcs_types.specs.Tables.{TableRows, empty_tables}
use Rattle.laws_of_states.specs.Suits.{Suits}
use Rattle.record_codec.specs.Records.{content_of_tables}
use Rattle.device_acts.specs.Stands.{AreTables}
use Rattle.kdcfile_copies.specs.Copies.{AtMost, Below, IsChosen, IsCopyOf, IsNoCopy}
use Rattle.kdcfile_double.specs.Twice.{IsInUse, Twice, identity_of, content_of, sequence_of}

-- what both files of a generation are made with: there is one page more, for the record of the sequence
abbrev pub identity_twice : Generated → (fingerprint : List ℕ) → Identity
identity_twice g fingerprint = record { blksize = g.limits.blksize; pages = g.limits.pgpool + 1; fingerprint = fingerprint }

-- the greatest sequence from which a call goes on
abbrev pub last_sequence : ℕ
last_sequence = 10 ^ 18

-- the copy of two files that counts has this sequence and these tables, in a file that was made with this
pub record IsChosenTables (i : Identity) (n : ℕ) (t : TableRows) (a b : List ℕ) : Type 0 where
  pub tables : AreTables t
  pub chosen : IsChosen i n (content_of_tables t) a b

abbrev pub AreEmpty : (a b : List ℕ) → Type 0
AreEmpty a b = (a ≡ []) × (b ≡ [])

-- an application goes on from these tables
abbrev pub GoesOnFrom : Generated → (fingerprint : List ℕ) → ℕ → TableRows → (a b : List ℕ) → Type 0
GoesOnFrom g fingerprint n t a b = IsChosenTables (identity_twice g fingerprint) n t a b × Suits g t

-- an application starts from these tables: two empty files are made with the empty ones
abbrev pub StartsFromTwo : Generated → (fingerprint a b : List ℕ) → TableRows → Type 0
StartsFromTwo g fingerprint a b t = (AreEmpty a b × (t ≡ empty_tables)) ⊎ ((n : ℕ) × (n ≤ last_sequence) × GoesOnFrom g fingerprint n t a b)

-- no copy counts that stands for tables, or they are of these texts and do not suit the generation
pub record HasNoTablesInTwo (g : Generated) (fingerprint a b : List ℕ) : Type 0 where
  pub own_texts : (i : Identity) (n : ℕ) (t : TableRows) → IsChosenTables i n t a b → i.fingerprint ≡ fingerprint
  pub unsuited : (i : Identity) (n : ℕ) (t : TableRows) → IsChosenTables i n t a b → i.blksize ≡ g.limits.blksize → i.pages ≡ g.limits.pgpool + 1 → Suits g t → ⊥

abbrev pub IsRefusedTwo : Generated → (fingerprint a b : List ℕ) → Type 0
IsRefusedTwo g fingerprint a b = (AreEmpty a b → ⊥) × HasNoTablesInTwo g fingerprint a b

-- the copy that counts stands for tables of texts with another fingerprint
pub record IsTwoOfOtherTexts (stored fingerprint a b : List ℕ) : Type 0 where
  pub differs : stored ≡ fingerprint → ⊥
  pub stands : (i : Identity) × (n : ℕ) × (t : TableRows) × IsChosenTables i n t a b × (i.fingerprint ≡ stored)

-- an application could go on, but the sequence of the copy that counts is too great
pub record IsSpent (g : Generated) (fingerprint : List ℕ) (n : ℕ) (a b : List ℕ) : Type 0 where
  pub great : last_sequence < n
  pub goes_on : (t : TableRows) × GoesOnFrom g fingerprint n t a b

-- the store keeps these tables, in files that were made with this
pub record KeepsTablesTwice (i : Identity) (s : Twice) (t : TableRows) : Type 0 where
  pub identity_is : identity_of s ≡ i
  pub tables : AreTables t
  pub content : content_of s ≡ content_of_tables t

-- within the making of two empty files nothing was sent, and no file is a copy yet, or the one that counts has the empty tables
pub record IsMakingTwo (i : Identity) (sent c d out : List ℕ) : Type 0 where
  pub silent : out ≡ sent
  pub files : (IsNoCopy c × IsNoCopy d) ⊎ IsChosen i 0 fresh c d

-- a stop within calls that change nothing: of each half what a stop before them might have left, and nothing more was sent
abbrev pub Unchanged : Both → (past : ℕ → List ℕ → List ℕ → List ℕ → Type 0) → List ℕ → List ℕ → List ℕ → Type 0
Unchanged old past c d out = (out ≡ old.sent) × half_leaves First past old.moment c old.sent × half_leaves Second past old.moment d old.sent

-- both files stay as they are
pub record SameFiles (old new : Both) : Type 0 where
  pub first_holds : new.first.holds ≡ old.first.holds
  pub second_holds : new.second.holds ≡ old.second.holds
  pub first_put : new.first.put ≡ old.first.put
  pub second_put : new.second.put ≡ old.second.put

-- which halves are in use after an opening: the copy that counts, and the other one where it is the same copy
pub record AreInUseSo (s : Twice) (a b : List ℕ) : Type 0 where
  pub first_is : IsInUse First s → IsCopyOf (identity_of s) (sequence_of s) (content_of s) a
  pub second_is : IsInUse Second s → IsCopyOf (identity_of s) (sequence_of s) (content_of s) b
  pub first_is_not : (IsInUse First s → ⊥) → Below (sequence_of s) a
  pub second_is_not : (IsInUse Second s → ⊥) → AtMost (sequence_of s) b × (IsCopyOf (identity_of s) (sequence_of s) (content_of s) b → ⊥)
