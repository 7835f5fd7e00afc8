-- What the opening of a KDCFILE answers, and what a stop within it leaves.
use Rattle.std.specs.Prelude.{◌≡◌, ◌⊎◌, ℕ, ◌+◌, List, [], ◌∷◌}
use Rattle.kd_device.specs.Device.{State, LeavesOnly}
use Rattle.kd_records.specs.Identity.{Identity}
use Rattle.application_types.specs.Generation.{Generated}
use Rattle.kdcs_types.specs.Tables.{TableRows, empty_tables}
use Rattle.kdcfile_layout.specs.Layout.{IsNoImage}
use Rattle.kdcfile_store.specs.Paged.{made_length}
use Rattle.laws_of_states.specs.Suits.{Suits, SuitsFrom}
use Rattle.device_acts.specs.Stands.{StandsForTables, identity_for}

-- an application starts from these tables: an empty file is made with the empty ones
abbrev pub StartsFrom : Generated → (fingerprint bytes : List ℕ) → TableRows → Type 0
StartsFrom g fingerprint bytes t = ((bytes ≡ []) × (t ≡ empty_tables)) ⊎ (StandsForTables (identity_for g fingerprint) t bytes × Suits g t)

-- the bytes stand for no tables, or for some of these texts that do not suit the generation
pub record HasNoTablesFor (g : Generated) (fingerprint bytes : List ℕ) : Type 0 where
  pub own_texts : (i : Identity) (t : TableRows) → StandsForTables i t bytes → i.fingerprint ≡ fingerprint
  pub unsuited : (i : Identity) (t : TableRows) → StandsForTables i t bytes → SuitsFrom g i.blksize i.pages t → ⊥

-- it starts from no tables, and the file is not empty
abbrev pub IsRefused : Generated → (fingerprint bytes : List ℕ) → Type 0
IsRefused g fingerprint bytes = (bytes ≡ [] → ⊥) × HasNoTablesFor g fingerprint bytes

-- the bytes stand for some tables of texts with another fingerprint
pub record IsOfOtherTexts (stored fingerprint bytes : List ℕ) : Type 0 where
  pub differs : stored ≡ fingerprint → ⊥
  pub stands : (i : Identity) × (t : TableRows) × StandsForTables i t bytes × (i.fingerprint ≡ stored)

-- a file is answered in one way
pub record HasOneAnswer (g : Generated) (fingerprint bytes : List ℕ) : Type 0 where
  pub started_once : (t u : TableRows) → StartsFrom g fingerprint bytes t → StartsFrom g fingerprint bytes u → t ≡ u
  pub started_or_refused : (t : TableRows) → StartsFrom g fingerprint bytes t → IsRefused g fingerprint bytes → ⊥
  pub started_or_other : (t : TableRows) (stored : List ℕ) → StartsFrom g fingerprint bytes t → IsOfOtherTexts stored fingerprint bytes → ⊥
  pub refused_or_other : (stored : List ℕ) → IsRefused g fingerprint bytes → IsOfOtherTexts stored fingerprint bytes → ⊥
  pub other_once : (stored again : List ℕ) → IsOfOtherTexts stored fingerprint bytes → IsOfOtherTexts again fingerprint bytes → stored ≡ again

abbrev pub AnswersExcludeEachOther : Type 0
AnswersExcludeEachOther = (g : Generated) (fingerprint bytes : List ℕ) → HasOneAnswer g fingerprint bytes

-- within the making of an empty file: it is no image yet, or has the empty tables
pub record IsBeingMade (i : Identity) (a : State) (image : List ℕ) : Type 0 where
  pub empty : a.holds ≡ []
  pub image_is : IsNoImage image ⊎ StandsForTables i empty_tables image

-- at a stop within the opening: nothing was sent, and the file is as it was, or is being made
pub record IsOpening (i : Identity) (a : State) (la : ℕ → List ℕ → List ℕ → Type 0) (image out : List ℕ) : Type 0 where
  pub silent : out ≡ a.sent
  pub file : la a.moment image a.sent ⊎ IsBeingMade i a image

-- a stop within the opening leaves no more
abbrev pub LeavesOpening : Identity → (a b : State) → (la lb : ℕ → List ℕ → List ℕ → Type 0) → Type 0
LeavesOpening i a b la lb = LeavesOnly a b la lb (IsOpening i a la)

-- how many bytes an opening writes at most: those of a fresh file, and its gate once more, where the file is empty, and none where it is not
abbrev pub opening_most : Identity → (bytes : List ℕ) → ℕ
opening_most i [] = made_length i + 1
opening_most i (b ∷ bs) = 0
