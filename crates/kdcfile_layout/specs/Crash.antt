-- What a stop within a commit of pages leaves: the old image or the new one.
use Rattle.std.proofs.Common.{◌≡◌, ◌⊎◌, ℕ, ◌+◌, ◌≤◌, Bool, not, List, length}
use Rattle.std.specs.Prelude.{All}
use Rattle.kdcfile_layout.specs.Layout.{StandsAt, Layout, Name, Names, root_place, page_place}
use Rattle.kdcfile_layout.specs.declared.page.PageWrite.{PageWrite}

-- a write of the other root, or of pages none of which the layout names
abbrev pub IsFree : ℕ → Bool → Layout → PageWrite → Type 0
IsFree size second l w =
    ((w.at ≡ root_place (not second)) × (length w.bytes ≤ 8192))
    ⊎ ((24576 ≤ w.at) × ((u : Name) (p : ℕ) → Names l u p → (page_place size p + size ≤ w.at) ⊎ (w.at + length w.bytes ≤ page_place size p)))

abbrev pub AllFree : ℕ → Bool → Layout → List PageWrite → Type 0
AllFree size second l ws = All (IsFree size second l) ws

-- ---- an image is kept where its parts are

pub record KeepsImage (size : ℕ) (second : Bool) (l : Layout) (h c : List ℕ) : Type 0 where
  pub first : (part : List ℕ) → length part ≤ 13 → StandsAt 0 part h → length part ≤ length h → StandsAt 0 part c
  pub root : (part : List ℕ) → length part ≤ 8192 → StandsAt (root_place second) part h → root_place second + length part ≤ length h → StandsAt (root_place second) part c
  pub page : (u : Name) (p : ℕ) (part : List ℕ) → Names l u p → length part ≤ size → StandsAt (page_place size p) part h → page_place size p + length part ≤ length h → StandsAt (page_place size p) part c
  pub no_shorter : length h ≤ length c
