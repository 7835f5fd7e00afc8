-- What the bytes of a KDCFILE stand for: two images of its content, and a selector between them.
use Rattle.kdcfile_layout.specs.Layout.{StandsAt, selector}
use Rattle.std.specs.Prelude.{◌≡◌, ◌≤◌, ℕ, ◌+◌, ◌*◌, ◌%◌, Bool, if◌then◌else◌, List, [], ◌∷◌, ◌++◌, length, get_or, codes}
use Rattle.std.specs.List.{flat_map}
use Rattle.std.specs.Int.{w32, w64, to_be_bytes}
use Rattle.kd_base.specs.Field.{list}
use Rattle.kd_records.specs.declared.content.Content.{Content}
use Rattle.kd_records.specs.Contents.{Record, IsContent}
use Rattle.kd_records.specs.Identity.{Identity, IsIdentity}

-- the first bytes: an open gate, the mark, form 1, and the sizes
abbrev pub mark : Identity → List ℕ
mark i = codes "UTMKDCF" ++ 1 ∷ [] ++ to_be_bytes w32 i.blksize ++ to_be_bytes w32 i.pages

abbrev pub head : Identity → List ℕ
head i = 75 ∷ mark i

-- how many bytes an image may have
abbrev pub image_size : Identity → ℕ
image_size i = 8192 + i.pages * i.blksize

-- where image A or B stands
abbrev pub place : Identity → Bool → ℕ
place i second = if second then 8192 + image_size i else 8192

-- the root of an image, 64 bytes
abbrev pub root : Identity → Content → List ℕ
root i x =
    i.fingerprint ++ to_be_bytes w64 x.clock ++ to_be_bytes w64 x.next_job ++ to_be_bytes w32 i.pages ++ to_be_bytes w32 0 ++ to_be_bytes w32 (length x.items) ++ codes "ROOT"

-- a record: its kind, its key, and its value as a list
abbrev pub spelled_record : Record → List ℕ
spelled_record r = r.0.kind ∷ (r.0.bytes ++ list r.1)

-- an image: its root, and the records after it
abbrev pub spelled : Identity → Content → List ℕ
spelled i x = root i x ++ flat_map spelled_record x.items

-- the bytes stand for this content, in the image that the selector names
pub record Stands (i : Identity) (second : Bool) (x : Content) (bytes : List ℕ) : Type 0 where
  pub identity : IsIdentity i
  pub content : IsContent x
  pub headed : StandsAt 0 (head i) bytes
  pub selected : get_or bytes 4096 0 % 2 ≡ selector second
  pub image : StandsAt (place i second) (spelled i x) bytes
  pub inside : length (spelled i x) ≤ image_size i

-- in one of the images
abbrev pub StandsFor : Identity → Content → List ℕ → Type 0
StandsFor i x bytes = (second : Bool) × Stands i second x bytes

-- the bytes stand for no image
abbrev pub IsNoImage : List ℕ → Type 0
IsNoImage bytes = (i : Identity) (x : Content) → StandsFor i x bytes → ⊥

-- given bytes stand for one content at most, made with one identity
abbrev pub OneMeaning : Type 0
OneMeaning = (i j : Identity) (x y : Content) (bytes : List ℕ) → StandsFor i x bytes → StandsFor j y bytes → (i ≡ j) × (x ≡ y)
