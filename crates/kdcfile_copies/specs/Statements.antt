-- Laws of copies: their bytes have one meaning, one of two counts, and the next patch makes the next one.
use Rattle.std.specs.Prelude.{◌≡◌, ◌+◌, ℕ, List, IsTrue}
use Rattle.std.specs.FinMap.{is_sorted}
use Rattle.kd_records.specs.declared.content.Content.{Content}
use Rattle.kd_records.specs.declared.content.Patch.{Patch}
use Rattle.kd_records.specs.Charge.{IsBlockSize, total_charge}
use Rattle.kd_records.specs.Contents.{IsPatch, patched}
use Rattle.kd_records.specs.Identity.{Identity}
use Rattle.kd_records.specs.Keys.{key_cmp}
use Rattle.kdcfile_layout.specs.Layout.{IsNoImage, StandsFor}
use Rattle.kdcfile_copies.specs.Copies.{IsBare, HasSequence, IsCopyOf, IsNoCopy, IsChosen, IsNoRival, HasNoSequence, with_sequence, bare, next_patch}

-- given bytes are one copy at most, made with one identity
abbrev pub OneMeaningOfCopies : Type 0
OneMeaningOfCopies = (i j : Identity) (n m : ℕ) (x y : Content) (bytes : List ℕ) → IsCopyOf i n x bytes → IsCopyOf j m y bytes → (i ≡ j) × (n ≡ m) × (x ≡ y)

-- of two files one copy counts at most
abbrev pub OneIsChosen : Type 0
OneIsChosen = (i j : Identity) (n m : ℕ) (x y : Content) (a b : List ℕ) → IsChosen i n x a b → IsChosen j m y a b → (i ≡ j) × (n ≡ m) × (x ≡ y)

-- a copy counts beside a file that is no rival of it, in either place
pub record CopyIsChosen (i : Identity) (n : ℕ) (x : Content) (copy other : List ℕ) : Type 0 where
  pub first : IsChosen i n x copy other
  pub second : IsChosen i n x other copy

abbrev pub NoRivalIsChosen : Type 0
NoRivalIsChosen = (i : Identity) (n : ℕ) (x : Content) (copy other : List ℕ) → IsCopyOf i n x copy → IsNoRival i n x other → CopyIsChosen i n x copy other

-- what is no image is no copy
abbrev pub NoImageIsNoCopy : Type 0
NoImageIsNoCopy = (bytes : List ℕ) → IsNoImage bytes → IsNoCopy bytes

-- an image is a copy just where its content has a sequence
abbrev pub ImagesAreCopies : Type 0
ImagesAreCopies = (i : Identity) (y : Content) (n : ℕ) (bytes : List ℕ) → StandsFor i y bytes → HasSequence n y → IsCopyOf i n (bare y) bytes

abbrev pub OthersAreNoCopies : Type 0
OthersAreNoCopies = (i : Identity) (y : Content) (bytes : List ℕ) → StandsFor i y bytes → ((n : ℕ) → HasSequence n y → ⊥) → IsNoCopy bytes

-- the next patch of a copy makes the copy of that sequence, with the content that the patch alone makes
abbrev pub NextPatchMakesNext : Type 0
NextPatchMakesNext = (n m : ℕ) (x : Content) (p : Patch) → IsTrue (is_sorted key_cmp x.items) → IsPatch p → patched (with_sequence n x) (next_patch m p) ≡ with_sequence m (patched x p)

abbrev pub PatchKeepsBare : Type 0
PatchKeepsBare = (x : Content) (p : Patch) → IsBare x → IsPatch p → HasNoSequence p → IsBare (patched x p)

-- the record of the sequence is charged one page
abbrev pub SequenceIsOnePage : Type 0
SequenceIsOnePage = (blksize n : ℕ) (x : Content) → IsBlockSize blksize → IsBare x → total_charge blksize (with_sequence n x).items ≡ total_charge blksize x.items + 1
