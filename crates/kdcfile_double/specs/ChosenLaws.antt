-- Laws: which of two files counts, at rest and within a commit.
use Rattle.std.specs.Prelude.{◌≡◌, ◌≤◌, ◌<◌, ℕ, ◌+◌, List, Option, Some, None}
use Rattle.std.proofs.Common.{inl, inr, arith, subst}
use Rattle.kd_records.specs.Identity.{Identity}
use Rattle.kd_records.specs.declared.content.Content.{Content}
use Rattle.kd_device.specs.declared.half.Half.{Half}
use Rattle.kd_device.specs.declared.half.Half.TheVariants.{First, Second}
use Rattle.kdcfile_store.specs.Paged.{HasFile}
use Rattle.kdcfile_copies.specs.declared.answer.LoadedCopy.{LoadedCopy}
use Rattle.kdcfile_copies.specs.Copies.{AtMost, Below, IsChosen, IsCopyOf, IsNoCopy}
use Rattle.kdcfile_copies.specs.CopiesLaws.{one_meaning_of_copies, store_is_copy}
use Rattle.kdcfile_double.specs.Twice.{KeepsIf, StaysBehind, SideRests, SideWithin, IsChosenOldOrNew}

-- ---- sequences of one file

pub below_at_most : (n : ℕ) (bytes : List ℕ) → Below n bytes → AtMost n bytes
below_at_most n bytes below j m y copy = let h : m < n = below j m y copy in omega arith

pub none_is_below : (n : ℕ) (bytes : List ℕ) → IsNoCopy bytes → Below n bytes
none_is_below n bytes none j m y copy = absurd (none j m y copy)

pub at_most_next : (n : ℕ) (bytes : List ℕ) → AtMost n bytes → AtMost (n + 1) bytes
at_most_next n bytes most j m y copy = let h : m ≤ n = most j m y copy in omega arith

pub below_next : (n : ℕ) (bytes : List ℕ) → AtMost n bytes → Below (n + 1) bytes
below_next n bytes most j m y copy = let h : m ≤ n = most j m y copy in omega arith

-- the copy itself has no greater sequence
pub copy_at_most : (i : Identity) (n k : ℕ) (x : Content) (bytes : List ℕ) → IsCopyOf i n x bytes → n ≤ k → AtMost k bytes
copy_at_most i n k x bytes is le j m y copy = let same : n ≡ m = (one_meaning_of_copies i j n m x y bytes is copy).1 in omega arith

pub copy_below : (i : Identity) (n k : ℕ) (x : Content) (bytes : List ℕ) → IsCopyOf i n x bytes → n < k → Below k bytes
copy_below i n k x bytes is lt j m y copy = let same : n ≡ m = (one_meaning_of_copies i j n m x y bytes is copy).1 in omega arith

-- no bytes are no copy
behind_at_most : (half : Half) (i : Identity) (n : ℕ) (x : Content) (image : List ℕ) → StaysBehind half i n x image → AtMost n image
behind_at_most First i n x image (inl below) = below_at_most n image below
behind_at_most First i n x image (inr is) = copy_at_most i n n x image is (omega arith)
behind_at_most Second i n x image most = most

-- ---- which of two counts

module _ (i : Identity) (n : ℕ) (x : Content) (c d : List ℕ) where
  pub both_chosen : IsCopyOf i n x c → IsCopyOf i n x d → IsChosen i n x c d
  both_chosen is too = inl (is, copy_at_most i n n x d too (omega arith))

  pub second_chosen : IsCopyOf i n x d → StaysBehind First i n x c → IsChosen i n x c d
  second_chosen is (inl below) = inr (is, below)
  second_chosen is (inr too) = both_chosen too is

-- at least one of two is there
abbrev pub IsSomeOf : Option LoadedCopy → Option LoadedCopy → Type 0
IsSomeOf (Some p) q = Unit {0}
IsSomeOf None (Some q) = Unit {0}
IsSomeOf None None = ⊥

-- within a commit the copy that counts is the old one or the new one
pub within_chosen : (i : Identity) (n : ℕ) (x y : Content) (p q : Option LoadedCopy) (c d : List ℕ) → IsSomeOf p q → SideWithin First i n x y p c → SideWithin Second i n x y q d → IsChosenOldOrNew i n x y c d
within_chosen i n x y (Some p) (Some q) c d some (inl old) (inl too) = inl (both_chosen i n x c d old too)
within_chosen i n x y (Some p) (Some q) c d some (inl old) (inr new) = inr (inr (new, copy_below i n (n + 1) x c old (omega arith)))
within_chosen i n x y (Some p) (Some q) c d some (inr new) (inl old) = inr (inl (new, copy_at_most i n (n + 1) x d old (omega arith)))
within_chosen i n x y (Some p) (Some q) c d some (inr new) (inr too) = inr (inl (new, copy_at_most i (n + 1) (n + 1) y d too (omega arith)))
within_chosen i n x y (Some p) None c d some (inl old) most = inl (inl (old, most))
within_chosen i n x y (Some p) None c d some (inr new) most = inr (inl (new, at_most_next n d most))
within_chosen i n x y None (Some q) c d some behind (inl old) = inl (second_chosen i n x c d old behind)
within_chosen i n x y None (Some q) c d some behind (inr new) = inr (inr (new, below_next n c (behind_at_most First i n x c behind)))
within_chosen i n x y None None c d some behind most = absurd some

-- a half that was not in use, or is lost, stays behind the new copy
pub within_behind : (half : Half) (i : Identity) (n : ℕ) (x y : Content) (p : Option LoadedCopy) (image : List ℕ) → SideWithin half i n x y p image → StaysBehind half i (n + 1) y image
within_behind First i n x y (Some p) image (inl old) = inl (copy_below i n (n + 1) x image old (omega arith))
within_behind First i n x y (Some p) image (inr new) = inr new
within_behind First i n x y None image behind = inl (below_next n image (behind_at_most First i n x image behind))
within_behind Second i n x y (Some p) image (inl old) = copy_at_most i n (n + 1) x image old (omega arith)
within_behind Second i n x y (Some p) image (inr new) = copy_at_most i (n + 1) (n + 1) y image new (omega arith)
within_behind Second i n x y None image most = at_most_next n image most

-- ---- a half at rest

pub kept_copy : (i : Identity) (n : ℕ) (x : Content) (p : LoadedCopy) (image : List ℕ) → KeepsIf i n x (Some p) → HasFile p.store image → IsCopyOf i n x image
kept_copy i n x p image keeps file = subst (λ (j : Identity). IsCopyOf j n x image) keeps.0 (store_is_copy p.store n x image keeps.2 file)

pub rests_within : (half : Half) (i : Identity) (n : ℕ) (x y : Content) (p : Option LoadedCopy) (holds image : List ℕ) → KeepsIf i n x p → SideRests half i n x p holds image → SideWithin half i n x y p image
rests_within half i n x y (Some p) holds image keeps rests = inl (kept_copy i n x p image keeps rests.1)
rests_within half i n x y None holds image keeps behind = behind
