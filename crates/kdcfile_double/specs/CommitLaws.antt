-- Laws: what a stop leaves of both halves, where calls on them follow one another within a commit.
use Rattle.std.specs.Prelude.{◌≡◌, ℕ, ◌+◌, List, Option, Some, None}
use Rattle.std.proofs.Common.{inl, inr, ⊎_elim, sym, ap, subst, ◌∙◌}
use Rattle.kd_records.specs.Contents.{patched}
use Rattle.kd_records.specs.Identity.{Identity}
use Rattle.kd_records.specs.declared.content.Content.{Content}
use Rattle.kd_records.specs.declared.content.Patch.{Patch}
use Rattle.kd_device.specs.Apart.{Earlier}
use Rattle.kd_device.specs.Twin.{Both, Disk, other, disk_of, half_leaves}
use Rattle.kd_device.specs.declared.half.Half.{Half}
use Rattle.kd_device.specs.declared.half.Half.TheVariants.{First, Second}
use Rattle.kdcfile_store.specs.Paged.{HasFile}
use Rattle.kdcfile_copies.specs.declared.answer.LoadedCopy.{LoadedCopy}
use Rattle.kdcfile_copies.specs.CopiesLaws.{kept_bare}
use Rattle.kdcfile_copies.specs.Keeping.{CopyKeeps}
use Rattle.kdcfile_copies.specs.Beside.{LeavesBeside, OtherStays, SameDisk, IsBeside, file_of}
use Rattle.kdcfile_copies.specs.BesideLaws.{beside_pairs, left_after, pairs_weaker}
use Rattle.kdcfile_double.specs.Twice.{Twice, AreAlike, KeepsIf, IsOpen, IsKeptTwice, IsCommitting, LeavesBoth, SideRests, SideWithin, IsOldOrNew, copy_at, identity_by, sequence_by, content_by}
use Rattle.kdcfile_double.specs.Twice.{identity_of, sequence_of, content_of}
use Rattle.kdcfile_double.specs.Committing.{AreWithin, IsKeptAt, IsNextIf, IsWithin, WithinOne}
use Rattle.kdcfile_double.specs.ChosenLaws.{IsSomeOf, rests_within, within_behind, within_chosen}

pub open_some : (s : Twice) → IsOpen s → IsSomeOf s.first s.second
open_some s (inl used) = subst (λ (o : Option LoadedCopy). IsSomeOf o s.second) (sym used.1) tt
open_some s (inr used) = subst (λ (o : Option LoadedCopy). IsSomeOf s.first o) (sym used.1) (by s.first)
  where
    by : (o : Option LoadedCopy) → IsSomeOf o (Some used.0)
    by (Some p) = tt
    by None = tt

by_halves : (P : Half → Type 0) (half : Half) → P half → P (other half) → (h : Half) → P h
by_halves P First here there First = here
by_halves P First here there Second = there
by_halves P Second here there First = there
by_halves P Second here there Second = here

-- ---- the copy of one half, in the words of both

module _ (i : Identity) (n : ℕ) (x : Content) (patch : Patch) where
  pub within_one : (half : Half) (p : Option LoadedCopy) → KeepsIf i n x p → (sent c out : List ℕ) → WithinOne p patch sent c out → (out ≡ sent) × SideWithin half i n x (patched x patch) p c
  within_one half (Some p) keeps sent c out w = (
    w.0,
    subst (λ (j : Identity). IsOldOrNew j n x (patched x patch) c) keeps.0
        (subst (λ (m : ℕ). IsOldOrNew p.store.identity m x (patched x patch) c) keeps.1
        (subst (λ (z : Content). IsOldOrNew p.store.identity p.sequence z (patched z patch) c) (kept_bare p.store n x keeps.2) w.1)),
  )
  within_one half None keeps sent c out w = absurd w

-- ---- before a commit

module _ (b : Both) (leaves : ℕ → List ℕ → List ℕ → List ℕ → Type 0) (i : Identity) (n : ℕ) (x : Content) where
  pub first_kept_at : (p : Option LoadedCopy) → leaves b.moment b.first.holds b.second.holds b.sent → ((c d : List ℕ) → leaves b.moment c d b.sent → SideRests First i n x p b.first.holds c) → IsKeptAt First p b leaves
  first_kept_at (Some p) now rests = record { bytes = (rests b.first.holds b.second.holds now).1; at_rest = λ c left. (rests c left.0 left.1).0 }
  first_kept_at None now rests = tt

  pub second_kept_at : (p : Option LoadedCopy) → leaves b.moment b.first.holds b.second.holds b.sent → ((c d : List ℕ) → leaves b.moment c d b.sent → SideRests Second i n x p b.second.holds d) → IsKeptAt Second p b leaves
  second_kept_at (Some p) now rests = record { bytes = (rests b.first.holds b.second.holds now).1; at_rest = λ d left. (rests left.0 d left.1).0 }
  second_kept_at None now rests = tt

-- ---- within a commit

pub kept_within : (s : Twice) (y : Content) (b : Both) (leaves : ℕ → List ℕ → List ℕ → List ℕ → Type 0) → AreAlike s → IsKeptTwice s b leaves → AreWithin s y b leaves
kept_within s y b leaves alike kept First c left = rests_within First (identity_of s) (sequence_of s) (content_of s) y s.first b.first.holds c alike.first_keeps (kept.first_rests c left.0 left.1)
kept_within s y b leaves alike kept Second d left = rests_within Second (identity_of s) (sequence_of s) (content_of s) y s.second b.second.holds d alike.second_keeps (kept.second_rests left.0 d left.1)

-- one call on a half, within a commit
module _ (s : Twice) (y : Content) (half : Half) (a b : Both) (la lb : ℕ → List ℕ → List ℕ → List ℕ → Type 0) (P : List ℕ → List ℕ → Type 0) (before : AreWithin s y a la)
    (this : (c out : List ℕ) → P c out → (out ≡ a.sent) × SideWithin half (identity_of s) (sequence_of s) (content_of s) y (copy_at half s) c) (beside : LeavesBeside half a b la lb P) where
  pub step_within : ((h : Half) (c out : List ℕ) → half_leaves h la a.moment c out → out ≡ a.sent) → LeavesBoth a b la lb (IsWithin s y a.sent)
  step_within sent_now = pairs_weaker a b la lb (IsBeside half a la P) (IsWithin s y a.sent) (beside_pairs a b la lb half P beside) turn
    where
      turn : (c d out : List ℕ) → IsBeside half a la P c d out → IsWithin s y a.sent c d out
      turn c d out h =
          let there : SideWithin (other half) (identity_of s) (sequence_of s) (content_of s) y (copy_at (other half) s) (file_of (other half) c d) = before (other half) (file_of (other half) c d) h.0 in
          ⊎_elim
          (λ was.
          let silent : out ≡ a.sent = sent_now half (file_of half c d) out was in
          record {
            silent = silent;
            sides =
                by_halves (λ (k : Half). SideWithin k (identity_of s) (sequence_of s) (content_of s) y (copy_at k s) (file_of k c d)) half
                (before half (file_of half c d) (subst (λ (o : List ℕ). half_leaves half la a.moment (file_of half c d) o) silent was)) there;
          })
          (λ p.
          let new = this (file_of half c d) out p in
          record { silent = new.0; sides = by_halves (λ (k : Half). SideWithin k (identity_of s) (sequence_of s) (content_of s) y (copy_at k s) (file_of k c d)) half new.1 there })
          h.1

  pub still_within : b.sent ≡ a.sent → Earlier half lb → OtherStays half a b la lb → AreWithin s y b lb
  still_within sent earlier stays = by_halves (λ (h : Half). (c : List ℕ) → half_leaves h lb b.moment c b.sent → SideWithin h (identity_of s) (sequence_of s) (content_of s) y (copy_at h s) c) half here there
    where
      here : (c : List ℕ) → half_leaves half lb b.moment c b.sent → SideWithin half (identity_of s) (sequence_of s) (content_of s) y (copy_at half s) c
      here c left =
          ⊎_elim
          (λ was. before half c (subst (λ (o : List ℕ). half_leaves half la a.moment c o) sent was))
          (λ p. (this c b.sent p).1)
          (left_after a b la lb half P earlier beside c left)

      there : (d : List ℕ) → half_leaves (other half) lb b.moment d b.sent → SideWithin (other half) (identity_of s) (sequence_of s) (content_of s) y (copy_at (other half) s) d
      there d left = before (other half) d (stays d left)

-- within a commit the copy that counts is the old or the new one
pub within_is_committing : (s : Twice) (y : Content) (old new : Both) (c d out : List ℕ) → IsOpen s → IsWithin s y old.sent c d out → IsCommitting s y old new c d out
within_is_committing s y old new c d out open_now w = record {
  silent = w.silent;
  chosen = within_chosen (identity_of s) (sequence_of s) (content_of s) y s.first s.second c d (open_some s open_now) (w.sides First) (w.sides Second);
  first_is = λ used same. subst (λ (o : Option LoadedCopy). SideWithin First (identity_of s) (sequence_of s) (content_of s) y o c) used.1 (w.sides First);
  second_is = λ used same. subst (λ (o : Option LoadedCopy). SideWithin Second (identity_of s) (sequence_of s) (content_of s) y o d) used.1 (w.sides Second);
}

-- ---- after a commit

module _ (i : Identity) (n : ℕ) (x : Content) (patch : Patch) where
  pub next_keeps : (p q : Option LoadedCopy) → KeepsIf i n x p → IsNextIf p patch q → KeepsIf i (n + 1) (patched x patch) q
  next_keeps (Some p) (Some q) keeps next = (
    next.identity ∙ keeps.0,
    next.sequence ∙ ap (λ (m : ℕ). m + 1) keeps.1,
    subst (λ (m : ℕ). CopyKeeps q.store (m + 1) (patched x patch)) keeps.1 (subst (λ (z : Content). CopyKeeps q.store (p.sequence + 1) (patched z patch)) (kept_bare p.store n x keeps.2) next.keeps),
  )
  next_keeps (Some p) None keeps next = tt
  next_keeps None (Some q) keeps next = absurd next
  next_keeps None None keeps next = tt

-- what is kept, by one of the two copies
pub identity_kept : (i : Identity) (n : ℕ) (x : Content) (p q : Option LoadedCopy) → IsSomeOf p q → KeepsIf i n x p → KeepsIf i n x q → identity_by p q ≡ i
identity_kept i n x (Some p) q some keeps too = keeps.0
identity_kept i n x None (Some q) some keeps too = too.0
identity_kept i n x None None some keeps too = absurd some

pub sequence_kept : (i : Identity) (n : ℕ) (x : Content) (p q : Option LoadedCopy) → IsSomeOf p q → KeepsIf i n x p → KeepsIf i n x q → sequence_by p q ≡ n
sequence_kept i n x (Some p) q some keeps too = keeps.1
sequence_kept i n x None (Some q) some keeps too = too.1
sequence_kept i n x None None some keeps too = absurd some

pub content_kept : (i : Identity) (n : ℕ) (x : Content) (p q : Option LoadedCopy) → IsSomeOf p q → KeepsIf i n x p → KeepsIf i n x q → content_by p q ≡ x
content_kept i n x (Some p) q some keeps too = kept_bare p.store n x keeps.2
content_kept i n x None (Some q) some keeps too = kept_bare q.store n x too.2
content_kept i n x None None some keeps too = absurd some

-- a half that was within the commit is at rest after it
pub rests_after : (half : Half) (i : Identity) (n : ℕ) (x y : Content) (p q : Option LoadedCopy) (b : Both) (leaves : ℕ → List ℕ → List ℕ → List ℕ → Type 0) (c : List ℕ) → half_leaves half leaves b.moment c b.sent
    → IsKeptAt half q b leaves → SideWithin half i n x y p c → SideRests half i (n + 1) y q (disk_of half b).holds c
rests_after half i n x y p (Some q) b leaves c left kept w = let same : c ≡ (disk_of half b).holds = kept.at_rest c left in (same, subst (λ (l : List ℕ). HasFile q.store l) (sym same) kept.bytes)
rests_after half i n x y p None b leaves c left kept w = within_behind half i n x y p c w

-- a call on the one half leaves the other one kept
pub other_kept_at : (half : Half) (p : Option LoadedCopy) (a b : Both) (la lb : ℕ → List ℕ → List ℕ → List ℕ → Type 0) → SameDisk (other half) a b → OtherStays half a b la lb → IsKeptAt (other half) p a la → IsKeptAt (other half) p b lb
other_kept_at half (Some p) a b la lb same stays kept = record {
  bytes = subst (λ (d : Disk). HasFile p.store d.holds) (sym same) kept.bytes;
  at_rest = λ c left. kept.at_rest c (stays c left) ∙ ap (λ (d : Disk). d.holds) (sym same);
}
other_kept_at half None a b la lb same stays kept = tt

module _ (i j : Identity) (n m : ℕ) (x z : Content) (made : j ≡ i) (numbered : m ≡ n) (kept : z ≡ x) where
  pub rests_as : (half : Half) (p : Option LoadedCopy) (holds image : List ℕ) → SideRests half i n x p holds image → SideRests half j m z p holds image
  rests_as half p holds image rests =
      subst (λ (k : Identity). SideRests half k m z p holds image) (sym made)
      (subst (λ (k : ℕ). SideRests half i k z p holds image) (sym numbered) (subst (λ (k : Content). SideRests half i n k p holds image) (sym kept) rests))

  keeps_as : (p : Option LoadedCopy) → KeepsIf i n x p → KeepsIf j m z p
  keeps_as p keeps =
      subst (λ (k : Identity). KeepsIf k m z p) (sym made) (subst (λ (k : ℕ). KeepsIf i k z p) (sym numbered) (subst (λ (k : Content). KeepsIf i n k p) (sym kept) keeps))

-- copies that keep the same are alike
pub alike_by : (i : Identity) (n : ℕ) (x : Content) (p q : Option LoadedCopy) (m l : Option Half) → KeepsIf i n x p → KeepsIf i n x q → AreAlike (record { first = p; second = q; mended = m; lost = l })
alike_by i n x p q m l keeps too = by p q keeps too
  where
    kept : (o w : Option LoadedCopy) → IsSomeOf o w → KeepsIf i n x o → KeepsIf i n x w → AreAlike (record { first = o; second = w; mended = m; lost = l })
    kept o w some keeps too =
        let kept_as = keeps_as i (identity_by o w) n (sequence_by o w) x (content_by o w) (identity_kept i n x o w some keeps too) (sequence_kept i n x o w some keeps too) (content_kept i n x o w some keeps too) in
        record { first_keeps = kept_as o keeps; second_keeps = kept_as w too }

    by : (o w : Option LoadedCopy) → KeepsIf i n x o → KeepsIf i n x w → AreAlike (record { first = o; second = w; mended = m; lost = l })
    by (Some o) w keeps too = kept (Some o) w tt keeps too
    by None (Some w) keeps too = kept None (Some w) tt keeps too
    by None None keeps too = record { first_keeps = tt; second_keeps = tt }

module _ (s : Twice) (patch : Patch) (p q : Option LoadedCopy) (alike : AreAlike s) (first_next : IsNextIf s.first patch p) (second_next : IsNextIf s.second patch q) (some : IsSomeOf p q) where
  first_new : KeepsIf (identity_of s) (sequence_of s + 1) (patched (content_of s) patch) p
  first_new = next_keeps (identity_of s) (sequence_of s) (content_of s) patch s.first p alike.first_keeps first_next

  second_new : KeepsIf (identity_of s) (sequence_of s + 1) (patched (content_of s) patch) q
  second_new = next_keeps (identity_of s) (sequence_of s) (content_of s) patch s.second q alike.second_keeps second_next

  pub identity_after : identity_by p q ≡ identity_of s
  identity_after = identity_kept (identity_of s) (sequence_of s + 1) (patched (content_of s) patch) p q some first_new second_new

  pub sequence_after : sequence_by p q ≡ sequence_of s + 1
  sequence_after = sequence_kept (identity_of s) (sequence_of s + 1) (patched (content_of s) patch) p q some first_new second_new

  pub content_after : content_by p q ≡ patched (content_of s) patch
  content_after = content_kept (identity_of s) (sequence_of s + 1) (patched (content_of s) patch) p q some first_new second_new

  -- what a stop after the commit leaves
  pub kept_after : (m l : Option Half) (b : Both) (leaves : ℕ → List ℕ → List ℕ → List ℕ → Type 0) → IsKeptAt First p b leaves → IsKeptAt Second q b leaves → AreWithin s (patched (content_of s) patch) b leaves
      → IsKeptTwice (record { first = p; second = q; mended = m; lost = l }) b leaves
  kept_after m l b leaves first_at second_at within = record {
    first_rests = λ c d left.
        rests_as (identity_of s) (identity_by p q) (sequence_of s + 1) (sequence_by p q) (patched (content_of s) patch) (content_by p q) identity_after sequence_after content_after First p b.first.holds c
        (rests_after First (identity_of s) (sequence_of s) (content_of s) (patched (content_of s) patch) s.first p b leaves c (d, left) first_at (within First c (d, left)));
    second_rests = λ c d left.
        rests_as (identity_of s) (identity_by p q) (sequence_of s + 1) (sequence_by p q) (patched (content_of s) patch) (content_by p q) identity_after sequence_after content_after Second q b.second.holds d
        (rests_after Second (identity_of s) (sequence_of s) (content_of s) (patched (content_of s) patch) s.second q b leaves d (c, left) second_at (within Second d (c, left)));
  }

  pub alike_after : (m l : Option Half) → AreAlike (record { first = p; second = q; mended = m; lost = l })
  alike_after m l = alike_by (identity_of s) (sequence_of s + 1) (patched (content_of s) patch) p q m l first_new second_new
