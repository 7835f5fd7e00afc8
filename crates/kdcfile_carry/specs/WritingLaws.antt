-- Laws: how many bytes are written, step by step.
use Rattle.std.specs.Prelude.{◌≡◌, ◌≤◌, ℕ, ◌+◌, Bool, true, false, List, Option, Some, None, is_some}
use Rattle.std.proofs.Common.{inl, inr, refl, sym, ap, subst, ◌∙◌, arith}
use Rattle.kd_device.specs.Twin.{Both, disk_of, other}
use Rattle.kd_device.specs.declared.half.Half.{Half}
use Rattle.kd_device.specs.declared.half.Half.TheVariants.{First, Second}
use Rattle.application_types.specs.Generation.{Generated}
use Rattle.record_codec.specs.Records.{content_of_tables}
use Rattle.kdcfile_copies.specs.Copies.{IsCopyOf}
use Rattle.kdcfile_copies.specs.Mending.{mending_most}
use Rattle.kdcfile_double.specs.Opening.{SameFiles}
use Rattle.kdcfile_carry.specs.Files.{AreFiles, Files}
use Rattle.kdcfile_carry.specs.Ways.{IsUpToDate, MayCarry}
use Rattle.kdcfile_carry.specs.Writing.{Changes, IsFirstMost, IsOther, MakesAlike, MayBeCarried, MendsFirst, Prepares, Shuts, Writes, WritesAnew, WritesAtMost, WritesCarried, WritesNone, commit_most, second_most, shut_most}

-- ---- sums

more : (a b e m n : ℕ) → b ≤ a + m → e ≤ b + n → e ≤ a + m + n
more a b e m n one two = omega (arith, one, two)

none_more : (a b e m : ℕ) → b ≤ a + 0 → e ≤ b + m → e ≤ a + m
none_more a b e m one two = omega (arith, one, two)

same_more : (a b e m : ℕ) → b ≡ a → e ≤ b + m → e ≤ a + m
same_more a b e m same two = omega (arith, same, two)

more_same : (a b e m : ℕ) → b ≤ a + m → e ≡ b → e ≤ a + m
more_same a b e m one same = omega (arith, one, same)

more_than : (a b m n : ℕ) → b ≤ a + m → m ≤ n → b ≤ a + n
more_than a b m n one two = omega (arith, one, two)

at_least : (a m : ℕ) → a ≤ a + m
at_least a m = omega arith

-- ---- nothing

pub none_here : (a : Both) → WritesNone a a
none_here a = record { first = refl; second = refl }

pub none_of_same : (a b : Both) → SameFiles a b → WritesNone a b
none_of_same a b same = record { first = same.first_put; second = same.second_put }

-- ---- before the first file is changed

pub mends_nothing : (f : Files) (a : Both) → MendsFirst f a a
mends_nothing f a = record { first = (0, inl refl, at_least a.first.put 0); second = refl }

pub mends_first : (f : Files) (a b : Both) → IsOther f First a → b.first.put ≤ a.first.put + mending_most a.second.holds → b.second.put ≡ a.second.put → MendsFirst f a b
mends_first f a b is most same = record { first = (mending_most a.second.holds, inr (is, refl), most); second = same }

pub shuts_nothing : (double : Bool) (f : Files) (a : Both) → Shuts double f a a
shuts_nothing double f a = record { first = refl; second = at_least a.second.put (shut_most double f.sequence) }

shuts_by : (double : Bool) (s : Option ℕ) (n : ℕ) → double ≡ false → s ≡ Some n → shut_most double s ≡ 1
shuts_by false (Some m) n one is = refl
shuts_by false None n one is = absurd cc
shuts_by true s n one is = absurd cc

pub shuts_copy : (double : Bool) (f : Files) (a b : Both) (n : ℕ) → double ≡ false → f.sequence ≡ Some n → b.first.put ≡ a.first.put → b.second.put ≤ a.second.put + 1 → Shuts double f a b
shuts_copy double f a b n one is same most = record { first = same; second = subst (λ (m : ℕ). b.second.put ≤ a.second.put + m) (sym (shuts_by double f.sequence n one is)) most }

pub prepares_then : (double : Bool) (f : Files) (a b e : Both) → MendsFirst f a b → Shuts double f b e → Prepares double f a e
prepares_then double f a b e mends shuts = record {
  first = (mends.first.0, mends.first.1, more_same a.first.put b.first.put e.first.put mends.first.0 mends.first.2 shuts.first);
  second = same_more a.second.put b.second.put e.second.put (shut_most double f.sequence) mends.second shuts.second;
}

pub prepares_only : (double : Bool) (f : Files) (a b : Both) → MendsFirst f a b → Prepares double f a b
prepares_only double f a b mends = prepares_then double f a b b mends (shuts_nothing double f b)

-- ---- and after it

module _ (g : Generated) (fingerprint : List ℕ) (f : Files) (a b e : Both) where
  pub changes_then : Prepares (is_some g.double) f a b → e.first.put ≤ b.first.put + commit_most g fingerprint f → e.second.put ≡ b.second.put → Changes g fingerprint f a e
  changes_then before most same = record {
    first = (before.first.0, before.first.1, more a.first.put b.first.put e.first.put before.first.0 (commit_most g fingerprint f) before.first.2 most);
    second = more_same a.second.put b.second.put e.second.put (shut_most (is_some g.double) f.sequence) before.second same;
  }

  pub carried_then : is_some g.double ≡ true → Changes g fingerprint f a b → e.second.put ≤ b.second.put + mending_most b.first.holds → e.first.put ≡ b.first.put → e.first.holds ≡ b.first.holds → WritesCarried g fingerprint f a e
  carried_then two changes most same holds = record {
    first = (changes.first.0, changes.first.1, subst (λ (n : ℕ). n ≤ a.first.put + changes.first.0 + commit_most g fingerprint f) (sym same) changes.first.2);
    second = by (is_some g.double) two changes.second;
  }
    where
      by : (double : Bool) → double ≡ true → b.second.put ≤ a.second.put + shut_most double f.sequence → e.second.put ≤ a.second.put + second_most double f.sequence e.first.holds
      by true is second = none_more a.second.put b.second.put e.second.put (mending_most e.first.holds) second (subst (λ (l : List ℕ). e.second.put ≤ b.second.put + mending_most l) (sym holds) most)
      by false is second = absurd cc

pub changes_only : (g : Generated) (fingerprint : List ℕ) (f : Files) (a b : Both) → Prepares (is_some g.double) f a b → Changes g fingerprint f a b
changes_only g fingerprint f a b before = changes_then g fingerprint f a b b before (at_least b.first.put (commit_most g fingerprint f)) refl

least : (double : Bool) (s : Option ℕ) (first : List ℕ) → shut_most double s ≤ second_most double s first
least true s first = omega arith
least false None first = omega arith
least false (Some n) first = omega arith

pub carried_only : (g : Generated) (fingerprint : List ℕ) (f : Files) (a b : Both) → Changes g fingerprint f a b → WritesCarried g fingerprint f a b
carried_only g fingerprint f a b changes = record {
  first = changes.first;
  second = more_than a.second.put b.second.put (shut_most (is_some g.double) f.sequence) (second_most (is_some g.double) f.sequence b.first.holds) changes.second (least (is_some g.double) f.sequence b.first.holds);
}

-- ---- a half that is made a copy of the other one

pub anew_beside : (home : Half) (a b : Both) → (disk_of (other home) b).put ≤ (disk_of (other home) a).put + mending_most (disk_of home a).holds → (disk_of home b).put ≡ (disk_of home a).put → WritesAnew (other home) a b
anew_beside First a b most same = record { put = most; other_put = same }
anew_beside Second a b most same = record { put = most; other_put = same }

-- ---- calls that change nothing, before and after

module _ (a b : Both) (same : SameFiles a b) where
  same_put : (half : Half) → (disk_of half b).put ≡ (disk_of half a).put
  same_put First = same.first_put
  same_put Second = same.second_put

  same_holds : (half : Half) → (disk_of half b).holds ≡ (disk_of half a).holds
  same_holds First = same.first_holds
  same_holds Second = same.second_holds

  other_since : (f : Files) (half : Half) → IsOther f half b → IsOther f half a
  other_since f half is = record { two = is.two; behind = λ n numbered copy. is.behind n numbered (subst (λ (l : List ℕ). IsCopyOf f.identity n (content_of_tables f.tables) l) (sym (same_holds half)) copy) }

  first_since : (f : Files) (n : ℕ) → IsFirstMost f b n → IsFirstMost f a n
  first_since f n (inl none) = inl none
  first_since f n (inr is) = inr (other_since f First is.0, is.1 ∙ ap mending_most same.second_holds)

  module _ (e : Both) where
    pub none_since : WritesNone b e → WritesNone a e
    none_since h = record { first = h.first ∙ same.first_put; second = h.second ∙ same.second_put }

    anew_since : (half : Half) → WritesAnew half b e → WritesAnew half a e
    anew_since half h = record {
      put = same_more (disk_of half a).put (disk_of half b).put (disk_of half e).put (mending_most (disk_of (other half) a).holds) (same_put half)
          (subst (λ (l : List ℕ). (disk_of half e).put ≤ (disk_of half b).put + mending_most l) (same_holds (other half)) h.put);
      other_put = h.other_put ∙ same_put (other half);
    }

    carried_since : (g : Generated) (fingerprint : List ℕ) (f : Files) → WritesCarried g fingerprint f b e → WritesCarried g fingerprint f a e
    carried_since g fingerprint f h = record {
      first = (h.first.0, first_since f h.first.0 h.first.1, subst (λ (n : ℕ). e.first.put ≤ n + h.first.0 + commit_most g fingerprint f) same.first_put h.first.2);
      second = same_more a.second.put b.second.put e.second.put (second_most (is_some g.double) f.sequence e.first.holds) same.second_put h.second;
    }

    writes_since : (g : Generated) (fingerprint : List ℕ) (P : Files → Type 0) (f : Files) → Writes g fingerprint P f b e → Writes g fingerprint P f a e
    writes_since g fingerprint P f (inl h) = inl (h.0, (h.1.0, other_since f h.1.0 h.1.1, anew_since h.1.0 h.1.2))
    writes_since g fingerprint P f (inr h) = inr (h.0, h.1, carried_since g fingerprint f h.2)

    pub most_since : (g : Generated) (fingerprint : List ℕ) (P : Files → Type 0) → WritesAtMost g fingerprint P b e → WritesAtMost g fingerprint P a e
    most_since g fingerprint P (inl h) = inl (none_since h)
    most_since g fingerprint P (inr h) =
        inr (h.0, subst (λ (l : List ℕ). AreFiles h.0 l a.second.holds) same.first_holds (subst (λ (l : List ℕ). AreFiles h.0 b.first.holds l) same.second_holds h.1), writes_since g fingerprint P h.0 h.2)

module _ (a b e : Both) (same : SameFiles b e) where
  pub none_then : WritesNone a b → WritesNone a e
  none_then h = record { first = same.first_put ∙ h.first; second = same.second_put ∙ h.second }

  anew_then : (half : Half) → WritesAnew half a b → WritesAnew half a e
  anew_then half h = record {
    put = more_same (disk_of half a).put (disk_of half b).put (disk_of half e).put (mending_most (disk_of (other half) a).holds) h.put (same_put b e same half);
    other_put = same_put b e same (other half) ∙ h.other_put;
  }

  carried_more : (g : Generated) (fingerprint : List ℕ) (f : Files) → WritesCarried g fingerprint f a b → WritesCarried g fingerprint f a e
  carried_more g fingerprint f h = record {
    first = (h.first.0, h.first.1, subst (λ (n : ℕ). n ≤ a.first.put + h.first.0 + commit_most g fingerprint f) (sym same.first_put) h.first.2);
    second = more_same a.second.put b.second.put e.second.put (second_most (is_some g.double) f.sequence e.first.holds)
        (subst (λ (l : List ℕ). b.second.put ≤ a.second.put + second_most (is_some g.double) f.sequence l) (sym same.first_holds) h.second) same.second_put;
  }

  writes_then : (g : Generated) (fingerprint : List ℕ) (P : Files → Type 0) (f : Files) → Writes g fingerprint P f a b → Writes g fingerprint P f a e
  writes_then g fingerprint P f (inl h) = inl (h.0, (h.1.0, h.1.1, anew_then h.1.0 h.1.2))
  writes_then g fingerprint P f (inr h) = inr (h.0, h.1, carried_more g fingerprint f h.2)

  pub most_then : (g : Generated) (fingerprint : List ℕ) (P : Files → Type 0) → WritesAtMost g fingerprint P a b → WritesAtMost g fingerprint P a e
  most_then g fingerprint P (inl h) = inl (none_then h)
  most_then g fingerprint P (inr h) = inr (h.0, h.1, writes_then g fingerprint P h.0 h.2)

-- ---- of files that were found

module _ (g : Generated) (fingerprint : List ℕ) (P : Files → Type 0) (f : Files) (a b : Both) (are : AreFiles f a.first.holds a.second.holds) where
  pub kept_most : IsUpToDate g fingerprint f → MakesAlike f a b → WritesAtMost g fingerprint P a b
  kept_most up (inl none) = inl none
  kept_most up (inr h) = inr (f, are, inl (up, h))

  pub carried_most : MayCarry g fingerprint f → MayBeCarried g fingerprint P f a b → WritesAtMost g fingerprint P a b
  carried_most may (inl none) = inl none
  carried_most may (inr h) = inr (f, are, inr (may, h.0, h.1))

-- rows that may go in fewer cases
pub most_weaker : (g : Generated) (fingerprint : List ℕ) (P Q : Files → Type 0) (a b : Both) → ((f : Files) → P f → Q f) → WritesAtMost g fingerprint P a b → WritesAtMost g fingerprint Q a b
most_weaker g fingerprint P Q a b may (inl none) = inl none
most_weaker g fingerprint P Q a b may (inr h) = inr (h.0, h.1, by h.2)
  where
    by : Writes g fingerprint P h.0 a b → Writes g fingerprint Q h.0 a b
    by (inl k) = inl k
    by (inr k) = inr (k.0, may h.0 k.1, k.2)
