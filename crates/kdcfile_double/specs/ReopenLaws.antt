-- Laws: the halves in use are read again, the first one first.
use Rattle.std.specs.Prelude.{◌≡◌, ◌⊎◌, ℕ, List, IsErrAnd, IsErrOf, Option, Some, None}
use Rattle.std.proofs.Common.{inl, inr, ⊎_elim, arith, refl, sym, ap, subst, ◌∙◌, Result, Ok, Err}
use Rattle.kd_device.specs.Rest.{Rests}
use Rattle.kd_records.specs.Charge.{IsBlockSize}
use Rattle.kd_records.specs.Identity.{Identity}
use Rattle.kd_records.specs.declared.content.Content.{Content}
use Rattle.kd_device.specs.Twin.{Both, disk_of, half_leaves, half_state}
use Rattle.kd_device.specs.declared.half.Half.{Half}
use Rattle.kd_device.specs.declared.half.Half.TheVariants.{First, Second}
use Rattle.kdcfile_store.specs.Paged.{HasFile}
use Rattle.kdcfile_copies.specs.declared.answer.LoadedCopy.{LoadedCopy}
use Rattle.kdcfile_copies.specs.Beside.{SameDisk}
use Rattle.device_acts.specs.declared.warm_start.error.OpenError.{OpenError}
use Rattle.device_acts.specs.declared.warm_start.error.OpenError.TheVariants as opening
use Rattle.kdcfile_double.specs.Twice.{Twice, IsInUse, IsKeptTwice, IsOpen, IsTwice, KeepsIf, LosesBy, RoseAt, SameFaultsAt, SideRests, StaysBehind, copy_at, identity_by, sequence_by}
use Rattle.kdcfile_double.specs.Twice.{content_by, identity_of, sequence_of, content_of}
use Rattle.kdcfile_double.specs.Committing.{IsKeptAt, IsLostSo, IsSameIf, lost_with}
use Rattle.kdcfile_double.specs.ChosenLaws.{IsSomeOf, copy_at_most, kept_copy}
use Rattle.kdcfile_double.specs.CommitLaws.{alike_by, content_kept, identity_kept, open_some, rests_as, sequence_kept}
use Rattle.kdcfile_double.specs.MakingLaws.{RestsBoth}
use Rattle.kdcfile_double.specs.CommitTwoLaws.{faults_before, faults_later, lost_stays, one_lost, rose_before, rose_later, used_fine}
use Rattle.application_types.specs.Generation.{Generated}
use Rattle.kdcs_types.specs.Tables.{TableRows}
use Rattle.laws_of_states.specs.Suits.{Suits}
use Rattle.kdcfile_double.specs.Choice.{KeepsNoneTwice, KeepsOthersTwice}
use Rattle.kdcfile_double.specs.Opening.{KeepsTablesTwice, identity_twice}

-- both halves were read again, the first one first: what became of each
pub record AreAgain (p q p' q' : Option LoadedCopy) (lost lost' : Option Half) (old new : Both) : Type 0 where
  pub between : Option Half
  pub middle : Both
  pub first_same : IsSameIf p p'
  pub second_same : IsSameIf q q'
  pub first_so : IsLostSo First p p' lost between old middle
  pub second_so : IsLostSo Second q q' between lost' middle new
  pub first_disk : SameDisk Second old middle
  pub second_disk : SameDisk First middle new

-- what the store of the copies that were read again is
pub record IsReopened (told : Type 0) (s s' : Twice) (old new : Both) (since : ℕ → List ℕ → List ℕ → List ℕ → Type 0) : Type 0 where
  pub same : (content_of s' ≡ content_of s) × (sequence_of s' ≡ sequence_of s) × (identity_of s' ≡ identity_of s)
  pub mended : s'.mended ≡ s.mended
  pub loses : LosesBy s s' old new
  pub stays : (half : Half) → IsInUse half s → IsInUse half s' ⊎ (s'.lost ≡ Some half)
  pub no_other : (half : Half) → IsInUse half s' → IsInUse half s
  pub kept : told → IsKeptTwice s' new since
  pub fine : (half : Half) → IsInUse half s' → SameFaultsAt half old new

-- no call was made
pub untouched_rests : (half : Half) (a : Both) (la : ℕ → List ℕ → List ℕ → List ℕ → Type 0) → Rests (half_state half a) (half_state half a) (half_leaves half la) (half_leaves half la)
untouched_rests half a la = record { holds = refl; sent = refl; put = refl; stop = λ c left. left; leaves = record { later = omega arith; only = λ t c out le left. inl left } }

-- a half that was kept stays behind where it is lost
behind_of : (half : Half) (i : Identity) (n : ℕ) (x : Content) (p : Option LoadedCopy) (holds image : List ℕ) → KeepsIf i n x p → SideRests half i n x p holds image → StaysBehind half i n x image
behind_of First i n x (Some p) holds image keeps rests = inr (kept_copy i n x p image keeps rests.1)
behind_of First i n x None holds image keeps rests = rests
behind_of Second i n x (Some p) holds image keeps rests = copy_at_most i n n x image (kept_copy i n x p image keeps rests.1) (omega arith)
behind_of Second i n x None holds image keeps rests = rests

rests_again : (half : Half) (i : Identity) (n : ℕ) (x : Content) (q : Option LoadedCopy) (b : Both) (leaves : ℕ → List ℕ → List ℕ → List ℕ → Type 0) (c : List ℕ) → half_leaves half leaves b.moment c b.sent
    → IsKeptAt half q b leaves → StaysBehind half i n x c → SideRests half i n x q (disk_of half b).holds c
rests_again half i n x (Some q) b leaves c left kept behind = let same : c ≡ (disk_of half b).holds = kept.at_rest c left in (same, subst (λ (l : List ℕ). HasFile q.store l) (sym same) kept.bytes)
rests_again half i n x None b leaves c left kept behind = behind

-- the same copy keeps the same
pub same_keeps_if : (i : Identity) (n : ℕ) (x : Content) (p q : Option LoadedCopy) → KeepsIf i n x p → IsSameIf p q → KeepsIf i n x q
same_keeps_if i n x (Some p) (Some q) keeps same = (
  sym same.identity ∙ keeps.0,
  sym same.sequence ∙ keeps.1,
  record {
    content = sym same.content ∙ keeps.2.content;
    bare = keeps.2.bare;
    small = keeps.2.small;
    ascending = keeps.2.ascending;
    blksize = subst (λ (j : Identity). IsBlockSize j.blksize) same.identity keeps.2.blksize;
  },
)
same_keeps_if i n x (Some p) None keeps same = tt
same_keeps_if i n x None (Some q) keeps same = absurd same
same_keeps_if i n x None None keeps same = tt

first_second : {A : Type 0} → First ≡ Second → A
first_second e = absurd cc

second_first : {A : Type 0} → Second ≡ First → A
second_first e = absurd cc

none_some : {A : Type 0} {x : LoadedCopy} → None ≡ Some x → A
none_some e = absurd cc

same_none : (p q : Option LoadedCopy) → IsSameIf p q → p ≡ None → q ≡ None
same_none p (Some q) same e = absurd (subst (λ (o : Option LoadedCopy). IsSameIf o (Some q)) e same)
same_none p None same e = refl

-- a half that was in use is so still, or a call failed there
step_used : (half : Half) (p p' : Option LoadedCopy) (l l' : Option Half) (a b : Both) → IsLostSo half p p' l l' a b → (x : LoadedCopy) → p ≡ Some x → ((y : LoadedCopy) × (p' ≡ Some y)) ⊎ ((p' ≡ None) × (l' ≡ lost_with l half) × RoseAt half a b)
step_used half (Some p) (Some q) l l' a b so x e = inl (q, refl)
step_used half (Some p) None l l' a b so x e = inr (refl, so.0, so.1)
step_used half None q l l' a b so x e = none_some e

lost_now : (l : Option Half) (half : Half) → ((h : Half) → l ≡ Some h → h ≡ half) → lost_with l half ≡ Some half
lost_now (Some o) half only = ap (λ (h : Half). Some h) (only o refl)
lost_now None half only = refl

-- a half that is in use was so before
was_used : (o o' : Option LoadedCopy) → IsSameIf o o' → (y : LoadedCopy) → o' ≡ Some y → (x : LoadedCopy) × (o ≡ Some x)
was_used (Some x) o' so y e = (x, refl)
was_used None (Some z) so y e = absurd so
was_used None None so y e = none_some e

-- both halves were read again: what the store of the copies is
module _ (s : Twice) (is : IsTwice s) (p q : Option LoadedCopy) (lost : Option Half) (a e : Both) (r : AreAgain s.first s.second p q s.lost lost a e) where
  abbrev pub read_of : Twice
  read_of = record { first = p; second = q; mended = s.mended; lost = lost }

  -- a half that is lost was so before, or its call failed
  lost_by : (half : Half) → lost ≡ Some half → (s.lost ≡ Some half) ⊎ ((copy_at half read_of ≡ None) × RoseAt half a e)
  lost_by half now =
      ⊎_elim
      (λ was. ⊎_elim (λ before. inl before) (λ here. inr (at_first half here)) ((one_lost First s.first p s.lost r.between a r.middle r.first_so).newly half was))
      (λ here. inr (at_second half here))
      ((one_lost Second s.second q r.between lost r.middle e r.second_so).newly half now)
    where
      at_first : (h : Half) → (First ≡ h) × (p ≡ None) × RoseAt First a r.middle → (copy_at h read_of ≡ None) × RoseAt h a e
      at_first First here = (here.1, rose_later First a r.middle e r.second_disk here.2)
      at_first Second here = first_second here.0

      at_second : (h : Half) → (Second ≡ h) × (q ≡ None) × RoseAt Second r.middle e → (copy_at h read_of ≡ None) × RoseAt h a e
      at_second First here = second_first here.0
      at_second Second here = (here.1, rose_before Second a r.middle e r.first_disk here.2)

  unused_before : (half : Half) → copy_at half s ≡ None → copy_at half read_of ≡ None
  unused_before First none = same_none s.first p r.first_same none
  unused_before Second none = same_none s.second q r.second_same none

  read_loses : LosesBy s read_of a e
  read_loses = record {
    stays = λ half was. lost_stays Second s.second q r.between lost r.middle e r.second_so half (lost_stays First s.first p s.lost r.between a r.middle r.first_so half was);
    newly = λ half now. ⊎_elim (λ before. inl before) (λ here. inr here.1) (lost_by half now);
    unused = λ half now. ⊎_elim (λ before. unused_before half (is.lost_is_unused half before)) (λ here. here.0) (lost_by half now);
  }

  -- a half that is not in use any more is lost
  read_stays : IsOpen read_of → (half : Half) → IsInUse half s → IsInUse half read_of ⊎ (lost ≡ Some half)
  read_stays open_now First used =
      ⊎_elim
      (λ still. inl still)
      (λ gone.
      ⊎_elim
      (λ (other : IsInUse First read_of). none_some (sym gone.0 ∙ other.1))
      (λ (other : IsInUse Second read_of).
      let was : r.between ≡ Some First = gone.1 ∙ lost_now s.lost First (only First used.0 used.1 Second other.0 other.1) in
      inr (lost_stays Second s.second q r.between lost r.middle e r.second_so First was))
      open_now)
      (step_used First s.first p s.lost r.between a r.middle r.first_so used.0 used.1)
    where
      only : (half : Half) (x : LoadedCopy) → s.first ≡ Some x → (o : Half) (y : LoadedCopy) → q ≡ Some y → (h : Half) → s.lost ≡ Some h → h ≡ First
      only half x here o y there First e = refl
      only half x here o y there Second e = none_some (sym (same_none s.second q r.second_same (is.lost_is_unused Second e)) ∙ there)
  read_stays open_now Second used =
      ⊎_elim
      (λ still. inl still)
      (λ gone.
      ⊎_elim
      (λ (other : IsInUse First read_of). inr (gone.1 ∙ lost_now r.between Second (only other.0 other.1)))
      (λ (other : IsInUse Second read_of). none_some (sym gone.0 ∙ other.1))
      open_now)
      (step_used Second s.second q r.between lost r.middle e r.second_so used.0 used.1)
    where
      only : (y : LoadedCopy) → p ≡ Some y → (h : Half) → r.between ≡ Some h → h ≡ Second
      only y there Second e = refl
      only y there First e =
          ⊎_elim
          (λ before. none_some (sym (same_none s.first p r.first_same (is.lost_is_unused First before)) ∙ there))
          (λ here. none_some (sym here.1 ∙ there))
          ((one_lost First s.first p s.lost r.between a r.middle r.first_so).newly First e)

  read_none_other : (half : Half) → IsInUse half read_of → IsInUse half s
  read_none_other First used = was_used s.first p r.first_same used.0 used.1
  read_none_other Second used = was_used s.second q r.second_same used.0 used.1

  -- no call failed on a half that is in use
  read_fine : (half : Half) → IsInUse half read_of → SameFaultsAt half a e
  read_fine First used = faults_later First a r.middle e r.second_disk (used_fine First s.first p s.lost r.between a r.middle used.0 used.1 r.first_so)
  read_fine Second used = faults_before Second a r.middle e r.first_disk (used_fine Second s.second q r.between lost r.middle e used.0 used.1 r.second_so)

  -- where both are lost, a call failed on each that was in use
  pub read_failed : p ≡ None → q ≡ None → (half : Half) → IsInUse half s → RoseAt half a e
  read_failed none neither First used = ⊎_elim (λ still. none_some (sym none ∙ still.1)) (λ gone. rose_later First a r.middle e r.second_disk gone.2) (step_used First s.first p s.lost r.between a r.middle r.first_so used.0 used.1)
  read_failed none neither Second used = ⊎_elim (λ still. none_some (sym neither ∙ still.1)) (λ gone. rose_before Second a r.middle e r.first_disk gone.2) (step_used Second s.second q r.between lost r.middle e r.second_so used.0 used.1)

  -- ---- what they keep

  first_keeps : KeepsIf (identity_of s) (sequence_of s) (content_of s) p
  first_keeps = same_keeps_if (identity_of s) (sequence_of s) (content_of s) s.first p is.alike.first_keeps r.first_same

  second_keeps : KeepsIf (identity_of s) (sequence_of s) (content_of s) q
  second_keeps = same_keeps_if (identity_of s) (sequence_of s) (content_of s) s.second q is.alike.second_keeps r.second_same

  -- none is lost that is in use, and they are alike
  pub read_is_twice : IsTwice read_of
  read_is_twice = record { alike = alike_by (identity_of s) (sequence_of s) (content_of s) p q s.mended lost first_keeps second_keeps; lost_is_unused = read_loses.unused }

  module _ (open_now : IsOpen read_of) where
    some : IsSomeOf p q
    some = open_some read_of open_now

    read_identity : identity_by p q ≡ identity_of s
    read_identity = identity_kept (identity_of s) (sequence_of s) (content_of s) p q some first_keeps second_keeps

    read_sequence : sequence_by p q ≡ sequence_of s
    read_sequence = sequence_kept (identity_of s) (sequence_of s) (content_of s) p q some first_keeps second_keeps

    read_content : content_by p q ≡ content_of s
    read_content = content_kept (identity_of s) (sequence_of s) (content_of s) p q some first_keeps second_keeps

    -- what a stop leaves after it
    read_kept : (la le : ℕ → List ℕ → List ℕ → List ℕ → Type 0) → IsKeptTwice s a la → RestsBoth a e la le → IsKeptAt First p e le → IsKeptAt Second q e le → IsKeptTwice read_of e le
    read_kept la le kept rests first_at second_at = record {
      first_rests = λ c d left.
          let was = rests.first_stop c (d, left) in
          rests_as (identity_of s) (identity_by p q) (sequence_of s) (sequence_by p q) (content_of s) (content_by p q) read_identity read_sequence read_content First p e.first.holds c
          (rests_again First (identity_of s) (sequence_of s) (content_of s) p e le c (d, left) first_at
          (behind_of First (identity_of s) (sequence_of s) (content_of s) s.first a.first.holds c is.alike.first_keeps (kept.first_rests c was.0 was.1)));
      second_rests = λ c d left.
          let was = rests.second_stop d (c, left) in
          rests_as (identity_of s) (identity_by p q) (sequence_of s) (sequence_by p q) (content_of s) (content_by p q) read_identity read_sequence read_content Second q e.second.holds d
          (rests_again Second (identity_of s) (sequence_of s) (content_of s) q e le d (c, left) second_at
          (behind_of Second (identity_of s) (sequence_of s) (content_of s) s.second a.second.holds d is.alike.second_keeps (kept.second_rests was.0 d was.1)));
    }

    -- it keeps the tables that were kept
    read_tables : (i : Identity) (t : TableRows) → KeepsTablesTwice i s t → KeepsTablesTwice i read_of t
    read_tables i t keeps = record { identity_is = read_identity ∙ keeps.identity_is; tables = keeps.tables; content = read_content ∙ keeps.content }

    pub read_suits : (g : Generated) (fingerprint : List ℕ) (t : TableRows) → KeepsTablesTwice (identity_twice g fingerprint) s t → Suits g t → KeepsNoneTwice g fingerprint read_of → ⊥
    read_suits g fingerprint t keeps suits none = none.unsuited (identity_twice g fingerprint) t (read_tables (identity_twice g fingerprint) t keeps) refl refl suits

    pub read_texts : (g : Generated) (fingerprint stored : List ℕ) (t : TableRows) → KeepsTablesTwice (identity_twice g fingerprint) s t → KeepsOthersTwice stored fingerprint read_of → ⊥
    read_texts g fingerprint stored t keeps others = others.differs (sym others.made_with ∙ ap (λ (i : Identity). i.fingerprint) (read_identity ∙ keeps.identity_is))

    pub reopened : (told : Type 0) (la le : ℕ → List ℕ → List ℕ → List ℕ → Type 0) → (told → IsKeptTwice s a la) → (told → RestsBoth a e la le) → (told → IsKeptAt First p e le) → (told → IsKeptAt Second q e le) → IsReopened told s read_of a e le
    reopened told la le kept rests first_at second_at = record {
      same = (read_content, read_sequence, read_identity);
      mended = refl;
      loses = read_loses;
      stays = read_stays open_now;
      no_other = read_none_other;
      kept = λ now. read_kept la le (kept now) (rests now) (first_at now) (second_at now);
      fine = read_fine;
    }

-- no other error is handed on
pub err_failed : (U : Type 0) (e : OpenError) → IsErrOf {T = U} (Err e) opening.Failed → e ≡ opening.Failed
err_failed U e h = cc

pub failed_only : (T : Type 0) (r : Result T OpenError) (e f : OpenError) → IsErrAnd r (λ x. x ≡ e) → IsErrOf r f → e ≡ opening.Failed → f ≡ opening.Failed
failed_only T (Ok x) e f gives is failed = absurd gives
failed_only T (Err x) e f gives is failed = let h : x ≡ f = cc in sym h ∙ gives ∙ failed
