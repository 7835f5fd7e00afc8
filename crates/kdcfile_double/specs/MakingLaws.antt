-- Laws: two files are read, and two empty ones made one after the other.
use Rattle.std.specs.Prelude.{◌≡◌, ◌⊎◌, ℕ, List, [], IsTrue, IsErrOf, IsErrAnd, Option, Some, None}
use Rattle.std.proofs.Common.{inl, inr, ⊎_elim, arith, refl, sym, ap, subst, ◌∙◌, Result, Ok, Err}
use Rattle.std.proofs.lemmas.List.Elements.{All-nil}
use Rattle.kd_device.specs.Device.{Frame, Rose, SameFaults, SameNames}
use Rattle.kd_device.specs.Rest.{Rests}
use Rattle.kd_device.specs.declared.error.DeviceError.{DeviceError}
use Rattle.kd_device.specs.declared.error.DeviceError.TheVariants as device
use Rattle.kd_records.specs.Identity.{Identity, IsIdentity}
use Rattle.kd_records.specs.declared.content.Content.{Content}
use Rattle.kd_device.specs.Twin.{Both, Disk, half_state, half_leaves}
use Rattle.kd_device.specs.declared.half.Half.{Half}
use Rattle.kd_device.specs.declared.half.Half.TheVariants.{First, Second}
use Rattle.kdcs_types.specs.Tables.{empty_tables}
use Rattle.kdcfile_layout.specs.Layout.{fresh}
use Rattle.kdcfile_store.specs.Kept.{IsKept}
use Rattle.kdcfile_store.specs.Paged.{HasFile}
use Rattle.kdcfile_copies.specs.declared.answer.LoadedCopy.{LoadedCopy}
use Rattle.kdcfile_copies.specs.declared.answer.Found.{Found}
use Rattle.kdcfile_copies.specs.declared.answer.Found.TheVariants.{Empty}
use Rattle.kdcfile_copies.specs.Copies.{AtMost, IsChosen, IsCopyOf, IsNoCopy, bare}
use Rattle.kdcfile_copies.specs.CopiesLaws.{kept_bare, store_is_copy}
use Rattle.kdcfile_copies.specs.Finding.{IsAnswer, IsLoaded}
use Rattle.kdcfile_copies.specs.Keeping.{BeingMade, CopyKeeps}
use Rattle.kdcfile_copies.specs.Beside.{IsBeside, LeavesBeside, NoMore, OtherStays, SameDisk}
use Rattle.kdcfile_copies.specs.BesideLaws.{beside_pairs, other_kept, pairs_then, pairs_weaker}
use Rattle.record_codec.specs.RowReadings.{IsProperRow}
use Rattle.device_acts.specs.Stands.{AreTables}
use Rattle.kdcfile_double.specs.declared.error.TwinOpenError.{TwinOpenError}
use Rattle.kdcfile_double.specs.declared.error.TwinOpenError.TheVariants as to
use Rattle.kdcfile_double.specs.Causes.{of_device}
use Rattle.kdcfile_double.specs.Twice.{Twice, FrameBoth, IsInUse, IsKeptTwice, IsTwice, LeavesBoth, NoneRose, RoseAt, with_copies}
use Rattle.kdcfile_double.specs.Opening.{AreEmpty, IsMakingTwo, KeepsTablesTwice, SameFiles, Unchanged}
use Rattle.kdcfile_double.specs.Mended.{BothRest}
use Rattle.kdcfile_double.specs.Choice.{IsChoice}
use Rattle.kdcfile_double.specs.ChosenLaws.{below_at_most, copy_at_most, none_is_below}
use Rattle.kdcfile_double.specs.ChoiceLaws.{nothing_is_no_copy, two_are_twice}
use Rattle.kdcfile_double.specs.CommitTwoLaws.{one_frame, rose_before}

-- ---- calls that change nothing

-- both files stay, and of each half a stop leaves no more than it might have left before
pub record RestsBoth (old new : Both) (past since : ℕ → List ℕ → List ℕ → List ℕ → Type 0) : Type 0 where
  pub files : SameFiles old new
  pub sent : new.sent ≡ old.sent
  pub first_stop : (c : List ℕ) → half_leaves First since new.moment c new.sent → half_leaves First past old.moment c old.sent
  pub second_stop : (d : List ℕ) → half_leaves Second since new.moment d new.sent → half_leaves Second past old.moment d old.sent
  pub leaves : LeavesBoth old new past since (Unchanged old past)

-- at a stop now just these bytes are sent
abbrev pub SentNowBoth : Both → (ℕ → List ℕ → List ℕ → List ℕ → Type 0) → Type 0
SentNowBoth b leaves = (c d out : List ℕ) → leaves b.moment c d out → out ≡ b.sent

module _ (a b : Both) (la lb : ℕ → List ℕ → List ℕ → List ℕ → Type 0) where
  pub first_rests_both : SentNowBoth a la → Rests (half_state First a) (half_state First b) (half_leaves First la) (half_leaves First lb) → LeavesBeside First a b la lb NoMore → SameDisk Second a b → OtherStays First a b la lb → RestsBoth a b la lb
  first_rests_both sent rests beside same stays = record {
    files = record { first_holds = rests.holds; second_holds = ap (λ (x : Disk). x.holds) same; first_put = rests.put; second_put = ap (λ (x : Disk). x.put) same };
    sent = rests.sent;
    first_stop = rests.stop;
    second_stop = stays;
    leaves = pairs_weaker a b la lb (IsBeside First a la NoMore) (Unchanged a la) (beside_pairs a b la lb First NoMore beside) turn;
  }
    where
      turn : (c d out : List ℕ) → IsBeside First a la NoMore c d out → Unchanged a la c d out
      turn c d out h =
          ⊎_elim
          (λ was. let silent : out ≡ a.sent = sent c was.0 out was.1 in (silent, (was.0, subst (λ (o : List ℕ). la a.moment c was.0 o) silent was.1), h.0))
          (λ none. absurd none)
          h.1

  pub second_rests_both : SentNowBoth a la → Rests (half_state Second a) (half_state Second b) (half_leaves Second la) (half_leaves Second lb) → LeavesBeside Second a b la lb NoMore → SameDisk First a b → OtherStays Second a b la lb → RestsBoth a b la lb
  second_rests_both sent rests beside same stays = record {
    files = record { first_holds = ap (λ (x : Disk). x.holds) same; second_holds = rests.holds; first_put = ap (λ (x : Disk). x.put) same; second_put = rests.put };
    sent = rests.sent;
    first_stop = stays;
    second_stop = rests.stop;
    leaves = pairs_weaker a b la lb (IsBeside Second a la NoMore) (Unchanged a la) (beside_pairs a b la lb Second NoMore beside) turn;
  }
    where
      turn : (c d out : List ℕ) → IsBeside Second a la NoMore c d out → Unchanged a la c d out
      turn c d out h =
          ⊎_elim
          (λ was. let silent : out ≡ a.sent = sent was.0 d out was.1 in (silent, h.0, (was.0, subst (λ (o : List ℕ). la a.moment was.0 d o) silent was.1)))
          (λ none. absurd none)
          h.1

  module _ (first : RestsBoth a b la lb) where
    unchanged_since : (c d out : List ℕ) → Unchanged b lb c d out → Unchanged a la c d out
    unchanged_since c d out u = (u.0 ∙ first.sent, first.first_stop c u.1, first.second_stop d u.2)

    pub rests_then : (e : Both) (le : ℕ → List ℕ → List ℕ → List ℕ → Type 0) → RestsBoth b e lb le → RestsBoth a e la le
    rests_then e le next = record {
      files = record {
        first_holds = next.files.first_holds ∙ first.files.first_holds;
        second_holds = next.files.second_holds ∙ first.files.second_holds;
        first_put = next.files.first_put ∙ first.files.first_put;
        second_put = next.files.second_put ∙ first.files.second_put;
      };
      sent = next.sent ∙ first.sent;
      first_stop = λ c left. first.first_stop c (next.first_stop c left);
      second_stop = λ d left. first.second_stop d (next.second_stop d left);
      leaves = pairs_then a b la lb e le (Unchanged a la) first.leaves (pairs_weaker b e lb le (Unchanged b lb) (Unchanged a la) next.leaves unchanged_since);
    }

    -- and then two files are made
    pub rests_making : (i : Identity) (e : Both) (le : ℕ → List ℕ → List ℕ → List ℕ → Type 0) → LeavesBoth b e lb le (λ c d out. Unchanged b lb c d out ⊎ IsMakingTwo i b.sent c d out)
        → LeavesBoth a e la le (λ c d out. Unchanged a la c d out ⊎ IsMakingTwo i a.sent c d out)
    rests_making i e le h =
        pairs_then a b la lb e le (λ c d out. Unchanged a la c d out ⊎ IsMakingTwo i a.sent c d out)
        (pairs_weaker a b la lb (Unchanged a la) (λ c d out. Unchanged a la c d out ⊎ IsMakingTwo i a.sent c d out) first.leaves (λ c d out u. inl u))
        (pairs_weaker b e lb le (λ c d out. Unchanged b lb c d out ⊎ IsMakingTwo i b.sent c d out) (λ c d out. Unchanged a la c d out ⊎ IsMakingTwo i a.sent c d out) h
        (λ c d out p. ⊎_elim (λ u. inl (unchanged_since c d out u)) (λ m. inr (record { silent = m.silent ∙ first.sent; files = m.files })) p))

-- a stop leaves of both halves what they hold
both_rest : (b : Both) (lb : ℕ → List ℕ → List ℕ → List ℕ → Type 0) (P Q : List ℕ → Type 0) → IsKept P (half_state First b) (half_leaves First lb) → IsKept Q (half_state Second b) (half_leaves Second lb) → BothRest b lb
both_rest b lb P Q first second = record {
  first_rests = λ c d left. first.at_rest c (d, left);
  second_rests = λ c d left. second.at_rest d (c, left);
}

-- ---- counts of failed calls, and what no call changes

pub frame_then : (a b e : Both) → FrameBoth a b → FrameBoth b e → FrameBoth a e
frame_then a b e h k = record {
  told = k.told ∙ h.told;
  first_faults = omega (arith, h.first_faults, k.first_faults);
  second_faults = omega (arith, h.second_faults, k.second_faults);
  line_faults = omega (arith, h.line_faults, k.line_faults);
  moment = omega (arith, h.moment, k.moment);
  first_names = λ told. k.first_names (subst IsTrue (sym h.told) told) ∙ h.first_names told;
  second_names = λ told. k.second_names (subst IsTrue (sym h.told) told) ∙ h.second_names told;
  sent = λ told. k.sent (subst IsTrue (sym h.told) told) ∙ h.sent told;
}

pub none_rose_then : (a b e : Both) → NoneRose a b → NoneRose b e → NoneRose a e
none_rose_then a b e h k = record { first_same = k.first_same ∙ h.first_same; second_same = k.second_same ∙ h.second_same; line_same = k.line_same ∙ h.line_same }

-- a call on the first half, and then one on the second
module _ (a b e : Both) (second_stands : SameDisk Second a b) (first_stands : SameDisk First b e) where
  pub two_frames : Frame (half_state First a) (half_state First b) → SameNames (half_state First a) (half_state First b) → (IsTrue a.told → b.sent ≡ a.sent) → Frame (half_state Second b) (half_state Second e)
      → SameNames (half_state Second b) (half_state Second e) → (IsTrue b.told → e.sent ≡ b.sent) → FrameBoth a e
  two_frames frame names sent later_frame later_names later_sent = frame_then a b e (one_frame First a b frame names second_stands sent) (one_frame Second b e later_frame later_names first_stands later_sent)

  pub two_fine : SameFaults (half_state First a) (half_state First b) → SameFaults (half_state Second b) (half_state Second e) → NoneRose a e
  two_fine fine later_fine =
      none_rose_then a b e (record { first_same = fine.disk; second_same = ap (λ (x : Disk). x.disk_faults) second_stands; line_same = fine.line })
      (record { first_same = ap (λ (x : Disk). x.disk_faults) first_stands; second_same = later_fine.disk; line_same = later_fine.line })

  module _ (lb le : ℕ → List ℕ → List ℕ → List ℕ → Type 0) (stays : OtherStays Second b e lb le) where
    pub two_rests : (la : ℕ → List ℕ → List ℕ → List ℕ → Type 0) → SentNowBoth a la → SentNowBoth b lb → Rests (half_state First a) (half_state First b) (half_leaves First la) (half_leaves First lb) → LeavesBeside First a b la lb NoMore → OtherStays First a b la lb
        → Rests (half_state Second b) (half_state Second e) (half_leaves Second lb) (half_leaves Second le) → LeavesBeside Second b e lb le NoMore → RestsBoth a e la le
    two_rests la sent_a sent_b rests beside other later_rests later_beside =
        rests_then a b la lb (first_rests_both a b la lb sent_a rests beside second_stands other) e le (second_rests_both b e lb le sent_b later_rests later_beside first_stands stays)

    pub two_at_rest : (P Q : List ℕ → Type 0) → IsKept P (half_state First b) (half_leaves First lb) → IsKept Q (half_state Second e) (half_leaves Second le) → BothRest e le
    two_at_rest P Q first second = both_rest e le P Q (other_kept Second b e lb le P first_stands stays first) second

-- where none rose before, one rose since
pub rose_then : (half : Half) (a b e : Both) → NoneRose a b → RoseAt half b e → RoseAt half a e
rose_then First a b e none rose = subst (λ (n : ℕ). Rose n e.first.disk_faults) none.first_same rose
rose_then Second a b e none rose = subst (λ (n : ℕ). Rose n e.second.disk_faults) none.second_same rose

pub one_rose_then : (a b e : Both) → NoneRose a b → RoseAt First b e ⊎ RoseAt Second b e → RoseAt First a e ⊎ RoseAt Second a e
one_rose_then a b e none rose = ⊎_elim (λ r. inl (rose_then First a b e none r)) (λ r. inr (rose_then Second a b e none r)) rose

-- ---- what was found

pub empty_answer : (f : Found) (bytes : List ℕ) → f ≡ Empty → IsAnswer f bytes → bytes ≡ []
empty_answer f bytes is answer = subst (λ (g : Found). IsAnswer g bytes) is answer

-- what is chosen of two copies is not mended, and none is lost
pub choice_is_new : (p q : Option LoadedCopy) (s : Twice) → IsChoice p q s → (s.mended ≡ None) × (s.lost ≡ None)
choice_is_new (Some p) (Some q) s (inl only) = (ap (λ (u : Twice). u.mended) only.1, ap (λ (u : Twice). u.lost) only.1)
choice_is_new (Some p) (Some q) s (inr (inl only)) = (ap (λ (u : Twice). u.mended) only.2, ap (λ (u : Twice). u.lost) only.2)
choice_is_new (Some p) (Some q) s (inr (inr both)) = (ap (λ (u : Twice). u.mended) both.1, ap (λ (u : Twice). u.lost) both.1)
choice_is_new (Some p) None s is = (ap (λ (u : Twice). u.mended) is, ap (λ (u : Twice). u.lost) is)
choice_is_new None (Some q) s is = (ap (λ (u : Twice). u.mended) is, ap (λ (u : Twice). u.lost) is)
choice_is_new None None s is = absurd is

-- ---- two empty files are made

nothing_more : (bytes : List ℕ) → IsNoCopy bytes → AtMost 0 bytes
nothing_more bytes none = below_at_most 0 bytes (none_is_below 0 bytes none)

empty_no_copy : (bytes : List ℕ) → bytes ≡ [] → IsNoCopy bytes
empty_no_copy bytes is = subst (λ (l : List ℕ). IsNoCopy l) (sym is) nothing_is_no_copy

module _ (i : Identity) (a b : Both) (la lb : ℕ → List ℕ → List ℕ → List ℕ → Type 0) (sent_a : SentNowBoth a la) (empty : AreEmpty a.first.holds a.second.holds) (rest : BothRest a la) where
  abbrev Making : List ℕ → List ℕ → List ℕ → Type 0
  Making c d out = Unchanged a la c d out ⊎ IsMakingTwo i a.sent c d out

  second_nothing : (d : List ℕ) → half_leaves Second la a.moment d a.sent → IsNoCopy d
  second_nothing d left = empty_no_copy d (rest.second_rests left.0 d left.1 ∙ empty.1)

  -- while the first is made, no file is a copy, or it is the one that counts
  pub making_first : LeavesBeside First a b la lb (BeingMade i a.sent) → LeavesBoth a b la lb (λ c d out. Unchanged a la c d out ⊎ IsMakingTwo i a.sent c d out)
  making_first beside = pairs_weaker a b la lb (IsBeside First a la (BeingMade i a.sent)) Making (beside_pairs a b la lb First (BeingMade i a.sent) beside) turn
    where
      turn : (c d out : List ℕ) → IsBeside First a la (BeingMade i a.sent) c d out → Making c d out
      turn c d out h =
          let none : IsNoCopy d = second_nothing d h.0 in
          ⊎_elim
          (λ was. let silent : out ≡ a.sent = sent_a c was.0 out was.1 in inl (silent, (was.0, subst (λ (o : List ℕ). la a.moment c was.0 o) silent was.1), h.0))
          (λ made. inr (record { silent = made.0; files = ⊎_elim (λ no. inl (no, none)) (λ copy. inr (inl (copy, nothing_more d none))) made.1 }))
          h.1

  -- while the second is made, the first counts
  module _ (p : LoadedCopy) (made : p.store.identity ≡ i) (keeps : CopyKeeps p.store 0 fresh) (kept : IsKept (HasFile p.store) (half_state First b) (half_leaves First lb)) (sent_b : SentNowBoth b lb) (same_sent : b.sent ≡ a.sent) (stays : OtherStays First a b la lb) (e : Both) (le : ℕ → List ℕ → List ℕ → List ℕ → Type 0) where
    first_is : (c : List ℕ) → half_leaves First lb b.moment c b.sent → IsCopyOf i 0 fresh c
    first_is c left =
        subst (λ (j : Identity). IsCopyOf j 0 fresh c) made (store_is_copy p.store 0 fresh c keeps (subst (λ (l : List ℕ). HasFile p.store l) (sym (kept.at_rest c left)) kept.bytes))

    pub making_second : LeavesBeside First a b la lb (BeingMade i a.sent) → LeavesBeside Second b e lb le (BeingMade i b.sent) → LeavesBoth a e la le (λ c d out. Unchanged a la c d out ⊎ IsMakingTwo i a.sent c d out)
    making_second first second = pairs_then a b la lb e le Making (making_first first) (pairs_weaker b e lb le (IsBeside Second b lb (BeingMade i b.sent)) Making (beside_pairs b e lb le Second (BeingMade i b.sent) second) turn)
      where
        counts : (c d : List ℕ) → half_leaves First lb b.moment c b.sent → AtMost 0 d → (IsNoCopy c × IsNoCopy d) ⊎ IsChosen i 0 fresh c d
        counts c d left most = inr (inl (first_is c left, most))

        turn : (c d out : List ℕ) → IsBeside Second b lb (BeingMade i b.sent) c d out → Making c d out
        turn c d out h =
            ⊎_elim
            (λ was.
            let silent : out ≡ b.sent = sent_b was.0 d out was.1 in
            inr (record { silent = silent ∙ same_sent; files = counts c d h.0 (nothing_more d (second_nothing d (stays d (was.0, subst (λ (o : List ℕ). lb b.moment was.0 d o) silent was.1)))) }))
            (λ new. inr (record { silent = new.0 ∙ same_sent; files = counts c d h.0 (⊎_elim (λ no. nothing_more d no) (λ copy. copy_at_most i 0 0 fresh d copy (omega arith)) new.1) }))
            h.1

-- ---- the two copies that were made

pub made_loaded : (p : LoadedCopy) (i : Identity) → p.store.identity ≡ i → IsIdentity i → p.sequence ≡ 0 → CopyKeeps p.store 0 fresh → IsLoaded p
made_loaded p i made is numbered keeps = record {
  identity = subst IsIdentity (sym made) is;
  keeps = subst (λ (n : ℕ). CopyKeeps p.store n (bare p.store.content)) (sym numbered) (subst (λ (x : Content). CopyKeeps p.store 0 x) (sym (kept_bare p.store 0 fresh keeps)) keeps);
}

module _ (p q : LoadedCopy) (i : Identity) (is : IsIdentity i) (made : p.store.identity ≡ i) (too : q.store.identity ≡ i) (numbered : p.sequence ≡ 0) (alike : q.sequence ≡ 0) (keeps : CopyKeeps p.store 0 fresh) (holds : CopyKeeps q.store 0 fresh) where
  pub made_are_twice : IsTwice (with_copies (Some p) (Some q))
  made_are_twice =
      two_are_twice p q (made_loaded p i made is numbered keeps) (made_loaded q i too is alike holds)
      (record { sequence = numbered ∙ sym alike; identity = made ∙ sym too; content = keeps.content ∙ sym holds.content })

pub made_are_used : (p q : LoadedCopy) (s : Twice) → s ≡ with_copies (Some p) (Some q) → (half : Half) → IsInUse half s
made_are_used p q s is First = (p, ap (λ (u : Twice). u.first) is)
made_are_used p q s is Second = (q, ap (λ (u : Twice). u.second) is)

-- the empty tables are kept in them
pub empty_are_tables : AreTables empty_tables
empty_are_tables = record {
  sorted = record { gssbs = refl; tlss = refl; ulss = refl; services = refl; jobs = refl; shown = refl; tlss_filled = refl; ulss_filled = refl; services_fit = refl };
  proper = All-nil IsProperRow;
}

pub made_keep : (p q : LoadedCopy) (i : Identity) → p.store.identity ≡ i → CopyKeeps p.store 0 fresh → KeepsTablesTwice i (with_copies (Some p) (Some q)) empty_tables
made_keep p q i made keeps = record { identity_is = made; tables = empty_are_tables; content = kept_bare p.store 0 fresh keeps }

module _ (p q : LoadedCopy) (b : Both) (lb : ℕ → List ℕ → List ℕ → List ℕ → Type 0) (first : IsKept (HasFile p.store) (half_state First b) (half_leaves First lb)) (second : IsKept (HasFile q.store) (half_state Second b) (half_leaves Second lb)) where
  pub made_kept : IsKeptTwice (with_copies (Some p) (Some q)) b lb
  made_kept = record {
    first_rests = λ c d left. let same : c ≡ b.first.holds = first.at_rest c (d, left) in (same, subst (λ (l : List ℕ). HasFile p.store l) (sym same) first.bytes);
    second_rests = λ c d left. let same : d ≡ b.second.holds = second.at_rest d (c, left) in (same, subst (λ (l : List ℕ). HasFile q.store l) (sym same) second.bytes);
  }

-- ---- an error of a disk that is handed on

pub told_of : (T : Type 0) (r : Result T TwinOpenError) (e : DeviceError) → IsErrAnd r (λ x. x ≡ of_device e)
    → (IsErrOf r to.NotKdcfile → ⊥) × ((stored : List ℕ) → IsErrOf r (to.OtherGeneration stored) → ⊥) × ((n : ℕ) → IsErrOf r (to.Spent n) → ⊥)
told_of T (Ok x) e gives = absurd gives
told_of T (Err x) device.Failed gives = (λ is. absurd cc, λ stored is. absurd cc, λ n is. absurd cc)
told_of T (Err x) device.Memory gives = (λ is. absurd cc, λ stored is. absurd cc, λ n is. absurd cc)

failed_of : (T U : Type 0) (r : Result T TwinOpenError) (e : DeviceError) → IsErrAnd r (λ x. x ≡ of_device e) → IsErrOf r to.Failed → IsErrOf {T = U} (Err e) device.Failed
failed_of T U (Ok x) e gives is = absurd gives
failed_of T U (Err x) device.Failed gives is = refl
failed_of T U (Err x) device.Memory gives is = absurd cc

-- where a call on the second half failed, after one on the first
pub second_failed : (T U : Type 0) (r : Result T TwinOpenError) (x : DeviceError) (a b e : Both) → SameDisk Second a b → IsErrAnd r (λ y. y ≡ of_device x) → (IsErrOf {T = U} (Err x) device.Failed → RoseAt Second b e) → IsErrOf r to.Failed → RoseAt First a e ⊎ RoseAt Second a e
second_failed T U r x a b e same gives rose is = inr (rose_before Second a b e same (rose (failed_of T U r x gives is)))
