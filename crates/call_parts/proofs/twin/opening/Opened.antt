-- Two files are opened: which tables a stop leaves of them, and on which halves a call failed.
use Rattle.std.specs.Prelude.{◌≡◌, ◌⊎◌, ℕ, List, [], IsErrAnd, IsErrOf}
use Rattle.std.proofs.Common.{inl, inr, ⊎_elim, arith, refl, ap, sym, subst, ◌∙◌, Result, Ok, Err}
use Rattle.kd_device.specs.declared.error.DeviceError.{DeviceError}
use Rattle.kd_device.specs.declared.error.DeviceError.TheVariants as device
use Rattle.kd_records.specs.Identity.{Identity}
use Rattle.kd_records.specs.declared.content.Content.{Content}
use Rattle.kd_device.specs.Twin.{Both}
use Rattle.kd_device.specs.declared.half.Half.{Half}
use Rattle.kd_device.specs.declared.half.Half.TheVariants.{First, Second}
use Rattle.application_types.specs.Generation.{Generated}
use Rattle.kdcs_types.specs.Tables.{TableRows, empty_tables}
use Rattle.kdcfile_copies.specs.Copies.{IsChosen, IsNoCopy}
use Rattle.kdcfile_copies.specs.BesideLaws.{pairs_then, pairs_weaker}
use Rattle.kdcfile_double.specs.Causes.{of_device}
use Rattle.kdcfile_double.specs.ChoiceLaws.{nothing_is_no_copy}
use Rattle.kdcfile_double.specs.MakingLaws.{RestsBoth, empty_are_tables, rose_then}
use Rattle.kdcfile_double.specs.Mended.{BothRest, FineMending, IsMendingOne}
use Rattle.kdcfile_double.specs.Opening.{AreEmpty, AreInUseSo, IsChosenTables, IsMakingTwo, KeepsTablesTwice, SameFiles, StartsFromTwo, Unchanged, identity_twice}
use Rattle.kdcfile_double.specs.declared.error.TwinOpenError.{TwinOpenError}
use Rattle.kdcfile_double.specs.declared.error.TwinOpenError.TheVariants as to
use Rattle.kdcfile_double.specs.Twice.{IsInUse, IsOpen, LeavesBoth, NoneRose, RoseAt, Twice, content_of, identity_of, sequence_of}
use Rattle.call_parts.specs.declared.error.CopiesError.{CopiesError}
use Rattle.call_parts.specs.declared.error.CopiesError.TheVariants as copies
use Rattle.call_parts.specs.TwoAnswersLaws.{nothing_counts}
use Rattle.call_parts.specs.BehindLaws.{AreOpened, empty_or_not}
use Rattle.call_parts.specs.OpeningTwo.{LeavesOpeningTwo, StaysAsItIs}
use Rattle.call_parts.specs.LeavingTwo.{FineTwo, LeavesUnmadeTwo}

-- ---- the tables that a stop leaves

empty_no_copy : (bytes : List ℕ) → bytes ≡ [] → IsNoCopy bytes
empty_no_copy bytes is = subst (λ (l : List ℕ). IsNoCopy l) (sym is) nothing_is_no_copy

module _ (g : Generated) (fingerprint : List ℕ) (t : TableRows) (a : Both) (la : ℕ → List ℕ → List ℕ → List ℕ → Type 0) (rest : BothRest a la) (sent_now : (c d out : List ℕ) → la a.moment c d out → out ≡ a.sent) (starts : StartsFromTwo g fingerprint a.first.holds a.second.holds t) where
  -- nothing was sent, and the copy that counts has the tables, or neither is a copy yet
  abbrev Opens : List ℕ → List ℕ → List ℕ → Type 0
  Opens c d out = (out ≡ a.sent) × (((n : ℕ) × IsChosenTables (identity_twice g fingerprint) n t c d) ⊎ LeavesUnmadeTwo a c d out)

  same_opens : (c d out : List ℕ) → out ≡ a.sent → c ≡ a.first.holds → d ≡ a.second.holds → Opens c d out
  same_opens c d out silent first second = (silent, by starts)
    where
      by : StartsFromTwo g fingerprint a.first.holds a.second.holds t → ((n : ℕ) × IsChosenTables (identity_twice g fingerprint) n t c d) ⊎ LeavesUnmadeTwo a c d out
      by (inl (empty, is)) = inr (record { empty = empty; silent = silent; first_none = empty_no_copy c (first ∙ empty.0); second_none = empty_no_copy d (second ∙ empty.1) })
      by (inr (n, most, goes)) =
          inl (n, subst (λ (p : List ℕ). IsChosenTables (identity_twice g fingerprint) n t p d) (sym first) (subst (λ (q : List ℕ). IsChosenTables (identity_twice g fingerprint) n t a.first.holds q) (sym second) goes.0))

  unchanged_opens : (c d out : List ℕ) → Unchanged a la c d out → Opens c d out
  unchanged_opens c d out left = same_opens c d out left.0 (rest.first_rests c left.1.0 left.1.1) (rest.second_rests left.2.0 d left.2.1)

  before_opens : (c d out : List ℕ) → la a.moment c d out → Opens c d out
  before_opens c d out left =
      let silent = sent_now c d out left in
      let now = subst (λ (o : List ℕ). la a.moment c d o) silent left in
      same_opens c d out silent (rest.first_rests c d now) (rest.second_rests c d now)

  none_yet : AreEmpty a.first.holds a.second.holds → t ≡ empty_tables
  none_yet empty = ⊎_elim (λ none. none.1) (λ some. absurd (nothing_counts (identity_twice g fingerprint) some.0 t a.first.holds a.second.holds empty some.2.0)) starts

  making_opens : AreEmpty a.first.holds a.second.holds → (c d out : List ℕ) → IsMakingTwo (identity_twice g fingerprint) a.sent c d out → Opens c d out
  making_opens empty c d out made = (
    made.silent,
    ⊎_elim (λ none. inr (record { empty = empty; silent = made.silent; first_none = none.0; second_none = none.1 }))
        (λ is. inl (0, subst (λ (u : TableRows). IsChosenTables (identity_twice g fingerprint) 0 u c d) (sym (none_yet empty)) (record { tables = empty_are_tables; chosen = is }))) made.files,
  )

  mending_opens : (s : Twice) (u : TableRows) → KeepsTablesTwice (identity_twice g fingerprint) s u → u ≡ t → (e : Both) → e.sent ≡ a.sent → (c d out : List ℕ) → IsMendingOne s e.sent c d out → Opens c d out
  mending_opens s u keeps same e sent c d out mending = (
    mending.silent ∙ sent,
    inl (
      sequence_of s,
      subst (λ (v : TableRows). IsChosenTables (identity_twice g fingerprint) (sequence_of s) v c d) same (record {
        tables = keeps.tables;
        chosen =
            subst (λ (x : Content). IsChosen (identity_twice g fingerprint) (sequence_of s) x c d) keeps.content
            (subst (λ (i : Identity). IsChosen i (sequence_of s) (content_of s) c d) keeps.identity_is mending.chosen);
      }),
    ),
  )

  -- a stop since the call
  left_since : (b : Both) (lb : ℕ → List ℕ → List ℕ → List ℕ → Type 0) → LeavesBoth a b la lb Opens → LeavesOpeningTwo (identity_twice g fingerprint) t a b lb
  left_since b lb h c d out left = ⊎_elim (λ was. before_opens c d out was) (λ opens. opens) (h.only a.moment c d out (omega arith) left)

  module _ (b : Both) (lb : ℕ → List ℕ → List ℕ → List ℕ → Type 0) (attached : RestsBoth a b la lb) where
    attached_pairs : LeavesBoth a b la lb Opens
    attached_pairs = pairs_weaker a b la lb (Unchanged a la) Opens attached.leaves unchanged_opens

    -- within the attaching
    pub attached_leaves : LeavesOpeningTwo (identity_twice g fingerprint) t a b lb
    attached_leaves = left_since b lb attached_pairs

    module _ (e : Both) (le : ℕ → List ℕ → List ℕ → List ℕ → Type 0) (still : (AreEmpty b.first.holds b.second.holds → ⊥) → LeavesBoth b e lb le (Unchanged b lb))
        (making : AreEmpty b.first.holds b.second.holds → LeavesBoth b e lb le (λ c d out. Unchanged b lb c d out ⊎ IsMakingTwo (identity_twice g fingerprint) b.sent c d out)) where
      since : (c d out : List ℕ) → Unchanged b lb c d out → Opens c d out
      since c d out left = unchanged_opens c d out (left.0 ∙ attached.sent, attached.first_stop c left.1, attached.second_stop d left.2)

      opened_pairs : LeavesBoth a e la le Opens
      opened_pairs = pairs_then a b la lb e le Opens attached_pairs (⊎_elim (λ empty. made empty) (λ filled. pairs_weaker b e lb le (Unchanged b lb) Opens (still filled) since) (empty_or_not b.first.holds b.second.holds))
        where
          made : AreEmpty b.first.holds b.second.holds → LeavesBoth b e lb le Opens
          made empty =
              pairs_weaker b e lb le (λ c d out. Unchanged b lb c d out ⊎ IsMakingTwo (identity_twice g fingerprint) b.sent c d out) Opens (making empty)
              (λ c d out left.
              ⊎_elim (λ same. since c d out same)
              (λ making_now. making_opens (sym attached.files.first_holds ∙ empty.0, sym attached.files.second_holds ∙ empty.1) c d out (record { silent = making_now.silent ∙ attached.sent; files = making_now.files })) left)

      -- within the opening
      pub opened_leaves : LeavesOpeningTwo (identity_twice g fingerprint) t a e le
      opened_leaves = left_since e le opened_pairs

      -- and within the mending
      pub mended_leaves : (f : Both) (lf : ℕ → List ℕ → List ℕ → List ℕ → Type 0) (s : Twice) (u : TableRows) → KeepsTablesTwice (identity_twice g fingerprint) s u → u ≡ t → e.sent ≡ a.sent → LeavesBoth e f le lf (IsMendingOne s e.sent)
          → LeavesOpeningTwo (identity_twice g fingerprint) t a f lf
      mended_leaves f lf s u keeps same sent mending =
          left_since f lf (pairs_then a e la le f lf Opens opened_pairs (pairs_weaker e f le lf (IsMendingOne s e.sent) Opens mending (mending_opens s u keeps same e sent)))

-- ---- files that stay as they are

-- what holds of the files after calls that change none holds of them before
pub same_files : (a b : Both) (P : List ℕ → List ℕ → Type 0) → SameFiles a b → P b.first.holds b.second.holds → P a.first.holds a.second.holds
same_files a b P same is = subst (λ (p : List ℕ). P p a.second.holds) same.first_holds (subst (λ (q : List ℕ). P b.first.holds q) same.second_holds is)

module _ (a b : Both) (la lb : ℕ → List ℕ → List ℕ → List ℕ → Type 0) (attached : RestsBoth a b la lb) where
  pub opened_stay : (e : Both) (le : ℕ → List ℕ → List ℕ → List ℕ → Type 0) → SameFiles b e × LeavesBoth b e lb le (Unchanged b lb) → e.sent ≡ b.sent → StaysAsItIs a e la le
  opened_stay e le still sent = record {
    files = record {
      first_holds = still.0.first_holds ∙ attached.files.first_holds;
      second_holds = still.0.second_holds ∙ attached.files.second_holds;
      first_put = still.0.first_put ∙ attached.files.first_put;
      second_put = still.0.second_put ∙ attached.files.second_put;
    };
    sent = sent ∙ attached.sent;
    leaves = pairs_then a b la lb e le (Unchanged a la) attached.leaves (pairs_weaker b e lb le (Unchanged b lb) (Unchanged a la) still.1 (λ c d out left. (left.0 ∙ attached.sent, attached.first_stop c left.1, attached.second_stop d left.2)));
  }

-- files from which no application starts are not both empty
pub not_empty : (g : Generated) (fingerprint a b : List ℕ) → ((t : TableRows) → StartsFromTwo g fingerprint a b t → ⊥) → AreEmpty a b → ⊥
not_empty g fingerprint a b none empty = none empty_tables (inl (empty, refl))

-- and where one does, nothing is left to show of files from which none starts
pub started_stay : (a b : Both) (la lb : ℕ → List ℕ → List ℕ → List ℕ → Type 0) (Starts : TableRows → Type 0) (t : TableRows) → Starts t → ((u : TableRows) → Starts u → ⊥) → StaysAsItIs a b la lb
started_stay a b la lb Starts t is none = absurd (none t is)

-- ---- what the copies keep

pub opened_before : (a b : Both) (s : Twice) → SameFiles a b → AreOpened s b → AreOpened s a
opened_before a b s same opened = record {
  is_open = opened.is_open;
  new = opened.new;
  made = λ empty. opened.made (same.first_holds ∙ empty.0, same.second_holds ∙ empty.1);
  in_use = λ filled. same_files a b (λ (p q : List ℕ). AreInUseSo s p q) same (opened.in_use (λ empty. filled (sym same.first_holds ∙ empty.0, sym same.second_holds ∙ empty.1)));
}

pub keeps_after : (i : Identity) (s s' : Twice) (t : TableRows) → identity_of s' ≡ identity_of s → content_of s' ≡ content_of s → KeepsTablesTwice i s t → KeepsTablesTwice i s' t
keeps_after i s s' t made kept keeps = record { identity_is = made ∙ keeps.identity_is; tables = keeps.tables; content = kept ∙ keeps.content }

-- ---- counts of failed calls

pub failed_after : (a e f : Both) (s : Twice) → NoneRose a e → IsOpen s → ((half : Half) → IsInUse half s → RoseAt half e f) → RoseAt First a f ⊎ RoseAt Second a f
failed_after a e f s none (inl first) rose = inl (rose_then First a e f none (rose First first))
failed_after a e f s none (inr second) rose = inr (rose_then Second a e f none (rose Second second))

-- none did
pub fine_of : (a b : Both) → NoneRose a b → FineTwo a b
fine_of a b none = record { spared = (First, none.first_same); line = inl none.line_same }

pub mended_fine : (a e f : Both) (s : Twice) → NoneRose a e → IsOpen s → FineMending s e f → FineTwo a f
mended_fine a e f s none opened h = record {
  spared = ⊎_elim (λ first. (First, h.spared First first ∙ none.first_same)) (λ second. (Second, h.spared Second second ∙ none.second_same)) opened;
  line = ⊎_elim (λ same. inl (same ∙ none.line_same)) (λ rose. inr (rose.0, rose_then rose.0 a e f none rose.2)) h.line;
}

-- where an answer is a device's error handed on, and it is that a call failed, a call of the device did
pub failed_of : (T U : Type 0) (r : Result T TwinOpenError) (e : DeviceError) → IsErrAnd r (λ x. x ≡ of_device e) → IsErrOf r to.Failed → IsErrOf {T = U} (Err e) device.Failed
failed_of T U (Ok x) e gives is = absurd gives
failed_of T U (Err x) device.Failed gives is = refl
failed_of T U (Err x) device.Memory gives is = absurd cc

-- ---- errors of both files, unless one is missing

pub disk_failed : (T U : Type 0) (r : Result T CopiesError) (e : DeviceError) → IsErrAnd r (λ x. x ≡ copies.Files (of_device e)) → IsErrOf r (copies.Files to.Failed) → IsErrOf {T = U} (Err e) device.Failed
disk_failed T U (Ok x) e gives is = absurd gives
disk_failed T U (Err x) device.Failed gives is = refl
disk_failed T U (Err x) device.Memory gives is = absurd cc

-- no error of a disk is another one
pub disk_told : (T : Type 0) (r : Result T CopiesError) (e : DeviceError) → IsErrAnd r (λ x. x ≡ copies.Files (of_device e))
    → (IsErrOf r (copies.Files to.NotKdcfile) → ⊥) × ((stored : List ℕ) → IsErrOf r (copies.Files (to.OtherGeneration stored)) → ⊥) × ((n : ℕ) → IsErrOf r (copies.Files (to.Spent n)) → ⊥)
disk_told T (Ok x) e gives = absurd gives
disk_told T (Err x) device.Failed gives = (λ is. absurd cc, λ stored is. absurd cc, λ n is. absurd cc)
disk_told T (Err x) device.Memory gives = (λ is. absurd cc, λ stored is. absurd cc, λ n is. absurd cc)

pub files_same : (T U : Type 0) (r : Result T CopiesError) (e x : TwinOpenError) → IsErrAnd r (λ y. y ≡ copies.Files e) → IsErrOf r (copies.Files x) → IsErrOf {T = U} (Err e) x
files_same T U (Ok v) e x gives is = absurd gives
files_same T U (Err y) e x gives is = let h : e ≡ x = cc in ap (λ (z : TwinOpenError). Err z) h
