-- What became of files that are carried, before and after it is said.
use Rattle.std.specs.Prelude.{◌≡◌, ◌≤◌, ℕ, Bool, true, false, IfOk, IfNone, IfSome, List, [], Option, Some, None, is_some, take, ◌++◌, ◌∷◌, Result, Ok, Err}
use Rattle.std.proofs.Common.{inl, inr, ⊎_elim, refl, sym, ap, subst, ◌∙◌, arith}
use Rattle.kd_device.specs.Device.{Rose}
use Rattle.kd_device.specs.Twin.{Both, Disk, disk_of}
use Rattle.kd_device.specs.declared.error.DeviceError.{DeviceError}
use Rattle.kd_device.specs.declared.error.DeviceError.TheVariants as device
use Rattle.kd_device.specs.declared.half.Half.{Half}
use Rattle.kd_device.specs.declared.half.Half.TheVariants.{First, Second}
use Rattle.kd_records.specs.Identity.{Identity}
use Rattle.kdcs_types.specs.Tables.{TableRows}
use Rattle.kdcs_types.specs.declared.act.Row.{Row}
use Rattle.record_codec.specs.Records.{content_of_tables}
use Rattle.device_acts.specs.Stands.{StandsForTables}
use Rattle.application_types.specs.Generation.{Generated}
use Rattle.kdcfile_copies.specs.Beside.{LeavesFrontBoth, LeavesSamePairs, SameDisk}
use Rattle.kdcfile_copies.specs.Copies.{IsCopyOf, IsNoCopy}
use Rattle.kdcfile_double.specs.MakingLaws.{RestsBoth, none_rose_then, rests_then}
use Rattle.kdcfile_double.specs.Mended.{BothRest}
use Rattle.kdcfile_double.specs.Opening.{SameFiles, last_sequence}
use Rattle.kdcfile_double.specs.Twice.{NoneRose, RoseAt, SameFaultsAt}
use Rattle.kd_update.specs.declared.error.UpdateError.{UpdateError}
use Rattle.kd_update.specs.declared.error.UpdateError.TheVariants as cause
use Rattle.carry_steps.specs.Deciding.{next_sequence}
use Rattle.kdcfile_carry.specs.Doing.{AreEither, FailsAlone}
use Rattle.kdcfile_carry.specs.Files.{AreFiles, Files, HaveTwoMeanings}
use Rattle.kdcfile_carry.specs.FilesLaws.{one_meaning_of_files, two_meanings_are_none}
use Rattle.kdcfile_carry.specs.Leaving.{EachStands, StaysWithin}
use Rattle.kdcfile_carry.specs.LeavingLaws.{rests_stay, stays_then}
use Rattle.kdcfile_carry.specs.Promise.{StandNow}
use Rattle.kdcfile_carry.specs.Ways.{AreOwn, AreRefusedAs, AreSpent, IsTaken, files_after, judgement}
use Rattle.kdcfile_carry.specs.WaysLaws.{up_to_date_own}
use Rattle.kdcfile_carry.specs.declared.error.FilesError.{FilesError}
use Rattle.kdcfile_carry.specs.declared.error.FilesError.TheVariants as files
use Rattle.call_parts.specs.Asking.{Errand}
use Rattle.carry_cli.specs.Carrying.{Hinders, IsDone, IsStopOfCarry, Keeps, LosesNone, MayBecome, NoneIsMissing, OfFiles, generation_of, rows_of_loss}
use Rattle.carry_cli.specs.Doing.{IsNow, hindered_by}
use Rattle.carry_cli.specs.Telling.{answer_text}
use Rattle.carry_cli.specs.declared.answer.Answer.{Answer}
use Rattle.carry_cli.specs.declared.answer.Answer.TheVariants as answer
use Rattle.carry_cli.specs.declared.answer.Hindrance.{Hindrance}
use Rattle.carry_cli.specs.declared.answer.Hindrance.TheVariants as hindrance
use Rattle.carry_cli.specs.declared.words.Options.{Options}
use Rattle.carry_cli.proofs.Ending.{same_files}

-- ---- results

pub if_ok : {T E : Type 0} (r s : Result T E) (P : T → Type 0) → r ≡ s → ((x : T) → Ok x ≡ s → P x) → IfOk r P
if_ok (Ok x) s P is f = f x is
if_ok (Err e) s P is f = tt

pub if_ok_then : {T E : Type 0} (r : Result T E) (P Q : T → Type 0) → IfOk r P → ((x : T) → P x → Q x) → IfOk r Q
if_ok_then (Ok x) P Q h f = f x h
if_ok_then (Err e) P Q h f = tt

pub none_then : {T : Type 0} (m : Option T) (P : Type 0) → m ≡ None → IfNone m P → P
none_then None P is h = h
none_then (Some x) P is h = absurd cc

-- ---- files that are refused are not taken

not_both : {T E : Type 0} (r : Result T E) (x : T) (e : E) → r ≡ Ok x → r ≡ Err e → ⊥
not_both (Ok y) x e ok err = absurd cc
not_both (Err y) x e ok err = absurd cc

-- two copies are wanted, and there is no next sequence
no_next : (double : Bool) (s : Option ℕ) (n : ℕ) → double ≡ true → s ≡ Some n → last_sequence ≤ n → IfSome (next_sequence double s) (λ m. m ≤ last_sequence) → ⊥
no_next true (Some m) n two is great small = omega (arith, some_is m n is, great, small)
  where
    some_is : (m n : ℕ) → Some m ≡ Some n → m ≡ n
    some_is m n same = cc
no_next true None n two is great small = absurd cc
no_next false s n two is great small = absurd cc

module _ (g : Generated) (fingerprint p q : List ℕ) (f : Files) (are : AreFiles f p q) where
  pub refused_untaken : (why : UpdateError) → AreRefusedAs g fingerprint p q why → IsTaken g fingerprint f → ⊥
  refused_untaken why (inl none) (inl up) = none.1.unsuited f are up
  refused_untaken why (inl none) (inr may) = may.differs (none.1.own_texts f are)
  refused_untaken why (inr judged) (inl up) = judged.differs (subst (λ (h : Files). AreOwn g fingerprint h) (one_meaning_of_files f judged.files p q are judged.are) (up_to_date_own g fingerprint f up))
  refused_untaken why (inr judged) (inr may) =
      not_both (judgement g f) tt why may.judged (subst (λ (h : Files). judgement g h ≡ Err why) (sym (one_meaning_of_files f judged.files p q are judged.are)) judged.judged)

  pub spent_untaken : (n : ℕ) → AreSpent g fingerprint p q n → IsTaken g fingerprint f → ⊥
  spent_untaken n spent (inl up) = spent.differs (subst (λ (h : Files). AreOwn g fingerprint h) (one_meaning_of_files f spent.files p q are spent.are) (up_to_date_own g fingerprint f up))
  spent_untaken n spent (inr may) =
      no_next (is_some g.double) f.sequence n spent.two (subst (λ (h : Files). h.sequence ≡ Some n) (sym (one_meaning_of_files f spent.files p q are spent.are)) spent.sequence) spent.great may.small

-- ---- why files were not carried, as an answer

abbrev answered : Answer → Result Answer DeviceError
answered x = Ok x

module _ (e : Errand) (o : Options) (a b : Both) (la lb : ℕ → List ℕ → List ℕ → List ℕ → Type 0) (none : NoneIsMissing o a.first.holds a.second.holds)
    (still : ((f : Files) → AreFiles f a.first.holds a.second.holds → IsTaken (generation_of e) e.fingerprint f → ⊥) → RestsBoth a b la lb) where
  judged_now : (why : UpdateError) → AreRefusedAs (generation_of e) e.fingerprint a.first.holds a.second.holds why → IsNow e o (answer.Hindered (hindrance.Judged why)) a b la lb
  judged_now why refused = ((none, refused), still (λ f are. refused_untaken (generation_of e) e.fingerprint a.first.holds a.second.holds f are why refused))

  hindered_ok : (x : Answer) (h : Hindrance) → Ok x ≡ answered (answer.Hindered h) → IsNow e o (answer.Hindered h) a b la lb → IsNow e o x a b la lb
  hindered_ok x h is now = subst (λ (y : Answer). IsNow e o y a b la lb) (sym (ok_is x (answer.Hindered h) is)) now
    where
      ok_is : (y z : Answer) → Ok y ≡ answered z → y ≡ z
      ok_is y z same = cc

  pub hindered_now : (why : FilesError) (x : Answer) → Ok x ≡ hindered_by why
      → ((w : UpdateError) → why ≡ files.Refused w → AreRefusedAs (generation_of e) e.fingerprint a.first.holds a.second.holds w)
      → (why ≡ files.TwoMeanings → HaveTwoMeanings a.first.holds a.second.holds)
      → ((n : ℕ) → why ≡ files.Spent n → AreSpent (generation_of e) e.fingerprint a.first.holds a.second.holds n)
      → IsNow e o x a b la lb
  hindered_now (files.Refused cause.NotKdcfile) x is refused two spent = hindered_ok x (hindrance.Judged cause.NotKdcfile) is (judged_now cause.NotKdcfile (refused cause.NotKdcfile refl))
  hindered_now (files.Refused (cause.OtherBlksize n)) x is refused two spent = hindered_ok x (hindrance.Judged (cause.OtherBlksize n)) is (judged_now (cause.OtherBlksize n) (refused (cause.OtherBlksize n) refl))
  hindered_now (files.Refused (cause.SmallerPool n)) x is refused two spent = hindered_ok x (hindrance.Judged (cause.SmallerPool n)) is (judged_now (cause.SmallerPool n) (refused (cause.SmallerPool n) refl))
  hindered_now (files.Refused (cause.TooManyGssbs n)) x is refused two spent = hindered_ok x (hindrance.Judged (cause.TooManyGssbs n)) is (judged_now (cause.TooManyGssbs n) (refused (cause.TooManyGssbs n) refl))
  hindered_now (files.Refused (cause.TooLarge n)) x is refused two spent = hindered_ok x (hindrance.Judged (cause.TooLarge n)) is (judged_now (cause.TooLarge n) (refused (cause.TooLarge n) refl))
  hindered_now (files.Refused cause.Memory) x is refused two spent = absurd cc
  hindered_now files.TwoMeanings x is refused two spent =
      hindered_ok x hindrance.TwoMeanings is ((none, two refl), still (λ f are taken. two_meanings_are_none a.first.holds a.second.holds (two refl) f are))
  hindered_now (files.Spent n) x is refused two spent =
      hindered_ok x hindrance.Spent is ((none, (n, spent n refl)), still (λ f are taken. spent_untaken (generation_of e) e.fingerprint a.first.holds a.second.holds f are n (spent n refl) taken))
  hindered_now files.Failed x is refused two spent = absurd cc
  hindered_now files.Memory x is refused two spent = absurd cc

pub hindered_failed : (why : FilesError) → Err device.Failed ≡ hindered_by why → why ≡ files.Failed
hindered_failed (files.Refused cause.NotKdcfile) is = absurd cc
hindered_failed (files.Refused (cause.OtherBlksize n)) is = absurd cc
hindered_failed (files.Refused (cause.SmallerPool n)) is = absurd cc
hindered_failed (files.Refused (cause.TooManyGssbs n)) is = absurd cc
hindered_failed (files.Refused (cause.TooLarge n)) is = absurd cc
hindered_failed (files.Refused cause.Memory) is = absurd cc
hindered_failed files.TwoMeanings is = absurd cc
hindered_failed (files.Spent n) is = absurd cc
hindered_failed files.Failed is = refl
hindered_failed files.Memory is = absurd cc

-- ---- what is told of rows that would go

module _ (e : Errand) (o : Options) (f : Files) (a b : Both) (la lb : ℕ → List ℕ → List ℕ → List ℕ → Type 0) (items : List Row) (are : items ≡ rows_of_loss e f) (carries drops x : Answer)
    (is_carries : (o.may_drop ≡ false → items ≡ []) → x ≡ carries) (is_drops : o.may_drop ≡ false → (items ≡ [] → ⊥) → x ≡ drops)
    (now_carries : LosesNone e o f → IsNow e o carries a b la lb) (now_drops : o.may_drop ≡ false → (items ≡ [] → ⊥) → IsNow e o drops a b la lb) where
  as_carries : (o.may_drop ≡ false → items ≡ []) → IsNow e o x a b la lb
  as_carries none = subst (λ (y : Answer). IsNow e o y a b la lb) (sym (is_carries none)) (now_carries (λ no. sym are ∙ none no))

  as_drops : o.may_drop ≡ false → (items ≡ [] → ⊥) → IsNow e o x a b la lb
  as_drops may some = subst (λ (y : Answer). IsNow e o y a b la lb) (sym (is_drops may some)) (now_drops may some)

  pub would_now : IsNow e o x a b la lb
  would_now = by o.may_drop refl items refl
    where
      by : (d : Bool) → o.may_drop ≡ d → (l : List Row) → items ≡ l → IsNow e o x a b la lb
      by true is l all = as_carries (λ no. absurd cc)
      by false is [] all = as_carries (λ no. all)
      by false is (r ∷ rest) all = as_drops is (λ none. absurd cc)

-- no call failed
pub quiet_alone : (a b : Both) → FailsAlone None a b → NoneRose a b
quiet_alone a b h = record { first_same = h.spared First (λ is. absurd cc); second_same = h.spared Second (λ is. absurd cc); line_same = h.line }

-- ---- after both files were attached, which stay as they are

module _ (e : Errand) (o : Options) (a b c : Both) (la lb lc : ℕ → List ℕ → List ℕ → List ℕ → Type 0) (rests : RestsBoth a b la lb) (quiet : NoneRose a b) where
  same_pair : (P : List ℕ → List ℕ → Type 0) → P b.first.holds b.second.holds → P a.first.holds a.second.holds
  same_pair P h = subst (λ (x : List ℕ). P x a.second.holds) rests.files.first_holds (subst (λ (x : List ℕ). P b.first.holds x) rests.files.second_holds h)

  pub pair_back : (P : List ℕ → List ℕ → Type 0) → P a.first.holds a.second.holds → P b.first.holds b.second.holds
  pair_back P h = subst (λ (x : List ℕ). P x b.second.holds) (sym rests.files.first_holds) (subst (λ (x : List ℕ). P a.first.holds x) (sym rests.files.second_holds) h)

  fails_since : (lost : Option Half) → FailsAlone lost b c → FailsAlone lost a c
  fails_since lost h = record { spared = spared; failed = failed; line = h.line ∙ quiet.line_same }
    where
      spared : (half : Half) → (lost ≡ Some half → ⊥) → SameFaultsAt half a c
      spared First not = h.spared First not ∙ quiet.first_same
      spared Second not = h.spared Second not ∙ quiet.second_same

      failed : (half : Half) → lost ≡ Some half → RoseAt half a c
      failed First is = subst (λ (n : ℕ). Rose n c.first.disk_faults) quiet.first_same (h.failed First is)
      failed Second is = subst (λ (n : ℕ). Rose n c.second.disk_faults) quiet.second_same (h.failed Second is)

  of_files : (x : Answer) (f : Files) → OfFiles e o x b.first.holds b.second.holds f → OfFiles e o x a.first.holds a.second.holds f
  of_files x f h = same_pair (λ p q. OfFiles e o x p q f) h

  rested : RestsBoth b c lb lc → RestsBoth a c la lc
  rested h = rests_then a b la lb rests c lc h

  pub now_since : (x : Answer) → IsNow e o x b c lb lc → IsNow e o x a c la lc
  now_since (answer.UpToDate lost) h = (h.0, of_files (answer.UpToDate lost) h.0 h.1, h.2, fails_since lost h.3)
  now_since answer.WouldKeep h = (h.0, of_files answer.WouldKeep h.0 h.1, rested h.2, none_rose_then a b c quiet h.3)
  now_since (answer.Carried gone lost) h = (h.0, of_files (answer.Carried gone lost) h.0 h.1, h.2, fails_since lost h.3)
  now_since (answer.WouldCarry gone rows) h = (h.0, of_files (answer.WouldCarry gone rows) h.0 h.1, rested h.2, none_rose_then a b c quiet h.3)
  now_since (answer.WouldDrop rows) h = (h.0, of_files (answer.WouldDrop rows) h.0 h.1, rested h.2, none_rose_then a b c quiet h.3)
  now_since (answer.Hindered why) h = (same_pair (λ p q. Hinders e o p q why) h.0, rested h.1)

  -- what a stop leaves
  pub stays_since : (f : Files) → BothRest a la → AreFiles f a.first.holds a.second.holds → StaysWithin (AreEither f (files_after (generation_of e) e.fingerprint f)) b c lb lc → StaysWithin (AreEither f (files_after (generation_of e) e.fingerprint f)) a c la lc
  stays_since f rest are h =
      stays_then a b la lb (AreEither f (files_after (generation_of e) e.fingerprint f)) c lc (rests_stay a b la lb (AreEither f (files_after (generation_of e) e.fingerprint f)) rest (inl are) rests) h

-- nothing was done
pub only_rested : (e : Errand) (a b : Both) (la lb : ℕ → List ℕ → List ℕ → List ℕ → Type 0) (f : Files) → RestsBoth a b la lb → BothRest a la → AreFiles f a.first.holds a.second.holds → StaysWithin (AreEither f (files_after (generation_of e) e.fingerprint f)) a b la lb
only_rested e a b la lb f rests rest are = rests_stay a b la lb (AreEither f (files_after (generation_of e) e.fingerprint f)) rest (inl are) rests

-- ---- a stop within the call

module _ (e : Errand) (o : Options) (a b : Both) (la lb : ℕ → List ℕ → List ℕ → List ℕ → Type 0) (rest : BothRest a la) (sent_now : (c d out : List ℕ) → la a.moment c d out → out ≡ a.sent) (f : Files) (are : AreFiles f a.first.holds a.second.holds)
    (stays : StaysWithin (AreEither f (files_after (generation_of e) e.fingerprint f)) a b la lb) where
  old_stop : (c d out : List ℕ) → la a.moment c d out → IsStopOfCarry e o f a c d out
  old_stop c d out left =
      let silent = sent_now c d out left in
      let there = subst (λ (x : List ℕ). la a.moment c d x) silent left in
      inl (silent, inl (subst (λ (x : List ℕ). AreFiles f x d) (sym (rest.first_rests c d there)) (subst (λ (x : List ℕ). AreFiles f a.first.holds x) (sym (rest.second_rests c d there)) are)))

  abbrev Within : List ℕ → List ℕ → List ℕ → Type 0
  Within c d out = (out ≡ a.sent) × AreEither f (files_after (generation_of e) e.fingerprint f) c d

  -- before a line is sent
  pub stop_before : (c d out : List ℕ) → lb a.moment c d out → IsStopOfCarry e o f a c d out
  stop_before c d out left = ⊎_elim (λ past. old_stop c d out past) (λ within. inl within) (stays.leaves.only a.moment c d out (omega arith) left)

  -- the files are as they were, at a stop now
  held : RestsBoth a b la lb → (c d : List ℕ) → lb b.moment c d b.sent → (c ≡ a.first.holds) × (d ≡ a.second.holds)
  held rests c d left =
      let first = rests.first_stop c (d, left) in
      let second = rests.second_stop d (c, left) in
      (rest.first_rests c first.0 first.1, rest.second_rests second.0 d second.1)

  same_as : (h : Files) → AreFiles h a.first.holds a.second.holds → h ≡ f
  same_as h other = one_meaning_of_files h f a.first.holds a.second.holds other are

  may_of : (x : Answer) (h : Files) → OfFiles e o x a.first.holds a.second.holds h → MayBecome e o f a.first.holds a.second.holds x
  may_of x h of = subst (λ (k : Files). MayBecome e o k a.first.holds a.second.holds x) (same_as h of.are) of.may

  says : (x : Answer) (c d out : List ℕ) → MayBecome e o f a.first.holds a.second.holds x → Keeps e f x a c d → (n : ℕ) → out ≡ a.sent ++ take n (answer_text (generation_of e) x) → IsStopOfCarry e o f a c d out
  says x c d out may keeps n front = inr (record { answer = x; may = may; keeps = keeps; front = (n, front) })

  -- while it is said
  pub stop_saying : (x : Answer) → IsNow e o x a b la lb → (c d out : List ℕ) → lb b.moment c d b.sent → (n : ℕ) → out ≡ a.sent ++ take n (answer_text (generation_of e) x) → IsStopOfCarry e o f a c d out
  stop_saying (answer.UpToDate lost) h c d out left n front =
      says (answer.UpToDate lost) c d out (may_of (answer.UpToDate lost) h.0 h.1) (subst (λ (k : Files). AreFiles k c d) (same_as h.0 h.1.are) (h.2.now c d left)) n front
  stop_saying answer.WouldKeep h c d out left n front = says answer.WouldKeep c d out (may_of answer.WouldKeep h.0 h.1) (held h.2 c d left) n front
  stop_saying (answer.Carried gone lost) h c d out left n front =
      says (answer.Carried gone lost) c d out (may_of (answer.Carried gone lost) h.0 h.1) (subst (λ (k : Files). Keeps e k (answer.Carried gone lost) a c d) (same_as h.0 h.1.are) (h.2.now c d left)) n front
  stop_saying (answer.WouldCarry gone rows) h c d out left n front = says (answer.WouldCarry gone rows) c d out (may_of (answer.WouldCarry gone rows) h.0 h.1) (held h.2 c d left) n front
  stop_saying (answer.WouldDrop rows) h c d out left n front = says (answer.WouldDrop rows) c d out (may_of (answer.WouldDrop rows) h.0 h.1) (held h.2 c d left) n front
  stop_saying (answer.Hindered why) h c d out left n front = says (answer.Hindered why) c d out h.0 (held h.1 c d left) n front

  pub stop_said : (x : Answer) → IsNow e o x a b la lb → (s : Both) (ls : ℕ → List ℕ → List ℕ → List ℕ → Type 0) → LeavesFrontBoth (answer_text (generation_of e) x) b s lb ls → (c d out : List ℕ) → ls a.moment c d out → IsStopOfCarry e o f a c d out
  stop_said x now s ls front c d out left =
      ⊎_elim
      (λ past. stop_before c d out past)
      (λ said. stop_saying x now c d out said.0 said.1.0 (subst (λ (l : List ℕ). out ≡ l ++ take said.1.0 (answer_text (generation_of e) x)) stays.sent said.1.1))
      (front.only a.moment c d out stays.leaves.later left)

-- ---- after it was said

module _ (b s : Both) (lb ls : ℕ → List ℕ → List ℕ → List ℕ → Type 0) (disks : (half : Half) → SameDisk half b s) (line : s.line_faults ≡ b.line_faults) (stop : LeavesSamePairs b s lb ls) where
  each_said : (i : Identity) (t : TableRows) (n : Option ℕ) (lost : Option Half) → EachStands i t n lost b → EachStands i t n lost s
  each_said i t None lost h = (subst (λ (x : Disk). StandsForTables i t x.holds) (sym (disks First)) h.0, subst (λ (x : Disk). IsNoCopy x.holds) (sym (disks Second)) h.1, h.2)
  each_said i t (Some n) lost h = λ half. ⊎_elim (λ gone. inl gone) (λ copy. inr (subst (λ (x : Disk). IsCopyOf i n (content_of_tables t) x.holds) (sym (disks half)) copy)) (h half)

  stand_said : (f : Files) (lost : Option Half) → StandNow f lost b lb → StandNow f lost s ls
  stand_said f lost h = record { now = λ c d left. h.now c d (stop c d left); halves = each_said f.identity f.tables f.sequence lost h.halves }

  module _ (a : Both) where
    fails_said : (lost : Option Half) → FailsAlone lost a b → FailsAlone lost a s
    fails_said lost h = record {
      spared = λ half not. ap (λ (x : Disk). x.disk_faults) (disks half) ∙ h.spared half not;
      failed = λ half is. subst (λ (x : Disk). Rose (disk_of half a).disk_faults x.disk_faults) (sym (disks half)) (h.failed half is);
      line = line ∙ h.line;
    }

    files_said : SameFiles a b → SameFiles a s
    files_said h = let said = same_files b s disks in record {
      first_holds = said.first_holds ∙ h.first_holds;
      second_holds = said.second_holds ∙ h.second_holds;
      first_put = said.first_put ∙ h.first_put;
      second_put = said.second_put ∙ h.second_put;
    }

    quiet_said : NoneRose a b → NoneRose a s
    quiet_said h = record { first_same = ap (λ (x : Disk). x.disk_faults) (disks First) ∙ h.first_same; second_same = ap (λ (x : Disk). x.disk_faults) (disks Second) ∙ h.second_same; line_same = line ∙ h.line_same }

    pub done_said : (e : Errand) (o : Options) (la : ℕ → List ℕ → List ℕ → List ℕ → Type 0) (x : Answer) → IsNow e o x a b la lb → IsDone e o x a s ls
    done_said e o la (answer.UpToDate lost) h = (h.0, h.1, stand_said h.0 lost h.2, fails_said lost h.3)
    done_said e o la answer.WouldKeep h = (h.0, h.1, files_said h.2.files, quiet_said h.3)
    done_said e o la (answer.Carried gone lost) h = (h.0, h.1, stand_said _ lost h.2, fails_said lost h.3)
    done_said e o la (answer.WouldCarry gone rows) h = (h.0, h.1, files_said h.2.files, quiet_said h.3)
    done_said e o la (answer.WouldDrop rows) h = (h.0, h.1, files_said h.2.files, quiet_said h.3)
    done_said e o la (answer.Hindered why) h = (h.0, files_said h.1.files)
