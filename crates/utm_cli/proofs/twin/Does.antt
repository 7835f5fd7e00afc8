-- What an errand over two copies did, from what its parts did.
use Rattle.std.proofs.Common.{◌≡◌, ◌⊎◌, inl, inr, ℕ, List, refl, sym, ap, subst, ◌∙◌, arith, ◌≤◌}
use Rattle.std.specs.Prelude.{IsTrue, Result, Ok, Err, OnOk, IsErrAnd, IsErrOf, Some}
use Rattle.std.proofs.lemmas.Result.{on_ok_weaker}
use Rattle.kd_base.specs.ToolsLaws.{err_is}
use Rattle.kd_device.specs.Device.{Frame, Rose}
use Rattle.kd_device.specs.declared.error.DeviceError.{DeviceError}
use Rattle.kd_device.specs.declared.error.DeviceError.TheVariants as device
use Rattle.kd_device.specs.Twin.{Both, Disk, half_state}
use Rattle.kd_device.specs.declared.half.Half.{Half}
use Rattle.kd_device.specs.declared.half.Half.TheVariants.{First, Second}
use Rattle.kdcs_types.specs.Tables.{TableRows}
use Rattle.kdcfile_double.specs.Mended.{BothRest}
use Rattle.kdcfile_double.specs.Opening.{IsRefusedTwo, IsSpent, IsTwoOfOtherTexts}
use Rattle.kdcfile_double.specs.Twice.{FineTwice, IsInUse, IsOpen, RoseAt, SameFaultsAt, Twice}
use Rattle.kdcfile_double.specs.declared.error.TwinOpenError.{TwinOpenError}
use Rattle.kdcfile_double.specs.declared.error.TwinOpenError.TheVariants as opening
use Rattle.kdcfile_copies.specs.Beside.{LeavesFrontBoth, SaidBoth, SameDisk}
use Rattle.twin_run.specs.Running.{FailsTwice, RanTwice, WithinTwice}
use Rattle.call_parts.specs.Asking.{Errand}
use Rattle.call_parts.specs.declared.words.Word.{Word}
use Rattle.refusals.specs.declared.error.FileRefusal.{FileRefusal}
use Rattle.refusals.specs.declared.error.FileRefusal.TheVariants as why
use Rattle.call_parts.specs.declared.error.CallError.{CallError}
use Rattle.call_parts.specs.declared.error.CallError.TheVariants.{Refused, Failed, Memory}
use Rattle.call_parts.specs.Causes.{of_device, of_twin}
use Rattle.call_parts.specs.TwoAnswersLaws.{started_two_once}
use Rattle.utm_cli.specs.DoingTwo.{KeepsTwo, RefusesTwo, StartsTwo, acts_two}
use Rattle.call_parts.specs.Opening.{OpensTwo, OpeningRefusesTwo, identity_of_two}
use Rattle.call_parts.specs.OpeningTwo.{LeavesOpeningTwo, StaysAsItIs}
use Rattle.utm_cli.specs.Parts.{LooksBytes}
use Rattle.utm_cli.specs.PartsTwo.{DoesTwo}
use Rattle.call_parts.specs.LeavingTwo.{AttachesBoth, FineTwo, FrameTwin, MayAttachTwo, SaidTwo, WasBehind}
use Rattle.utm_cli.specs.PromiseTwo.{AttachesTwoBy, IsFrontOfTwo, IsStopBy, MayAttachTwoBy, TellsTwo}
use Rattle.utm_cli.proofs.twin.ByWord.{SendsBeside, attached_then_none, kept_attaches, kept_ends, kept_is_no_trail, kept_may, kept_opens}
use Rattle.utm_cli.proofs.twin.ByWord.{kept_refuses, kept_starts, kept_stop, kept_told, none_attached, tells_two}
use Rattle.call_ends.specs.StopsLaws.{attached_then, faults_of_run, fails_of_run, fine_of_run, frames_then, ran_from, silent_stop, stop_of_run}
use Rattle.call_parts.proofs.HandedOn.{acts_failed, device_refuses_nothing, given, handed, no_cause, opening_failed, same_reason}
use Rattle.call_ends.specs.SaidLaws.{fine_then, same_frame}
use Rattle.utm_cli.proofs.twin.Stays.{front_after, said_after, same_files, stays_same, stays_stops}

-- ---- errors

-- what holds at all holds after a success
always : {T E : Type 0} (P : Type 0) (r : Result T E) → P → OnOk r P
always P (Ok x) h = h
always P (Err e) h = tt

no_success : {T E : Type 0} (P : Type 0) (Q : E → Type 0) (r : Result T E) → IsErrAnd r Q → OnOk r P
no_success P Q (Ok x) h = absurd h
no_success P Q (Err e) h = tt

-- the causes why two files are not opened
module _ (U : Type 0) (e : Errand) (a : Both) where
  pub why_not_opened : (x : TwinOpenError)
      → (IsErrOf {T = U} (Err x) opening.NotKdcfile → IsTrue a.told → IsRefusedTwo e.application.generation e.fingerprint a.first.holds a.second.holds)
      → ((stored : List ℕ) → IsErrOf {T = U} (Err x) (opening.OtherGeneration stored) → IsTrue a.told → IsTwoOfOtherTexts stored e.fingerprint a.first.holds a.second.holds)
      → ((n : ℕ) → IsErrOf {T = U} (Err x) (opening.Spent n) → IsTrue a.told → IsSpent e.application.generation e.fingerprint n a.first.holds a.second.holds)
      → (r : FileRefusal) → of_twin x ≡ Refused r → IsTrue a.told → OpeningRefusesTwo e a r
  why_not_opened opening.NotKdcfile refused other spent r is told = inl (sym (same_reason why.NotKdcfile r is), refused refl told)
  why_not_opened (opening.OtherGeneration stored) refused other spent r is told = inr (inl (stored, sym (same_reason (why.OtherGeneration stored) r is), other stored refl told))
  why_not_opened (opening.Spent n) refused other spent r is told = inr (inr (n, sym (same_reason why.SequenceSpent r is), spent n refl told))
  why_not_opened opening.Failed refused other spent r is told = absurd cc
  why_not_opened opening.Memory refused other spent r is told = absurd cc

-- ---- both files stay

-- files that were looked at and stay as they are, from a to m
pub record AreLookedAt (word : Word) (base : List ℕ) (a m : Both) (la lm : ℕ → List ℕ → List ℕ → List ℕ → Type 0) : Type 0 where
  pub frame : FrameTwin a m
  pub names : IsTrue a.told → MayAttachTwoBy word base a m
  pub still : IsTrue a.told → StaysAsItIs a m la lm
  pub silent : IsTrue a.told → (c d out : List ℕ) → la a.moment c d out → out ≡ a.sent
  pub earlier : IsTrue a.told → (c d out : List ℕ) → lm m.moment c d out → lm a.moment c d out

-- a line of which at least a front was said beside them, from m to b
pub record IsSaidBeside (text : List ℕ) (m b : Both) (lm lb : ℕ → List ℕ → List ℕ → List ℕ → Type 0) : Type 0 where
  pub disks : (half : Half) → SameDisk half m b
  pub frame : (half : Half) → Frame (half_state half m) (half_state half b)
  pub front : IsTrue m.told → LeavesFrontBoth text m b lm lb

-- of the twin itself
module _ {T : Type 0} (both : T → Both) (leaves : T → ℕ → List ℕ → List ℕ → List ℕ → Type 0) (sent_now : (x : T) (c d out : List ℕ) → IsTrue (both x).told → leaves x (both x).moment c d out → out ≡ (both x).sent)
    (earlier : (x : T) (t u : ℕ) (c d out : List ℕ) → IsTrue (both x).told → t ≤ u → leaves x u c d out → leaves x t c d out) (word : Word) (base : List ℕ) where
  pub looked_at : (x y : T) → FrameTwin (both x) (both y) → (IsTrue (both x).told → MayAttachTwoBy word base (both x) (both y)) → (IsTrue (both x).told → StaysAsItIs (both x) (both y) (leaves x) (leaves y)) → AreLookedAt word base (both x) (both y) (leaves x) (leaves y)
  looked_at x y frame names still = record {
    frame = frame;
    names = names;
    still = still;
    silent = λ told c d out left. sent_now x c d out told left;
    earlier = λ told c d out left. earlier y (both x).moment (both y).moment c d out (subst IsTrue (sym frame.told) told) frame.moment left;
  }

  -- nothing was looked at
  pub not_looked_at : (x : T) → AreLookedAt word base (both x) (both x) (leaves x) (leaves x)
  not_looked_at x = looked_at x x (same_frame (both x)) (λ told. none_attached word base (both x) (both x) (λ half. refl)) (λ told. stays_same (both x) (leaves x))

module _ (e : Errand) (base : List ℕ) (a m : Both) (la lm : ℕ → List ℕ → List ℕ → List ℕ → Type 0) (looked : AreLookedAt e.word base a m la lm) where
  -- there is an error
  pub stays_does : (r : Result Unit CallError) (y : CallError) → IsErrAnd r (λ z. z ≡ y) → ((q : FileRefusal) → y ≡ Refused q → TellsTwo e.word a.told → RefusesTwo e a q) → (y ≡ Failed → RoseAt First a m ⊎ RoseAt Second a m) → ((y ≡ Failed → ⊥) → FineTwo a m) → DoesTwo e base r a m la lm
  stays_does r y gives refused failed fine = record {
    done = no_success _ _ r gives;
    refused = λ q is tells. refused q (handed r y (Refused q) gives is) tells;
    failed = λ is. inr (failed (handed r y Failed gives is));
    failed_told = λ is told. inr (inr (failed (handed r y Failed gives is), (looked.still told).sent));
    fine = λ none. fine (λ is. none (given r y Failed gives is));
    still = λ told none. looked.still told;
    left = λ told keeps. (looked.still told).files;
    any_moment = λ told t starts. stays_stops e t a m la lm (looked.still told) (looked.silent told) starts;
    bytes = no_success _ _ r gives;
    names = looked.names;
    named = no_success _ _ r gives;
    frame = looked.frame;
  }

  -- nothing is done, for this reason
  pub refused_does : (why : FileRefusal) → RefusesTwo e a why → FineTwo a m → DoesTwo e base (Err (Refused why)) a m la lm
  refused_does why refuses fine = stays_does (Err (Refused why)) (Refused why) refl (λ q same tells. subst (RefusesTwo e a) (same_reason why q same) refuses) (λ same. absurd cc) (λ none. fine)

  -- memory ran out
  pub memory_does : (r : Result Unit CallError) → IsErrAnd r (λ z. z ≡ Memory) → FineTwo a m → DoesTwo e base r a m la lm
  memory_does r gives fine = stays_does r Memory gives (λ q is tells. absurd cc) (λ is. absurd cc) (λ none. fine)

  -- they are not opened
  pub unlooked_does : (U : Type 0) (x : TwinOpenError) (r : Result Unit CallError) → IsErrAnd r (λ z. z ≡ of_twin x)
      → (IsErrOf {T = U} (Err x) opening.NotKdcfile → IsTrue a.told → IsRefusedTwo e.application.generation e.fingerprint a.first.holds a.second.holds)
      → ((stored : List ℕ) → IsErrOf {T = U} (Err x) (opening.OtherGeneration stored) → IsTrue a.told → IsTwoOfOtherTexts stored e.fingerprint a.first.holds a.second.holds)
      → ((n : ℕ) → IsErrOf {T = U} (Err x) (opening.Spent n) → IsTrue a.told → IsSpent e.application.generation e.fingerprint n a.first.holds a.second.holds)
      → (IsErrOf {T = U} (Err x) opening.Failed → RoseAt First a m ⊎ RoseAt Second a m) → ((IsErrOf {T = U} (Err x) opening.Failed → ⊥) → FineTwo a m)
      → ((q : FileRefusal) → OpeningRefusesTwo e a q → RefusesTwo e a q) → (TellsTwo e.word a.told → IsTrue a.told) → DoesTwo e base r a m la lm
  unlooked_does U x r gives refused other spent failed fine refuses told_of =
      stays_does r (of_twin x) gives (λ q is tells. refuses q (why_not_opened U e a x refused other spent q is (told_of tells))) (λ is. failed (opening_failed U x is)) (λ none. fine (λ is. none (ap of_twin (err_is U x opening.Failed is))))

  -- a line was said beside them
  module _ (b : Both) (lb : ℕ → List ℕ → List ℕ → List ℕ → Type 0) (Starts : Both → TableRows → Type 0) (line : TableRows → List ℕ) (sends : SendsBeside e lb Starts line) (t : TableRows) (from : TellsTwo e.word a.told → Starts a t) (once : IsTrue a.told → (u : TableRows) → Starts a u → line t ≡ line u) (text : List ℕ) (is_line : text ≡ line t)
      (said : IsSaidBeside text m b lm lb) (fine : FineTwo a m) where
    line_later : Rose m.line_faults b.line_faults → Rose a.line_faults b.line_faults
    line_later h = omega (arith, looked.frame.line_faults, h)

    told_m : IsTrue a.told → IsTrue m.told
    told_m told = subst IsTrue (sym looked.frame.told) told

    frame_b : FrameTwin a b
    frame_b = record {
      told = (said.frame First).told ∙ looked.frame.told;
      first_faults = let h = (said.frame First).disk_faults in omega (arith, looked.frame.first_faults, h);
      second_faults = let h = (said.frame Second).disk_faults in omega (arith, looked.frame.second_faults, h);
      line_faults = let h = (said.frame First).line_faults in omega (arith, looked.frame.line_faults, h);
      moment = let h = (said.frame First).moment in omega (arith, looked.frame.moment, h);
    }

    tells : IsTrue a.told → TellsTwo e.word a.told
    tells told = tells_two e.word a.told told

    pub said_does : (r : Result Unit CallError) → OnOk r (IsTrue m.told → SaidBoth text m b) → (IsErrOf r Failed → Rose m.line_faults b.line_faults) → ((IsErrOf r Failed → ⊥) → b.line_faults ≡ m.line_faults) → ((q : FileRefusal) → IsErrOf r (Refused q) → ⊥) → OnOk r (IsTrue a.told → AttachesTwoBy e.word base a b) → OnOk r (IsTrue a.told → (u : TableRows) → StartsTwo e a u → LooksBytes e u) → DoesTwo e base r a b la lb
    said_does r ok failed went none named bytes = record {
      done = on_ok_weaker r (λ h so. (t, sends.starts a t (from so), λ told. sends.ends t a b (subst (λ (l : List ℕ). SaidTwo l a b) is_line (said_after text a m b la lm lb (looked.still told) said.disks (h (told_m told)))))) ok;
      refused = λ q is so. absurd (none q is);
      failed = λ is. inl (line_later (failed is));
      failed_told = λ is told. inl (line_later (failed is));
      fine = λ none. fine_then a m b fine (λ half. record { disk = ap (λ (x : Disk). x.disk_faults) (said.disks half); line = went none });
      still = λ told no. absurd (no t (sends.starts a t (from (tells told))));
      left = λ told keeps. same_files text a m b la lm lb (looked.still told) said.disks;
      any_moment = λ told u starts rest c d out left.
          sends.stop u a b c d out
          (subst (λ (l : List ℕ). IsFrontOfTwo l a c d out) (is_line ∙ once told u (sends.from a u starts)) (front_after text a m b la lm lb (looked.still told) said.disks (said.front (told_m told)) (looked.earlier told) rest (looked.silent told) c d out left));
      bytes = bytes;
      names = λ told. attached_then_none e.word base a m b (looked.names told) (λ half. ap (λ (x : Disk). x.names) (said.disks half));
      named = named;
      frame = frame_b;
    }

    -- or could not be said
    pub unsaid_does : (U : Type 0) (x : DeviceError) (r : Result Unit CallError) → IsErrAnd r (λ z. z ≡ of_device x) → (IsErrOf {T = U} (Err x) device.Failed → Rose m.line_faults b.line_faults) → ((IsErrOf {T = U} (Err x) device.Failed → ⊥) → b.line_faults ≡ m.line_faults) → DoesTwo e base r a b la lb
    unsaid_does U x r gives failed went =
        said_does r (no_success _ _ r gives) (λ is. failed (acts_failed U x r gives is)) (λ none. went (no_cause U of_device x device.Failed r gives none)) (λ q is. device_refuses_nothing x q (handed r (of_device x) (Refused q) gives is)) (no_success _ _ r gives) (no_success _ _ r gives)

-- both were attached before the line
pub attached_before : (base : List ℕ) (a m b : Both) → ((half : Half) → SameDisk half m b) → AttachesBoth base a m → AttachesBoth base a b
attached_before base a m b disks h half = ap (λ (x : Disk). x.names) (disks half) ∙ h half

-- tables from which a call goes on are one
pub opened_once : (e : Errand) (a : Both) (t u : TableRows) → OpensTwo e a t → OpensTwo e a u → t ≡ u
opened_once e a t u h k = started_two_once e.application.generation e.fingerprint a.first.holds a.second.holds t u h k

-- ---- copies that are kept

module _ (e : Errand) (keeps : KeepsTwo e.word) (base : List ℕ) (a m : Both) (la lm : ℕ → List ℕ → List ℕ → List ℕ → Type 0) (frame : FrameTwin a m) (sent : IsTrue a.told → m.sent ≡ a.sent)
    (any : IsTrue a.told → BothRest a la → (t : TableRows) → OpensTwo e a t → LeavesOpeningTwo (identity_of_two e) t a m lm) where
  -- they are not opened
  pub unopened_does : (r : Result Unit CallError) (y : CallError) → IsErrAnd r (λ z. z ≡ y) → ((q : FileRefusal) → y ≡ Refused q → IsTrue a.told → OpeningRefusesTwo e a q) → (y ≡ Failed → RoseAt First a m ⊎ RoseAt Second a m) → ((y ≡ Failed → ⊥) → FineTwo a m)
      → (IsTrue a.told → ((t : TableRows) → OpensTwo e a t → ⊥) → StaysAsItIs a m la lm) → (IsTrue a.told → MayAttachTwo base a m) → DoesTwo e base r a m la lm
  unopened_does r y gives refused failed went still names = record {
    done = no_success _ _ r gives;
    refused = λ q is tells. kept_refuses e keeps a q (refused q (handed r y (Refused q) gives is) (kept_told e keeps a.told tells));
    failed = λ is. inr (failed (handed r y Failed gives is));
    failed_told = λ is told. inr (inr (failed (handed r y Failed gives is), sent told));
    fine = λ none. went (λ is. none (given r y Failed gives is));
    still = λ told none. still told (λ t opens. none t (kept_starts e keeps a t opens));
    left = λ told no. absurd (no keeps);
    any_moment = λ told t starts rest c d out left.
        let o = any told rest t (kept_opens e keeps a t starts) c d out left in
        kept_stop e keeps t (acts_two e t) a m c d out (silent_stop (identity_of_two e) t (acts_two e t) a m c d out o.0 o.1);
    bytes = no_success _ _ r gives;
    names = λ told. kept_may e keeps base a m (names told);
    named = no_success _ _ r gives;
    frame = frame;
  }

  -- by a cause of the opening
  pub unopened_as : (U : Type 0) (x : TwinOpenError) (r : Result Unit CallError) → IsErrAnd r (λ z. z ≡ of_twin x)
      → (IsErrOf {T = U} (Err x) opening.NotKdcfile → IsTrue a.told → IsRefusedTwo e.application.generation e.fingerprint a.first.holds a.second.holds)
      → ((stored : List ℕ) → IsErrOf {T = U} (Err x) (opening.OtherGeneration stored) → IsTrue a.told → IsTwoOfOtherTexts stored e.fingerprint a.first.holds a.second.holds)
      → ((n : ℕ) → IsErrOf {T = U} (Err x) (opening.Spent n) → IsTrue a.told → IsSpent e.application.generation e.fingerprint n a.first.holds a.second.holds)
      → (IsErrOf {T = U} (Err x) opening.Failed → RoseAt First a m ⊎ RoseAt Second a m) → ((IsErrOf {T = U} (Err x) opening.Failed → ⊥) → FineTwo a m)
      → (IsTrue a.told → ((t : TableRows) → OpensTwo e a t → ⊥) → StaysAsItIs a m la lm) → (IsTrue a.told → MayAttachTwo base a m) → DoesTwo e base r a m la lm
  unopened_as U x r gives refused other spent failed went still names =
      unopened_does r (of_twin x) gives (λ q is told. why_not_opened U e a x refused other spent q is told) (λ is. failed (opening_failed U x is)) (λ none. went (λ is. none (ap of_twin (err_is U x opening.Failed is)))) still names

  -- they are opened, and the errand's acts run over them
  module _ (s : Twice) (t : TableRows) (some : IsOpen s) (opens : IsTrue a.told → OpensTwo e a t) (used : IsTrue a.told → (half : Half) → IsInUse half s ⊎ (s.lost ≡ Some half)) (opened : FineTwo a m) (fine : (half : Half) → IsInUse half s → SameFaultsAt half a m)
      (lost : (half : Half) → s.lost ≡ Some half → RoseAt half a m) (mended : IsTrue a.told → (half : Half) → s.mended ≡ Some half → WasBehind half a) (mended_all : IsTrue a.told → (half : Half) → WasBehind half a → (s.mended ≡ Some half) ⊎ (s.lost ≡ Some half)) (attaches : IsTrue a.told → AttachesBoth base a m) (b : Both) (lb : ℕ → List ℕ → List ℕ → List ℕ → Type 0) where
    pub kept_does : (r : Result Unit CallError) → WithinTwice (identity_of_two e) s t (acts_two e t) m b lm lb → OnOk r (IsTrue m.told → RanTwice (identity_of_two e) s t (acts_two e t) m b lb) → (IsErrOf r Failed → FailsTwice s m b) → ((IsErrOf r Failed → ⊥) → FineTwice s m b) → ((q : FileRefusal) → IsErrOf r (Refused q) → IsTrue m.told → ⊥) → DoesTwo e base r a b la lb
    kept_does r within ran failed went refused = record {
      done = on_ok_weaker r (λ h tells. (t, kept_starts e keeps a t (opens (kept_told e keeps a.told tells)), λ told. kept_ends e keeps t (acts_two e t) a b lb (ran_from (identity_of_two e) s t (acts_two e t) a m b frame within.frame lost (used told) (sent told) (mended told) lb fine (mended_all told) (h (told_m told))))) ran;
      refused = λ q is tells. absurd (refused q is (told_m (kept_told e keeps a.told tells)));
      failed = λ is. faults_of_run (identity_of_two e) s t (acts_two e t) a m b frame within.frame lost some (failed is);
      failed_told = λ is told. fails_of_run (identity_of_two e) s t (acts_two e t) a m b frame within.frame lost (used told) (failed is);
      fine = λ none. fine_of_run (identity_of_two e) s t (acts_two e t) a m b frame within.frame lost opened fine (went none);
      still = λ told none. absurd (none t (kept_starts e keeps a t (opens told)));
      left = λ told no. absurd (no keeps);
      any_moment = λ told u starts rest c d out left.
          let same : t ≡ u = opened_once e a t u (opens told) (kept_opens e keeps a u starts) in
          subst (λ (v : TableRows). IsStopBy e.word (identity_of_two e) v (acts_two e v) a b c d out) same
          (kept_stop e keeps t (acts_two e t) a b c d out (stop_of_run (identity_of_two e) s t (acts_two e t) a m b frame within.frame lost (used told) (sent told) (mended told) la lm lb (told_m told) (any told rest t (opens told)) within c d out left));
      bytes = always _ r (λ told u starts is. absurd (kept_is_no_trail e keeps is));
      names = λ told. kept_may e keeps base a b (λ half. inr (attached told half));
      named = always _ r (λ told. kept_attaches e keeps base a b (attached told));
      frame = frames_then a m b frame within.frame;
    }
      where
        told_m : IsTrue a.told → IsTrue m.told
        told_m told = subst IsTrue (sym frame.told) told

        attached : IsTrue a.told → AttachesBoth base a b
        attached told = attached_then base a m b within.frame (told_m told) (attaches told)
