-- How a call that backs up files ends.
use Rattle.std.specs.Prelude.{◌≡◌, ◌⊎◌, ◌≤◌, ◌+◌, ℕ, IsTrue, List, [], ◌∷◌, ◌++◌, Some, None, Result, Ok, Err}
use Rattle.std.proofs.Common.{inl, inr, ⊎_elim, refl, sym, ap, subst, ◌∙◌, arith}
use Rattle.std.proofs.lemmas.Bool.Decides.{nat_tests}
use Rattle.std.proofs.lemmas.Option.{same_Some}
use Rattle.kd_device.specs.Device.{Frame, Rose, SameFaults, SameNames, State}
use Rattle.kd_device.specs.Rest.{Rests}
use Rattle.kd_device.specs.declared.error.DeviceError.{DeviceError}
use Rattle.kd_device.specs.Room.{RoomState, SameRoom}
use Rattle.kd_device.specs.Twin.{Both, Disk, disk_of, half_state}
use Rattle.kd_device.specs.declared.half.Half.{Half}
use Rattle.kd_device.specs.declared.half.Half.TheVariants.{First, Second}
use Rattle.kdcfile_copies.specs.Beside.{SaidBoth, SameDisk}
use Rattle.kdcfile_copies.specs.CopiesLaws.{some_none}
use Rattle.kdcfile_double.specs.MakingLaws.{RestsBoth, none_rose_then, one_rose_then}
use Rattle.kdcfile_double.specs.Opening.{SameFiles}
use Rattle.kdcfile_double.specs.Twice.{FrameBoth, NoneRose}
use Rattle.kd_update.specs.declared.error.UpdateError.{UpdateError}
use Rattle.kd_update.specs.declared.error.UpdateError.TheVariants as cause
use Rattle.kdcfile_carry.specs.Doing.{RoseOnOne}
use Rattle.kdcfile_carry.specs.Files.{AreFiles, Files, HaveTwoMeanings}
use Rattle.kdcfile_carry.specs.Ways.{AreRefusedAs, AreSpent, MayCarry}
use Rattle.kdcfile_carry.specs.Writing.{backup_most}
use Rattle.kdcfile_carry.specs.declared.backing.BackUpError.{BackUpError}
use Rattle.kdcfile_carry.specs.declared.backing.BackUpError.TheVariants as errors
use Rattle.kdcfile_carry.specs.declared.error.FilesError.{FilesError}
use Rattle.kdcfile_carry.specs.declared.error.FilesError.TheVariants as files
use Rattle.refusals.specs.Lines.{refusal_line}
use Rattle.refusals.specs.Statuses.{IsOneOf, status_of}
use Rattle.refusals.specs.declared.error.Refusal.{Refusal}
use Rattle.call_parts.specs.Asking.{AreThere, Errand}
use Rattle.call_parts.specs.Beside.{SendsRefusalTwo}
use Rattle.call_parts.specs.Leaving.{MayAttach}
use Rattle.call_parts.specs.LeavingTwo.{FrameTwin, MayAttachTwo}
use Rattle.call_parts.specs.Words.{file_name}
use Rattle.call_parts.specs.declared.words.Word.TheVariants.{Update}
use Rattle.carry_cli.specs.BackingUp.{AnswersBackup, EndsBackup, EndsBackupOver, FineBackup, IsBackup, LeavesBackup, backup_line, backup_status}
use Rattle.carry_cli.specs.Carrying.{Hinders, NoneIsMissing, generation_of}
use Rattle.carry_cli.specs.Doing.{hindrance_of, judged_as, no_backup, no_backup_by}
use Rattle.carry_cli.specs.Promise.{AsksToCarry, EndsUsage, RefusesTexts}
use Rattle.carry_cli.specs.Words.{backup_of, plain}
use Rattle.carry_cli.specs.Writing.{BackupWrites}
use Rattle.carry_cli.specs.declared.answer.Hindrance.{Hindrance}
use Rattle.carry_cli.specs.declared.answer.Hindrance.TheVariants as hindrance
use Rattle.carry_cli.specs.declared.backing.BackupAnswer.{BackupAnswer}
use Rattle.carry_cli.specs.declared.backing.BackupAnswer.TheVariants as backup
use Rattle.carry_cli.proofs.Carries.{frame_none, same_none, said_files}
use Rattle.carry_cli.proofs.Ending.{names_then, none_said, said_frame, same_files, twin_then}
use Rattle.carry_cli.proofs.Over.{rests_since}

device_none : (s : State) → Frame s s
device_none s = record { told = refl; disk_faults = omega arith; line_faults = omega arith; moment = omega arith }

faults_none : (s : State) → SameFaults s s
faults_none s = record { disk = refl; line = refl }

-- ---- why there is no backup

-- an answer that is handed on
abbrev answered : BackupAnswer → Result BackupAnswer DeviceError
answered x = Ok x

same_answer : (x y : BackupAnswer) → Ok x ≡ answered y → x ≡ y
same_answer x y same = cc

judged_is : (w : UpdateError) (h : Hindrance) → judged_as w ≡ Ok h → h ≡ hindrance.Judged w
judged_is cause.NotKdcfile h is = cc
judged_is (cause.OtherBlksize n) h is = cc
judged_is (cause.SmallerPool n) h is = cc
judged_is (cause.TooManyGssbs n) h is = cc
judged_is (cause.TooLarge n) h is = cc
judged_is cause.Memory h is = absurd cc

module _ (e : Errand) (p q had : List ℕ) (s : State) (leaves : ℕ → List ℕ → List ℕ → Type 0) (none : NoneIsMissing plain p q) where
  -- the files are hindered
  why_hinders : (why : FilesError) (h : Hindrance) → hindrance_of why ≡ Ok h → ((w : UpdateError) → why ≡ files.Refused w → AreRefusedAs (generation_of e) e.fingerprint p q w) → (why ≡ files.TwoMeanings → HaveTwoMeanings p q)
      → ((n : ℕ) → why ≡ files.Spent n → AreSpent (generation_of e) e.fingerprint p q n) → Hinders e plain p q h
  why_hinders (files.Refused w) h is refused two spent = subst (λ (k : Hindrance). Hinders e plain p q k) (sym (judged_is w h is)) (none, refused w refl)
  why_hinders files.TwoMeanings h is refused two spent = subst (λ (k : Hindrance). Hinders e plain p q k) (two_is h is) (none, two refl)
    where
      two_is : (k : Hindrance) → hindrance_of files.TwoMeanings ≡ Ok k → hindrance.TwoMeanings ≡ k
      two_is k same = cc
  why_hinders (files.Spent n) h is refused two spent = subst (λ (k : Hindrance). Hinders e plain p q k) (spent_is h is) (none, (n, spent n refl))
    where
      spent_is : (k : Hindrance) → hindrance_of (files.Spent n) ≡ Ok k → hindrance.Spent ≡ k
      spent_is k same = cc
  why_hinders files.Failed h is refused two spent = absurd cc
  why_hinders files.Memory h is refused two spent = absurd cc

  hindered_is : (r : Result Hindrance DeviceError) (x : BackupAnswer) → Ok x ≡ no_backup_by r → ((h : Hindrance) → r ≡ Ok h → Hinders e plain p q h) → IsBackup e x p q had s leaves
  hindered_is (Ok h) x is hinders = subst (λ (y : BackupAnswer). IsBackup e y p q had s leaves) (sym (same_answer x (backup.Hindered h) is)) (hinders h refl)
  hindered_is (Err d) x is hinders = absurd cc

  -- what was answered, by the cause
  pub no_backup_is : (why : BackUpError) (x : BackupAnswer) → Ok x ≡ no_backup why
      → ((w : UpdateError) → why ≡ errors.Files (files.Refused w) → AreRefusedAs (generation_of e) e.fingerprint p q w)
      → (why ≡ errors.Files files.TwoMeanings → HaveTwoMeanings p q)
      → ((n : ℕ) → why ≡ errors.Files (files.Spent n) → AreSpent (generation_of e) e.fingerprint p q n)
      → (why ≡ errors.OtherTexts → (f : Files) × AreFiles f p q × MayCarry (generation_of e) e.fingerprint f)
      → (why ≡ errors.NotEmpty → had ≡ [] → ⊥)
      → (why ≡ errors.Differs → ⊥)
      → IsBackup e x p q had s leaves
  no_backup_is (errors.Files why) x is refused two spent other full differs =
      hindered_is (hindrance_of why) x is
      (λ h same. why_hinders why h same (λ w cause. refused w (ap (λ (k : FilesError). errors.Files k) cause)) (λ cause. two (ap (λ (k : FilesError). errors.Files k) cause)) (λ n cause. spent n (ap (λ (k : FilesError). errors.Files k) cause)))
  no_backup_is errors.OtherTexts x is refused two spent other full differs = subst (λ (y : BackupAnswer). IsBackup e y p q had s leaves) (sym (same_answer x backup.OtherTexts is)) (none, other refl)
  no_backup_is errors.NotEmpty x is refused two spent other full differs = subst (λ (y : BackupAnswer). IsBackup e y p q had s leaves) (sym (same_answer x backup.NotEmpty is)) (none, full refl)
  no_backup_is errors.Failed x is refused two spent other full differs = absurd cc
  no_backup_is errors.Differs x is refused two spent other full differs = absurd (differs refl)
  no_backup_is errors.Memory x is refused two spent other full differs = absurd cc

-- ---- what is left, call by call

pub file_then : (s t u : State) → Frame s t → Frame t u → Frame s u
file_then s t u h k = record { told = k.told ∙ h.told; disk_faults = omega (arith, h.disk_faults, k.disk_faults); line_faults = omega (arith, h.line_faults, k.line_faults); moment = omega (arith, h.moment, k.moment) }

twin_of : (b c : Both) → FrameBoth b c → FrameTwin b c
twin_of b c h = record { told = h.told; first_faults = h.first_faults; second_faults = h.second_faults; line_faults = h.line_faults; moment = h.moment }

module _ (base to : List ℕ) (a b : Both) (la lb : ℕ → List ℕ → List ℕ → List ℕ → Type 0) (s : State) (rests : IsTrue a.told → RestsBoth a b la lb) (names : IsTrue a.told → MayAttachTwo base a b) (frame : FrameTwin a b) where
  -- the files were looked at
  pub looked : LeavesBackup base to a b s s
  looked = record {
    files = λ told. (rests told).files;
    still = λ told some. refl;
    silent = λ told. refl;
    names = names;
    to_names = λ told. inl refl;
    frame = frame;
    to_frame = device_none s;
  }

  -- and the other one attached
  module _ (t : State) (l lt : ℕ → List ℕ → List ℕ → Type 0) (stays : IsTrue s.told → Rests s t l lt) (to_name : IsTrue s.told → MayAttach (file_name to) s t) (attaches : Frame s t) where
    pub attached : LeavesBackup base to a b s t
    attached = record {
      files = λ told. (rests told).files;
      still = λ told some. (stays told).holds;
      silent = λ told. (stays told).sent;
      names = names;
      to_names = to_name;
      frame = frame;
      to_frame = attaches;
    }

    told_b : IsTrue a.told → IsTrue b.told
    told_b told = subst IsTrue (sym frame.told) told

    told_t : IsTrue s.told → IsTrue t.told
    told_t told = subst IsTrue (sym attaches.told) told

    -- and written
    module _ (c : Both) (u : State) where
      module _ (same : IsTrue b.told → SameFiles b c) (still : IsTrue t.told → (t.holds ≡ [] → ⊥) → u.holds ≡ t.holds) (silent : IsTrue t.told → u.sent ≡ t.sent) (writes : FrameBoth b c) (then : Frame t u) (unnamed : SameNames t u) where
        pub written : LeavesBackup base to a c s u
        written = record {
          files = λ told. rests_since a b c (rests told).files (same (told_b told));
          still = λ told some. still (told_t told) (λ empty. some (sym (stays told).holds ∙ empty)) ∙ (stays told).holds;
          silent = λ told. silent (told_t told) ∙ (stays told).sent;
          names = λ told. names_then base a b c (names told) (both_names b c (told_b told) writes);
          to_names = λ told. ⊎_elim (λ none. inl (unnamed ∙ none)) (λ named. inr (unnamed ∙ named)) (to_name told);
          frame = twin_then a b c frame (twin_of b c writes);
          to_frame = file_then s t u attaches then;
        }
          where
            both_names : (b c : Both) → IsTrue b.told → FrameBoth b c → (half : Half) → (disk_of half c).names ≡ (disk_of half b).names
            both_names b c told h First = h.first_names told
            both_names b c told h Second = h.second_names told

        pub unsent : IsTrue a.told → c.sent ≡ a.sent
        unsent told = writes.sent (told_b told) ∙ (rests told).sent

      pub is_since : (e : Errand) (x : BackupAnswer) (leaves : ℕ → List ℕ → List ℕ → Type 0) → (IsTrue b.told → IsTrue t.told → NoneIsMissing plain b.first.holds b.second.holds → IsBackup e x b.first.holds b.second.holds t.holds u leaves)
          → (IsTrue a.told → NoneIsMissing plain a.first.holds a.second.holds) → IsTrue a.told → IsTrue s.told → IsBackup e x a.first.holds a.second.holds s.holds u leaves
      is_since e x leaves is none told told_to =
          let was = (rests told).files in
          subst (λ (l : List ℕ). IsBackup e x a.first.holds a.second.holds l u leaves) (stays told_to).holds
          (subst (λ (l : List ℕ). IsBackup e x a.first.holds l t.holds u leaves) was.second_holds
          (subst (λ (l : List ℕ). IsBackup e x l b.second.holds t.holds u leaves) was.first_holds
          (is (told_b told) (told_t told_to)
          (subst (λ (l : List ℕ). NoneIsMissing plain b.first.holds l) (sym was.second_holds) (subst (λ (l : List ℕ). NoneIsMissing plain l a.second.holds) (sym was.first_holds) (none told))))))

      pub writes_since : (e : Errand) → (IsTrue b.told → IsTrue t.told → BackupWrites e b t u) → IsTrue a.told → IsTrue s.told → BackupWrites e a s u
      writes_since e h told told_to = by (h (told_b told) (told_t told_to))
        where
          by : BackupWrites e b t u → BackupWrites e a s u
          by (inl none) = inl (none ∙ (stays told_to).put)
          by (inr w) =
              inr (
                sym (stays told_to).holds ∙ w.0,
                (
                  w.1.0,
                  subst (λ (l : List ℕ). AreFiles w.1.0 l a.second.holds) (rests told).files.first_holds (subst (λ (l : List ℕ). AreFiles w.1.0 b.first.holds l) (rests told).files.second_holds w.1.1),
                  w.1.2,
                  subst (λ (n : ℕ). u.put ≤ n + backup_most (generation_of e) e.fingerprint w.1.0.tables) (stays told_to).put w.1.3,
                ),
              )

      module _ (quiet : NoneRose a b) (fine : SameFaults s t) where
        pub rose_since : RoseOnOne b c ⊎ Rose t.disk_faults u.disk_faults → RoseOnOne a c ⊎ Rose s.disk_faults u.disk_faults
        rose_since rose = ⊎_elim (λ files. inl (one_rose_then a b c quiet files)) (λ other. inr (subst (λ (n : ℕ). Rose n u.disk_faults) fine.disk other)) rose

        pub fine_since : NoneRose b c × SameFaults t u → NoneRose a c × SameFaults s u
        fine_since none = (none_rose_then a b c quiet none.0, record { disk = none.1.disk ∙ fine.disk; line = none.1.line ∙ fine.line })

-- ---- over an application

status_of_answer : (x : BackupAnswer) → IsOneOf (0 ∷ 4 ∷ 5 ∷ 7 ∷ []) (backup_status x)
status_of_answer backup.Ready = refl
status_of_answer (backup.Hindered why) = refl
status_of_answer backup.OtherTexts = refl
status_of_answer backup.NotEmpty = refl
status_of_answer backup.Differs = refl

-- it is no fault
no_fault : (x : BackupAnswer) → backup_status x ≡ 5 → ⊥
no_fault backup.Ready is = absurd cc
no_fault (backup.Hindered why) is = absurd cc
no_fault backup.OtherTexts is = absurd cc
no_fault backup.NotEmpty is = absurd cc
no_fault backup.Differs is = absurd cc

module _ (e : Errand) (base to : List ℕ) (a b : Both) (s s' : State) (leaves : ℕ → List ℕ → List ℕ → Type 0) (all : LeavesBackup base to a b s s') (written : IsTrue a.told → IsTrue s.told → BackupWrites e a s s') where
  pub files_failed : RoseOnOne a b ⊎ Rose s.disk_faults s'.disk_faults → EndsBackupOver e base to a b s s' leaves 5
  files_failed rose = record {
    code = refl;
    done = λ is. absurd cc;
    device = λ is. ⊎_elim (λ files. inl (inr files)) (λ other. inr other) rose;
    fine = λ not. absurd (not refl);
    leaves_all = all;
    written = written;
  }

  module _ (none : NoneRose a b × SameFaults s s') where
    pub files_memory : EndsBackupOver e base to a b s s' leaves 7
    files_memory = record {
      code = refl;
      done = λ is. absurd cc;
      device = λ is. absurd cc;
      fine = λ not. record { files = none.0; to = none.1 };
      leaves_all = all;
      written = written;
    }

    -- and then this was to be said
    module _ (sent : IsTrue a.told → b.sent ≡ a.sent) (x : BackupAnswer) (is : IsTrue a.told → IsTrue s.told → IsBackup e x a.first.holds a.second.holds s.holds s' leaves) (line : List ℕ) (same : line ≡ backup_line x) (c : Both) (disks : (half : Half) → SameDisk half b c)
        (line_frame : Frame (half_state First b) (half_state First c)) where
      all_now : LeavesBackup base to a c s s'
      all_now = record {
        files = λ told. rests_since a b c (all.files told) (same_files b c disks);
        still = all.still;
        silent = all.silent;
        names = λ told. names_then base a b c (all.names told) (λ half. ap (λ (d : Disk). d.names) (disks half));
        to_names = all.to_names;
        frame = twin_then a b c all.frame (said_frame b c disks line_frame);
        to_frame = all.to_frame;
      }

      fine_now : c.line_faults ≡ b.line_faults → FineBackup a c s s'
      fine_now faults = let said = none_said b c disks faults in record {
        files = record { first_same = said.first_same ∙ none.0.first_same; second_same = said.second_same ∙ none.0.second_same; line_same = said.line_same ∙ none.0.line_same };
        to = none.1;
      }

      pub all_said : (status : ℕ) → status ≡ backup_status x → (IsTrue b.told → SaidBoth line b c) → c.line_faults ≡ b.line_faults → EndsBackupOver e base to a c s s' leaves status
      all_said status ends said faults = record {
        code = subst (λ (n : ℕ). IsOneOf (0 ∷ 4 ∷ 5 ∷ 7 ∷ []) n) (sym ends) (status_of_answer x);
        done = λ one told told_to. (
          x,
          is told told_to,
          ends,
          said (subst IsTrue (sym all.frame.told) told) ∙ ap (λ (l : List ℕ). l ++ line) (sent told) ∙ ap (λ (l : List ℕ). a.sent ++ l) same,
        );
        device = λ five. absurd (no_fault x (sym ends ∙ five));
        fine = λ not. fine_now faults;
        leaves_all = all_now;
        written = written;
      }

      pub line_failed : Rose b.line_faults c.line_faults → EndsBackupOver e base to a c s s' leaves 5
      line_failed rose = record {
        code = refl;
        done = λ one. absurd cc;
        device = λ five. inl (inl (subst (λ (n : ℕ). Rose n c.line_faults) none.0.line_same rose));
        fine = λ not. absurd (not refl);
        leaves_all = all_now;
        written = written;
      }

      pub line_memory : c.line_faults ≡ b.line_faults → EndsBackupOver e base to a c s s' leaves 7
      line_memory faults = record {
        code = refl;
        done = λ one. absurd cc;
        device = λ five. absurd cc;
        fine = λ not. fine_now faults;
        leaves_all = all_now;
        written = written;
      }

-- ---- from what the texts ask for

codes_over : (n : ℕ) → IsOneOf (0 ∷ 4 ∷ 5 ∷ 7 ∷ []) n → IsOneOf (0 ∷ 2 ∷ 4 ∷ 5 ∷ 6 ∷ 7 ∷ []) n
codes_over n h = grind (arith, nat_tests)

not_two : (n : ℕ) → IsOneOf (0 ∷ 4 ∷ 5 ∷ 7 ∷ []) n → n ≡ 2 → ⊥
not_two n h is = grind (arith, nat_tests)

not_six : (n : ℕ) → IsOneOf (0 ∷ 4 ∷ 5 ∷ 7 ∷ []) n → n ≡ 6 → ⊥
not_six n h is = grind (arith, nat_tests)

codes_refused : (n : ℕ) → IsOneOf (2 ∷ 5 ∷ 7 ∷ []) n → IsOneOf (0 ∷ 2 ∷ 4 ∷ 5 ∷ 6 ∷ 7 ∷ []) n
codes_refused n h = grind (arith, nat_tests)

refused_not : (n : ℕ) → IsOneOf (2 ∷ 5 ∷ 7 ∷ []) n → IsOneOf (0 ∷ 4 ∷ 6 ∷ []) n → ⊥
refused_not n h k = grind (arith, nat_tests)

codes_idle : (n : ℕ) → IsOneOf (6 ∷ 7 ∷ []) n → IsOneOf (0 ∷ 2 ∷ 4 ∷ 5 ∷ 6 ∷ 7 ∷ []) n
codes_idle n h = grind (arith, nat_tests)

idle_not : (n : ℕ) → IsOneOf (6 ∷ 7 ∷ []) n → IsOneOf (0 ∷ 2 ∷ 4 ∷ 5 ∷ []) n → ⊥
idle_not n h k = grind (arith, nat_tests)

within_idle : (n : ℕ) → IsOneOf (0 ∷ 4 ∷ []) n → IsOneOf (0 ∷ 2 ∷ 4 ∷ 5 ∷ []) n
within_idle n h = grind (arith, nat_tests)

within_refused : (n : ℕ) → IsOneOf (0 ∷ 4 ∷ []) n → IsOneOf (0 ∷ 4 ∷ 6 ∷ []) n
within_refused n h = grind (arith, nat_tests)

module _ (base to : List ℕ) (r r' : RoomState) (a : Both) (s : State) where
  -- the texts ask for this, over which the call ended
  pub over_work : (b : Both) (s' : State) (leaves : ℕ → List ℕ → List ℕ → Type 0) (e : Errand) (status : ℕ) → (IsTrue r.told → AsksToCarry base r e) → EndsBackupOver e base to a b s s' leaves status → EndsBackup base to r r' a b s s' leaves status
  over_work b s' leaves e status asks ends = record {
    code = codes_over status ends.code;
    done = λ one told known known_to. (e, asks told, ends.done one known known_to);
    refused = λ two. absurd (not_two status ends.code two);
    unread = λ six. absurd (not_six status ends.code six);
    sure = λ six. absurd (not_six status ends.code six);
    device = ends.device;
    fine = ends.fine;
    leaves_all = ends.leaves_all;
    written = λ told told_to. inr (e, asks, ends.written told told_to);
  }

  -- they are refused
  pub over_refused : (b : Both) (leaves : ℕ → List ℕ → List ℕ → Type 0) (why : Refusal) (status : ℕ) → status_of why ≡ 2 → (IsTrue r.told → RefusesTexts base r why) → SendsRefusalTwo (status_of why) (refusal_line why) a b status → EndsBackup base to r r' a b s s leaves status
  over_refused b leaves why status two refuses sends =
      let code : IsOneOf (2 ∷ 5 ∷ 7 ∷ []) status = subst (λ (n : ℕ). IsOneOf (n ∷ 5 ∷ 7 ∷ []) status) two sends.code in
      record {
        code = codes_refused status code;
        done = λ one. absurd (refused_not status code (within_refused status one));
        refused = λ is told. (why, refuses told, λ known. sends.said (is ∙ sym two) known);
        unread = λ six. absurd (refused_not status code (subst (λ (n : ℕ). IsOneOf (0 ∷ 4 ∷ 6 ∷ []) n) (sym six) refl));
        sure = λ six. absurd (refused_not status code (subst (λ (n : ℕ). IsOneOf (0 ∷ 4 ∷ 6 ∷ []) n) (sym six) refl));
        device = λ five. inl (inl (sends.failed five));
        fine = λ not. record {
          files = record { first_same = (sends.fine not First).disk; second_same = (sends.fine not Second).disk; line_same = (sends.fine not First).line };
          to = faults_none s;
        };
        leaves_all = record {
          files = λ told. said_files (refusal_line why) (status_of why) a b status sends told;
          still = λ told some. refl;
          silent = λ told. refl;
          names = λ told half. inl (sends.names half);
          to_names = λ told. inl refl;
          frame = sends.frame;
          to_frame = device_none s;
        };
        written = λ told told_to. inl refl;
      }

  -- they were not read
  pub over_idle : (leaves : ℕ → List ℕ → List ℕ → Type 0) (status : ℕ) → IsOneOf (6 ∷ 7 ∷ []) status → (status ≡ 6 → Rose r.faults r'.faults) → (status ≡ 6 → IsTrue r.sure → (d u c : List ℕ) → AreThere Update base r d u c → ⊥) → EndsBackup base to r r' a a s s leaves status
  over_idle leaves status code room sure = record {
    code = codes_idle status code;
    done = λ one. absurd (idle_not status code (within_idle status one));
    refused = λ two. absurd (idle_not status code (subst (λ (n : ℕ). IsOneOf (0 ∷ 2 ∷ 4 ∷ 5 ∷ []) n) (sym two) refl));
    unread = λ six. (room six, refl, refl);
    sure = sure;
    device = λ five. absurd (idle_not status code (subst (λ (n : ℕ). IsOneOf (0 ∷ 2 ∷ 4 ∷ 5 ∷ []) n) (sym five) refl));
    fine = λ not. record { files = record { first_same = refl; second_same = refl; line_same = refl }; to = faults_none s };
    leaves_all = record {
      files = λ told. same_none a;
      still = λ told some. refl;
      silent = λ told. refl;
      names = λ told half. inl refl;
      to_names = λ told. inl refl;
      frame = frame_none a;
      to_frame = device_none s;
    };
    written = λ told told_to. inl refl;
  }

-- ---- the call

module _ (words : List (List ℕ)) (a : Both) (s : State) where
  pub backup_call : (base to : List ℕ) (r r' : RoomState) (b : Both) (s' : State) (leaves : ℕ → List ℕ → List ℕ → Type 0) (status : ℕ) → backup_of words ≡ Some (base, to) → EndsBackup base to r r' a b s s' leaves status → SameRoom r r' → AnswersBackup words r r' a b s s' leaves status
  backup_call base to r r' b s' leaves status asked ends same = record {
    usage = λ none. absurd (some_none (sym asked ∙ none));
    backs_up = λ own own_to is. subst (λ (q : List ℕ × List ℕ). EndsBackup q.0 q.1 r r' a b s s' leaves status) (same_Some (base, to) (own, own_to) (sym asked ∙ is)) ends;
    same_room = same;
  }

  pub usage_call : (r : RoomState) (b : Both) (leaves : ℕ → List ℕ → List ℕ → Type 0) (status : ℕ) → backup_of words ≡ None → EndsUsage a b status → AnswersBackup words r r a b s s leaves status
  usage_call r b leaves status none ends = record {
    usage = λ is. (ends, refl);
    backs_up = λ base to is. absurd (some_none (sym is ∙ none));
    same_room = record { told = refl; texts = refl; sure = refl; faults = omega arith };
  }
