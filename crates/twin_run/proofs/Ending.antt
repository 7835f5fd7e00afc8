-- A run over two copies, up to each of its ends: a is the twin at the start, b after the line of the half that was mended,
-- e after the acts, and f after the line of the half that is lost.
use Rattle.std.proofs.Common.{◌≡◌, ℕ, List, [], ◌++◌, inl, inr, ⊎_elim, refl, sym, ap, subst, ◌∙◌, arith, append_assoc}
use Rattle.std.specs.Prelude.{IsTrue, Option, Some, None, true}
use Rattle.std.proofs.lemmas.List.{append-nil}
use Rattle.kd_device.specs.Device.{Rose}
use Rattle.kd_records.specs.Identity.{Identity}
use Rattle.kd_device.specs.Twin.{Both, Disk, disk_of}
use Rattle.kd_device.specs.declared.half.Half.{Half}
use Rattle.kd_device.specs.declared.half.Half.TheVariants.{First, Second}
use Rattle.kdcs_types.specs.Tables.{TableRows}
use Rattle.kdcs_types.specs.declared.act.Act.{Act}
use Rattle.abstract_monitor.specs.Trace.{bytes_of, tables_after}
use Rattle.laws_of_runs.specs.ListsLaws.{tables_both}
use Rattle.monitor_core.specs.CoreSteps.{durable_of}
use Rattle.monitor_core.specs.CoreValue.{CoreValue}
use Rattle.kdcfile_copies.specs.Beside.{SameDisk, file_of}
use Rattle.kdcfile_copies.specs.BesideLaws.{said_stays}
use Rattle.kdcfile_double.specs.Opening.{KeepsTablesTwice}
use Rattle.kdcfile_double.specs.CommitTwoLaws.{fine_still}
use Rattle.kdcfile_double.specs.Twice.{FineTwice, IsInUse, IsKeptTwice, IsOpen, IsTwice, RoseAt, SameFaultsAt, SideRests, Twice, content_of, identity_of, sequence_of}
use Rattle.device_acts.specs.Acting.{commits_nothing}
use Rattle.device_acts.specs.ActingLaws.{bytes_joined}
use Rattle.device_acts.specs.LinesLaws.{tables_same}
use Rattle.twin_run.specs.Parts.{DidTwice, PartTwice, SaysTwice}
use Rattle.twin_run.specs.Running.{FailsTwice, FrameTwice, IsCopyOfTables, IsLastCopy, IsRunningTwice, MayBeLost, RanTwice, WithinTwice, lines_for, lost_line, mended_line, with_copies}
use Rattle.twin_run.proofs.Parting.{beside, frame_of_lines, frame_then, lines_part, part_of_told, parts_then, rose_before, rose_behind, within_twice}
use Rattle.twin_run.proofs.Resting.{RestsTwice, rests_twice}

pub lines_alone : (line : Half → List ℕ) (half : Option Half) → commits_nothing (lines_for line half) ≡ true
lines_alone line None = refl
lines_alone line (Some half) = refl

none_lost : (s : Twice) (a b : Both) → MayBeLost s a b None
none_lost s a b half is = absurd cc

held : (half : Half) (b : Both) → file_of half b.first.holds b.second.holds ≡ (disk_of half b).holds
held First b = refl
held Second b = refl

-- what is known of the copies where a run begins
pub record Begins (i : Identity) (s : Twice) (t : TableRows) (a : Both) (la : ℕ → List ℕ → List ℕ → List ℕ → Type 0) : Type 0 where
  pub twice : IsTwice s
  pub is_open : IsOpen s
  pub keeps : KeepsTablesTwice i s t
  pub kept : IsTrue a.told → IsKeptTwice s a la

pub begins_lines : (s : Twice) (t : TableRows) (a : Both) (la : ℕ → List ℕ → List ℕ → List ℕ → Type 0) → IsTwice s → IsOpen s → KeepsTablesTwice (identity_of s) s t → (IsTrue a.told → IsKeptTwice s a la) → Begins (identity_of s) s t a la
begins_lines s t a la twice is_open keeps kept = record { twice = twice; is_open = is_open; keeps = keeps; kept = kept }

pub begins_run : (fingerprint : List ℕ) (c : CoreValue) (s : Twice) (a : Both) (la : ℕ → List ℕ → List ℕ → List ℕ → Type 0) → IsTwice s → IsOpen s → IsRunningTwice fingerprint c s → (IsTrue a.told → IsKeptTwice s a la) → Begins (identity_of s) s (durable_of c) a la
begins_run fingerprint c s a la twice is_open running kept = record {
  twice = twice;
  is_open = is_open;
  keeps = record { identity_is = refl; tables = running.keeps.tables; content = running.keeps.content };
  kept = kept;
}

-- a twin that tells its content goes on to, after lines
pub told_still : (lines : List Act) (a b : Both) (la lb : ℕ → List ℕ → List ℕ → List ℕ → Type 0) → SaysTwice lines a b la lb → IsTrue a.told → IsTrue b.told
told_still lines a b la lb says told = subst IsTrue (sym (frame_of_lines lines a b la lb says).told) told

-- and the copies stay kept, which they touch nothing of
pub kept_still : (s : Twice) (lines : List Act) (a b : Both) (la lb : ℕ → List ℕ → List ℕ → List ℕ → Type 0) → SaysTwice lines a b la lb → (IsTrue a.told → IsKeptTwice s a la) → IsTrue b.told → IsKeptTwice s b lb
kept_still s lines a b la lb says kept told_b =
    let told : IsTrue a.told = subst IsTrue (frame_of_lines lines a b la lb says).told told_b in
    let k = kept told in
    record {
      first_rests = λ c d left.
          subst (λ (x : Disk). SideRests First (identity_of s) (sequence_of s) (content_of s) s.first x.holds c) (sym (says.disks First)) (k.first_rests c d (says.stop told c d left));
      second_rests = λ c d left.
          subst (λ (x : Disk). SideRests Second (identity_of s) (sequence_of s) (content_of s) s.second x.holds d) (sym (says.disks Second)) (k.second_rests c d (says.stop told c d left));
    }

module _ (i : Identity) (s : Twice) (t : TableRows) (acts : List Act) (a b : Both) (la lb : ℕ → List ℕ → List ℕ → List ℕ → Type 0) (begins : Begins i s t a la) (half : Option Half) (half_is : half ≡ s.mended) (said : SaysTwice (lines_for mended_line half) a b la lb) where
  first : SaysTwice (lines_for mended_line s.mended) a b la lb
  first = subst (λ (o : Option Half). SaysTwice (lines_for mended_line o) a b la lb) half_is said

  pub first_part : PartTwice i s t (lines_for mended_line s.mended) a b la lb
  first_part =
      lines_part i s t (lines_for mended_line s.mended) a b la lb (lines_alone mended_line s.mended) first (λ told. rests_twice i s t a la begins.twice begins.keeps (begins.kept told) begins.is_open)

  -- it ended within the first line
  pub within_first : WithinTwice i s t acts a b la lb
  within_first = within_twice i s t acts (lines_for mended_line s.mended) (acts ++ []) None a b la lb refl (λ told. none_lost s a b) first_part

  module _ (line_sent : IsTrue a.told → b.sent ≡ a.sent ++ bytes_of (lines_for mended_line half)) (e : Both) (le : ℕ → List ℕ → List ℕ → List ℕ → Type 0) (second : PartTwice i s t acts b e lb le) where
    sent : IsTrue a.told → b.sent ≡ a.sent ++ bytes_of (lines_for mended_line s.mended)
    sent told = subst (λ (o : Option Half). b.sent ≡ a.sent ++ bytes_of (lines_for mended_line o)) half_is (line_sent told)

    pub two_parts : PartTwice i s t (lines_for mended_line s.mended ++ acts) a e la le
    two_parts =
        parts_then i s s t t (lines_for mended_line s.mended) acts a b e la lb le first_part (λ told. sym (tables_same (lines_for mended_line s.mended) t (lines_alone mended_line s.mended))) sent second (λ told side used whole. used)

    -- it ended within the acts
    pub within_second : WithinTwice i s t acts a e la le
    within_second = within_twice i s t acts (lines_for mended_line s.mended ++ acts) [] None a e la le (sym (append_assoc (lines_for mended_line s.mended) acts [])) (λ told. none_lost s a e) two_parts

    module _ (lost : Option Half) (did : IsTrue b.told → DidTwice i s t acts lost b e le) (f : Both) (lf : ℕ → List ℕ → List ℕ → List ℕ → Type 0) (last : SaysTwice (lines_for lost_line lost) e f le lf) where
      pub told_b : IsTrue a.told → IsTrue b.told
      told_b told = subst IsTrue (sym first_part.frame.told) told

      pub told_e : IsTrue a.told → IsTrue e.told
      told_e told = subst IsTrue (sym two_parts.frame.told) told

      pub last_frame : FrameTwice e f
      last_frame = frame_of_lines (lines_for lost_line lost) e f le lf last

      pub rests : (told : IsTrue a.told) → RestsTwice i (did (told_b told)).now (tables_after t acts) e le
      rests told = let d = did (told_b told) in rests_twice i d.now (tables_after t acts) e le d.twice d.keeps d.kept d.since.is_open

      third : (told : IsTrue a.told) → PartTwice i (did (told_b told)).now (tables_after t acts) (lines_for lost_line lost) e f le lf
      third told = lines_part i (did (told_b told)).now (tables_after t acts) (lines_for lost_line lost) e f le lf (lines_alone lost_line lost) last (λ now. rests told)

      acts_tables : tables_after t acts ≡ tables_after t (lines_for mended_line s.mended ++ acts)
      acts_tables = sym (tables_both t (lines_for mended_line s.mended) acts ∙ ap (λ (u : TableRows). tables_after u acts) (tables_same (lines_for mended_line s.mended) t (lines_alone mended_line s.mended)))

      pub acts_sent : IsTrue a.told → e.sent ≡ a.sent ++ bytes_of (lines_for mended_line s.mended ++ acts)
      acts_sent told =
          (did (told_b told)).sent
          ∙ ap (λ (l : List ℕ). l ++ bytes_of acts) (sent told)
          ∙ append_assoc a.sent (bytes_of (lines_for mended_line s.mended)) (bytes_of acts)
          ∙ ap (λ (l : List ℕ). a.sent ++ l) (sym (bytes_joined (lines_for mended_line s.mended) acts))

      pub in_use_still : (told : IsTrue a.told) (half : Half) → IsInUse half s → (RoseAt half a e → ⊥) → IsInUse half (did (told_b told)).now
      in_use_still told half used whole = ⊎_elim (λ u. u) (λ l. absurd (whole (rose_before half a b e first_part.frame l.1))) ((did (told_b told)).since.unused half used)

      all_parts : PartTwice i s t ((lines_for mended_line s.mended ++ acts) ++ lines_for lost_line lost) a f la lf
      all_parts =
          part_of_told i s t ((lines_for mended_line s.mended ++ acts) ++ lines_for lost_line lost) a f la lf (frame_then a e f two_parts.frame last_frame)
          (λ told.
          parts_then i s (did (told_b told)).now t (tables_after t acts) (lines_for mended_line s.mended ++ acts) (lines_for lost_line lost) a e f la le lf two_parts (λ now. acts_tables) acts_sent (third told) (λ now side used whole. in_use_still told side used whole))

      pub may_be_lost : IsTrue a.told → MayBeLost s a f lost
      may_be_lost told half is =
          let d = did (told_b told) in
          ⊎_elim (λ l. inl l) (λ rose. inr (rose_before half a b f first_part.frame (rose_behind half b e f last_frame rose))) (d.since.newly_lost half (sym d.lost_is ∙ is))

      -- it ended within the last line, or with it
      pub within_third : WithinTwice i s t acts a f la lf
      within_third =
          within_twice i s t acts ((lines_for mended_line s.mended ++ acts) ++ lines_for lost_line lost) [] lost a f la lf
          (sym (append_assoc (lines_for mended_line s.mended) acts (lines_for lost_line lost)) ∙ sym (append-nil ((lines_for mended_line s.mended ++ acts) ++ lines_for lost_line lost))) may_be_lost all_parts

      all_sent : IsTrue a.told → f.sent ≡ e.sent ++ bytes_of (lines_for lost_line lost) → f.sent ≡ a.sent ++ bytes_of (with_copies s.mended acts lost)
      all_sent told more =
          more
          ∙ ap (λ (l : List ℕ). l ++ bytes_of (lines_for lost_line lost)) (acts_sent told)
          ∙ append_assoc a.sent (bytes_of (lines_for mended_line s.mended ++ acts)) (bytes_of (lines_for lost_line lost))
          ∙ ap (λ (l : List ℕ). a.sent ++ l) (sym (bytes_joined (lines_for mended_line s.mended ++ acts) (lines_for lost_line lost)))
          ∙ ap (λ (l : List Act). a.sent ++ bytes_of l) (append_assoc (lines_for mended_line s.mended) acts (lines_for lost_line lost))

      module _ (told : IsTrue a.told) (now : IsTrue f.told → lf f.moment f.first.holds f.second.holds f.sent) where
        left_e : le e.moment f.first.holds f.second.holds e.sent
        left_e = last.stop (told_e told) f.first.holds f.second.holds (now (subst IsTrue (sym last_frame.told) (told_e told)))

        same_faults : (half : Half) → SameFaultsAt half b e → SameFaultsAt half a f
        same_faults half same = ap (λ (k : Disk). k.disk_faults) (last.disks half) ∙ same ∙ ap (λ (k : Disk). k.disk_faults) (first.disks half)

        last_copy : (half : Half) → IsInUse half (did (told_b told)).now → IsLastCopy i half (tables_after t acts) a f lf
        last_copy half used = record {
          same = same_faults half ((did (told_b told)).since.used half used).1;
          holds = subst (λ (l : List ℕ). IsCopyOfTables i (tables_after t acts) l) (held half f) ((rests told).alone half used (file_of half f.first.holds f.second.holds) (beside half le e.moment f.first.holds f.second.holds e.sent left_e)).0;
          at_rest = λ c left. ((rests told).alone half used c (said_stays half e f le lf (last.stop (told_e told)) c left)).1 ∙ sym (ap (λ (k : Disk). k.holds) (last.disks half));
        }

        -- all was done
        pub ran_twice : (IsTrue e.told → f.sent ≡ e.sent ++ bytes_of (lines_for lost_line lost)) → RanTwice i s t acts a f lf
        ran_twice more = record {
          lost = lost;
          lost_may = may_be_lost told;
          lost_stays = λ half is. (did (told_b told)).lost_is ∙ (did (told_b told)).since.lost_stays half is;
          sent = all_sent told (more (told_e told));
          counts = (rests told).counts f.first.holds f.second.holds left_e;
          counts_after = λ c d left. (rests told).counts c d (last.stop (told_e told) c d left);
          copies = λ half used. ⊎_elim (λ u. inr (last_copy half u)) (λ l. inl ((did (told_b told)).lost_is ∙ l.0)) ((did (told_b told)).since.unused half used);
        }

-- ---- failures

-- of the acts, after the first line
pub fails_second : (s : Twice) (lines : List Act) (a b e : Both) (la lb : ℕ → List ℕ → List ℕ → List ℕ → Type 0) → SaysTwice lines a b la lb → FailsTwice s b e → FailsTwice s a e
fails_second s lines a b e la lb says (inl rose) = let frame = frame_of_lines lines a b la lb says in inl (omega (arith, frame.line_faults, rose))
fails_second s lines a b e la lb says (inr gone) = inr (λ half used. rose_before half a b e (frame_of_lines lines a b la lb says) (gone half used))

-- of the last line
pub fails_third : (s : Twice) (lines : List Act) (a b e f : Both) (la lb : ℕ → List ℕ → List ℕ → List ℕ → Type 0) → SaysTwice lines a b la lb → FrameTwice b e → Rose e.line_faults f.line_faults → FailsTwice s a f
fails_third s lines a b e f la lb says more rose = let frame = frame_of_lines lines a b la lb says in inl (omega (arith, frame.line_faults, more.line_faults, rose))

-- ---- where nothing failed as a whole

said_spared : (half : Half) (a b : Both) → SameDisk half a b → (disk_of half b).disk_faults ≡ (disk_of half a).disk_faults
said_spared half a b same = ap (λ (k : Disk). k.disk_faults) same

module _ (s : Twice) (lines : List Act) (a b : Both) (la lb : ℕ → List ℕ → List ℕ → List ℕ → Type 0) (says : SaysTwice lines a b la lb) (line : b.line_faults ≡ a.line_faults) where
  -- of a line alone
  pub fine_line : IsOpen s → FineTwice s a b
  fine_line is_open = let still = fine_still s a is_open in record { spared = (still.spared.0, still.spared.1, said_spared still.spared.0 a b (says.disks still.spared.0)); line = inl line }

  -- of the acts, after the first line
  pub fine_second : (e : Both) → FineTwice s b e → FineTwice s a e
  fine_second e h = record {
    spared = (h.spared.0, h.spared.1, h.spared.2 ∙ said_spared h.spared.0 a b (says.disks h.spared.0));
    line = ⊎_elim (λ same. inl (same ∙ line)) (λ rose. inr (rose.0, rose.1, subst (λ (k : Disk). Rose k.disk_faults (disk_of rose.0 e).disk_faults) (says.disks rose.0) rose.2)) h.line;
  }

  -- of the last line, after the acts
  pub fine_third : (z : Both) → FineTwice s z a → FineTwice s z b
  fine_third z h = record {
    spared = (h.spared.0, h.spared.1, said_spared h.spared.0 a b (says.disks h.spared.0) ∙ h.spared.2);
    line = ⊎_elim (λ same. inl (line ∙ same)) (λ rose. inr (rose.0, rose.1, subst (λ (k : Disk). Rose (disk_of rose.0 z).disk_faults k.disk_faults) (sym (says.disks rose.0)) rose.2)) h.line;
  }
