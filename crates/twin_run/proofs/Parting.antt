-- Parts of a run over two copies, one after another.
use Rattle.std.proofs.Common.{◌≡◌, ℕ, List, [], ◌++◌, inl, inr, ⊎_elim, refl, sym, ap, subst, ◌∙◌, arith, append_assoc}
use Rattle.std.specs.Prelude.{IsTrue, Option, true}
use Rattle.std.proofs.lemmas.List.{append-nil}
use Rattle.kd_device.specs.Device.{LeavesOnly}
use Rattle.kd_device.specs.TimeLaws.{leaves_then, leaves_weaker}
use Rattle.kd_records.specs.Identity.{Identity}
use Rattle.kd_device.specs.Twin.{Both, Disk, half_leaves, half_state}
use Rattle.kd_device.specs.declared.half.Half.{Half}
use Rattle.kd_device.specs.declared.half.Half.TheVariants.{First, Second}
use Rattle.kdcs_types.specs.Tables.{TableRows}
use Rattle.kdcs_types.specs.declared.act.Act.{Act}
use Rattle.abstract_monitor.specs.Bytes.{Bytes}
use Rattle.abstract_monitor.specs.Trace.{bytes_of, tables_after}
use Rattle.laws_of_runs.specs.ListsLaws.{tables_both}
use Rattle.laws_of_states.specs.Cut.{SentBy}
use Rattle.kdcfile_layout.specs.Layout.{fresh}
use Rattle.kdcfile_copies.specs.Beside.{LeavesPairs, file_of}
use Rattle.kdcfile_copies.specs.BesideLaws.{pairs_then, pairs_weaker}
use Rattle.kdcfile_double.specs.Twice.{IsInUse, RoseAt, Twice}
use Rattle.device_acts.specs.Acting.{commits_nothing}
use Rattle.device_acts.specs.ActingLaws.{Goes, cut_of_part}
use Rattle.device_acts.specs.LinesLaws.{lines_cut}
use Rattle.device_run.specs.Running.{SendsPart}
use Rattle.twin_run.specs.Parts.{IsCutOfTables, PartTwice, SaysTwice}
use Rattle.twin_run.specs.Running.{CountsAs, FrameTwice, IsCopyOfTables, IsCutTwice, MayBeLost, WithinTwice, with_copies}
use Rattle.twin_run.proofs.Resting.{RestsTwice}

tables_none : (t : TableRows) → tables_after t [] ≡ t
unfolding tables_after
tables_none t = refl

tables_go : Goes tables_after
tables_go = record { none = tables_none; joined = tables_both }

-- ---- cuts

-- more acts are left
more_left : (done left rest : List Act) (since : Bytes) → SentBy done left since → SentBy done (left ++ rest) since
more_left done left rest since (inl all) = inl all
more_left done left rest since (inr part) = inr (part.0, part.1 ++ rest, ap (λ (l : List Act). l ++ rest) part.2, part.3, part.4)

module _ (keeps : TableRows → Type 0) (t : TableRows) where
  pub cut_of_front : (p q : List Act) (sent out : Bytes) → IsCutOfTables keeps t p sent out → IsCutOfTables keeps t (p ++ q) sent out
  cut_of_front p q sent out h = record {
    since = h.since;
    more = h.more;
    done = h.done;
    left = h.left ++ q;
    whole = ap (λ (l : List Act). l ++ q) h.whole ∙ append_assoc h.done h.left q;
    file = h.file;
    bytes = more_left h.done h.left q h.since h.bytes;
  }

  pub cut_of_back : (p q : List Act) (u : TableRows) (sent now out : Bytes) → u ≡ tables_after t p → now ≡ sent ++ bytes_of p → IsCutOfTables keeps u q now out → IsCutOfTables keeps t (p ++ q) sent out
  cut_of_back p q u sent now out reached is h =
      subst (λ (l : List Act). IsCutOfTables keeps t (p ++ l) sent out) (append-nil q)
      (cut_of_part tables_after tables_go (λ v image. keeps v) t p q [] sent [] out (subst (λ (v : TableRows). IsCutOfTables keeps v q (sent ++ bytes_of p) out) reached (subst (λ (l : Bytes). IsCutOfTables keeps u q l out) is h)))

  -- of lines, which make nothing
  pub cut_of_lines : (lines : List Act) → commits_nothing lines ≡ true → keeps t → (sent out : Bytes) → SendsPart lines sent out → IsCutOfTables keeps t lines sent out
  cut_of_lines lines none now sent out h =
      lines_cut (λ x image. keeps t) fresh (λ u image. keeps u) t (λ image k. k) lines none sent [] out
      (record { since = h.since; more = h.more; done = h.done; left = h.left; whole = h.whole; file = now; bytes = h.bytes })

-- ---- one half of both

pub half_of_pairs : (half : Half) (a b : Both) (la lb : ℕ → List ℕ → List ℕ → List ℕ → Type 0) (P : List ℕ → List ℕ → List ℕ → Type 0) (Q : List ℕ → List ℕ → Type 0) → LeavesPairs a b la lb P → ((c : List ℕ) → (d out : List ℕ) → P c d out → Q (file_of half c d) out)
    → LeavesOnly (half_state half a) (half_state half b) (half_leaves half la) (half_leaves half lb) Q
half_of_pairs First a b la lb P Q h f = record { later = h.later; only = λ t c out le left. ⊎_elim (λ l. inl (left.0, l)) (λ p. inr (f c left.0 out p)) (h.only t c left.0 out le left.1) }
half_of_pairs Second a b la lb P Q h f = record { later = h.later; only = λ t d out le left. ⊎_elim (λ l. inl (left.0, l)) (λ p. inr (f left.0 d out p)) (h.only t left.0 d out le left.1) }

-- the other file beside that of a half
pub beside : (half : Half) (lb : ℕ → List ℕ → List ℕ → List ℕ → Type 0) (t : ℕ) (c d out : List ℕ) → lb t c d out → half_leaves half lb t (file_of half c d) out
beside First lb t c d out left = (d, left)
beside Second lb t c d out left = (c, left)

-- ---- frames

pub frame_then : (a b e : Both) → FrameTwice a b → FrameTwice b e → FrameTwice a e
frame_then a b e h k = record {
  told = k.told ∙ h.told;
  first_faults = omega (arith, h.first_faults, k.first_faults);
  second_faults = omega (arith, h.second_faults, k.second_faults);
  line_faults = omega (arith, h.line_faults, k.line_faults);
  moment = omega (arith, h.moment, k.moment);
  first_names = λ told. k.first_names (subst IsTrue (sym h.told) told) ∙ h.first_names told;
  second_names = λ told. k.second_names (subst IsTrue (sym h.told) told) ∙ h.second_names told;
}

pub frame_of_lines : (lines : List Act) (a b : Both) (la lb : ℕ → List ℕ → List ℕ → List ℕ → Type 0) → SaysTwice lines a b la lb → FrameTwice a b
frame_of_lines lines a b la lb says = record {
  told = (says.frame First).told;
  first_faults = (says.frame First).disk_faults;
  second_faults = (says.frame Second).disk_faults;
  line_faults = (says.frame First).line_faults;
  moment = (says.frame First).moment;
  first_names = λ told. ap (λ (k : Disk). k.names) (says.disks First);
  second_names = λ told. ap (λ (k : Disk). k.names) (says.disks Second);
}

-- a count that rose between two moments rose between two that are farther apart
pub rose_before : (half : Half) (a b e : Both) → FrameTwice a b → RoseAt half b e → RoseAt half a e
rose_before First a b e frame rose = omega (arith, frame.first_faults, rose)
rose_before Second a b e frame rose = omega (arith, frame.second_faults, rose)

pub rose_behind : (half : Half) (a b e : Both) → FrameTwice b e → RoseAt half a b → RoseAt half a e
rose_behind First a b e frame rose = omega (arith, frame.first_faults, rose)
rose_behind Second a b e frame rose = omega (arith, frame.second_faults, rose)

-- ---- parts

-- lines over copies at rest
pub lines_part : (i : Identity) (s : Twice) (t : TableRows) (lines : List Act) (a b : Both) (la lb : ℕ → List ℕ → List ℕ → List ℕ → Type 0) → commits_nothing lines ≡ true → SaysTwice lines a b la lb → (IsTrue a.told → RestsTwice i s t a la) → PartTwice i s t lines a b la lb
lines_part i s t lines a b la lb none says rests = record {
  frame = frame_of_lines lines a b la lb says;
  pairs = λ told.
      pairs_weaker a b la lb (λ c d out. la a.moment c d a.sent × SendsPart lines a.sent out) (λ c d out. IsCutOfTables (λ u. CountsAs i u c d) t lines a.sent out) (says.any_moment told)
      (λ c d out h. cut_of_lines (λ u. CountsAs i u c d) t lines none ((rests told).counts c d h.0) a.sent out h.1);
  halves = λ told half used whole.
      half_of_pairs half a b la lb (λ c d out. la a.moment c d a.sent × SendsPart lines a.sent out) (λ c out. IsCutOfTables (λ u. IsCopyOfTables i u c) t lines a.sent out) (says.any_moment told)
      (λ c d out h. cut_of_lines (λ u. IsCopyOfTables i u (file_of half c d)) t lines none ((rests told).alone half used (file_of half c d) (beside half la a.moment c d a.sent h.0)).0 a.sent out h.1);
}

module _ (i : Identity) (s s' : Twice) (t u : TableRows) (p q : List Act) (a b e : Both) (la lb le : ℕ → List ℕ → List ℕ → List ℕ → Type 0) where
  -- one part after another, where each half on which no call failed is in use still
  pub parts_then : PartTwice i s t p a b la lb → (IsTrue a.told → u ≡ tables_after t p) → (IsTrue a.told → b.sent ≡ a.sent ++ bytes_of p) → PartTwice i s' u q b e lb le → (IsTrue a.told → (half : Half) → IsInUse half s → (RoseAt half a b → ⊥) → IsInUse half s') → PartTwice i s t (p ++ q) a e la le
  parts_then h reached sent k stays = record {
    frame = frame_then a b e h.frame k.frame;
    pairs = λ told.
        pairs_then a b la lb e le (λ c d out. IsCutOfTables (λ v. CountsAs i v c d) t (p ++ q) a.sent out)
        (pairs_weaker a b la lb (λ c d out. IsCutOfTables (λ v. CountsAs i v c d) t p a.sent out) (λ c d out. IsCutOfTables (λ v. CountsAs i v c d) t (p ++ q) a.sent out) (h.pairs told)
        (λ c d out cut. cut_of_front (λ v. CountsAs i v c d) t p q a.sent out cut))
        (pairs_weaker b e lb le (λ c d out. IsCutOfTables (λ v. CountsAs i v c d) u q b.sent out) (λ c d out. IsCutOfTables (λ v. CountsAs i v c d) t (p ++ q) a.sent out) (k.pairs (subst IsTrue (sym h.frame.told) told))
        (λ c d out cut. cut_of_back (λ v. CountsAs i v c d) t p q u a.sent b.sent out (reached told) (sent told) cut));
    halves = λ told half used whole.
        let whole_before : RoseAt half a b → ⊥ = λ rose. whole (rose_behind half a b e k.frame rose) in
        leaves_then (half_state half a) (half_state half b) (half_leaves half la) (half_leaves half lb) (half_state half e) (half_leaves half le) (λ c out. IsCutOfTables (λ v. IsCopyOfTables i v c) t (p ++ q) a.sent out)
        (leaves_weaker (half_state half a) (half_state half b) (half_leaves half la) (half_leaves half lb) (λ c out. IsCutOfTables (λ v. IsCopyOfTables i v c) t p a.sent out) (λ c out. IsCutOfTables (λ v. IsCopyOfTables i v c) t (p ++ q) a.sent out)
        (h.halves told half used whole_before) (λ c out cut. cut_of_front (λ v. IsCopyOfTables i v c) t p q a.sent out cut))
        (leaves_weaker (half_state half b) (half_state half e) (half_leaves half lb) (half_leaves half le) (λ c out. IsCutOfTables (λ v. IsCopyOfTables i v c) u q b.sent out) (λ c out. IsCutOfTables (λ v. IsCopyOfTables i v c) t (p ++ q) a.sent out)
        (k.halves (subst IsTrue (sym h.frame.told) told) half (stays told half used whole_before) (λ rose. whole (rose_before half a b e h.frame rose)))
        (λ c out cut. cut_of_back (λ v. IsCopyOfTables i v c) t p q u a.sent b.sent out (reached told) (sent told) cut));
  }

-- what is known of a twin that tells its content
pub part_of_told : (i : Identity) (s : Twice) (t : TableRows) (p : List Act) (a b : Both) (la lb : ℕ → List ℕ → List ℕ → List ℕ → Type 0) → FrameTwice a b → (IsTrue a.told → PartTwice i s t p a b la lb) → PartTwice i s t p a b la lb
part_of_told i s t p a b la lb frame part = record { frame = frame; pairs = λ told. (part told).pairs told; halves = λ told. (part told).halves told }

-- the acts of a part are the first of all, with the lines of the copies
module _ (i : Identity) (s : Twice) (t : TableRows) (acts p rest : List Act) (lost : Option Half) (a b : Both) (la lb : ℕ → List ℕ → List ℕ → List ℕ → Type 0) (split : with_copies s.mended acts lost ≡ p ++ rest) where
  cut_twice : (keeps : TableRows → Type 0) (out : List ℕ) → MayBeLost s a b lost → IsCutOfTables keeps t p a.sent out → IsCutTwice keeps s t acts a b out
  cut_twice keeps out may h = record {
    lost = lost;
    lost_may = may;
    since = h.since;
    more = h.more;
    done = h.done;
    left = h.left ++ rest;
    whole = split ∙ ap (λ (l : List Act). l ++ rest) h.whole ∙ append_assoc h.done h.left rest;
    files = h.file;
    bytes = more_left h.done h.left rest h.since h.bytes;
  }

  pub within_twice : (IsTrue a.told → MayBeLost s a b lost) → PartTwice i s t p a b la lb → WithinTwice i s t acts a b la lb
  within_twice may h = record {
    frame = h.frame;
    pairs = λ told.
        pairs_weaker a b la lb (λ c d out. IsCutOfTables (λ u. CountsAs i u c d) t p a.sent out) (λ c d out. IsCutTwice (λ u. CountsAs i u c d) s t acts a b out) (h.pairs told) (λ c d out cut. cut_twice (λ u. CountsAs i u c d) out (may told) cut);
    halves = λ told half used whole.
        leaves_weaker (half_state half a) (half_state half b) (half_leaves half la) (half_leaves half lb) (λ c out. IsCutOfTables (λ u. IsCopyOfTables i u c) t p a.sent out) (λ c out. IsCutTwice (λ u. IsCopyOfTables i u c) s t acts a b out) (h.halves told half used whole)
        (λ c out cut. cut_twice (λ u. IsCopyOfTables i u c) out (may told) cut);
  }
