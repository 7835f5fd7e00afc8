-- What a call on the copies, or on the line, makes of their keeper.
use Rattle.std.proofs.Common.{◌≡◌, ◌≤◌, ◌⊎◌, inl, inr, ⊎_elim, ℕ, suc, ◌+◌, List, ◌∷◌, ◌++◌, take, drop, Option, Some, None, sym, ap, subst, ◌∙◌, arith}
use Rattle.std.specs.Prelude.{IsTrue}
use Rattle.kd_device.specs.Device.{Frame, LeavesOnly, Rose}
use Rattle.kd_records.specs.Contents.{patched}
use Rattle.kd_records.specs.Identity.{Identity}
use Rattle.kd_records.specs.declared.content.Patch.{Patch}
use Rattle.kd_device.specs.Twin.{Both, Disk, disk_of, half_leaves}
use Rattle.kd_device.specs.declared.half.Half.{Half}
use Rattle.kd_device.specs.declared.half.Half.TheVariants.{First, Second}
use Rattle.kdcfile_copies.specs.declared.answer.LoadedCopy.{LoadedCopy}
use Rattle.kdcfile_copies.specs.Copies.{IsChosen, IsCopyOf}
use Rattle.kdcfile_copies.specs.Beside.{LeavesFrontBoth, LeavesPairs, LeavesSamePairs, SameDisk}
use Rattle.kdcfile_copies.specs.BesideLaws.{said_stays}
use Rattle.kdcfile_store.specs.Kept.{LeavesPatched, OldOrNew}
use Rattle.device_acts.specs.Acting.{IsKeptBy}
use Rattle.device_acts.specs.Said.{LeavesFront}
use Rattle.kdcfile_double.specs.Opening.{Unchanged}
use Rattle.kdcfile_double.specs.Twice.{FineTwice, FrameBoth, IsChosenOldOrNew, IsCommitting, IsInUse, IsKeptTwice, IsOldOrNew, IsOpen, IsTwice}
use Rattle.kdcfile_double.specs.Twice.{LeavesBoth, LeavesCommitted, LosesBy, RoseAt, SameFaultsAt}
use Rattle.kdcfile_double.specs.Twice.{SideRests, Twice, content_of, copy_at, given_up, identity_of, sequence_of}
use Rattle.twin_run.specs.Images.{OfImage}
use Rattle.twin_run.specs.Keeping.{CopiesSince, IsSinceStart, IsSpared, RestBoth, RestsAlone, StaysFine, failures, file_kept, leaves_kept, one_more, stands_kept, state_kept}
use Rattle.twin_run.specs.KeepingLaws.{all_failed, failures_rise, fine_since, image_weaker, of_image, rest_stands, since_fine, spared_before, spared_same, spared_uses}

-- ---- what no call lowers

-- by halves: counts of faults, and names
module _ (a b : Both) (frame : FrameBoth a b) where
  pub faults_both : (half : Half) → (disk_of half a).disk_faults ≤ (disk_of half b).disk_faults
  faults_both First = frame.first_faults
  faults_both Second = frame.second_faults

  pub names_both : (half : Half) → IsTrue a.told → (disk_of half b).names ≡ (disk_of half a).names
  names_both First told = frame.first_names told
  names_both Second told = frame.second_names told

module _ (s0 : Twice) (b0 a b : Both) where
  pub frame_kept : b.told ≡ a.told → ((half : Half) → (disk_of half a).disk_faults ≤ (disk_of half b).disk_faults) → a.line_faults ≤ b.line_faults → a.moment ≤ b.moment → Frame (state_kept s0 b0 a) (state_kept s0 b0 b)
  frame_kept told faults line later = record { told = told; disk_faults = failures_rise s0 b0 a b faults; line_faults = line; moment = later }

  pub since_then : (i j : Identity) (s s' : Twice) → b.told ≡ a.told → ((half : Half) → (disk_of half a).disk_faults ≤ (disk_of half b).disk_faults) → ((half : Half) → IsTrue a.told → (disk_of half b).names ≡ (disk_of half a).names) → IsSinceStart s0 b0 a i s → (IsOpen s' → CopiesSince s0 b0 b j s') → IsSinceStart s0 b0 b j s'
  since_then i j s s' told faults names h copies = record {
    told = told ∙ h.told;
    names = λ half was. names half (subst IsTrue (sym h.told) was) ∙ h.names half was;
    faults = λ half. let before = h.faults half in let more = faults half in omega (arith, before, more);
    copies = copies;
  }

-- ---- what a stop leaves

-- from what is left of both files: of each image, for what becomes of both and of each half on which no call failed
module _ (s0 : Twice) (b0 a b : Both) (la lb : ℕ → List ℕ → List ℕ → List ℕ → Type 0) (faults : (half : Half) → (disk_of half a).disk_faults ≤ (disk_of half b).disk_faults) (P : List ℕ → List ℕ → List ℕ → Type 0) (Q : List ℕ → List ℕ → Type 0) (both : (n : ℕ) (bytes out : List ℕ) → P (take n bytes) (drop n bytes) out → Q (0 ∷ n ∷ bytes) out) (first : (bytes d out : List ℕ) → IsSpared First s0 b0 b → P bytes d out → Q (1 ∷ bytes) out) (second : (n : ℕ) (bytes c out : List ℕ) → IsSpared Second s0 b0 b → P c bytes out → Q (suc (suc n) ∷ bytes) out) where
  pub moments : LeavesPairs a b la lb P → LeavesOnly (state_kept s0 b0 a) (state_kept s0 b0 b) (leaves_kept s0 b0 a la) (leaves_kept s0 b0 b lb) Q
  moments h = record {
    later = h.later;
    only = λ t image out le left.
        of_image (λ x. leaves_kept s0 b0 a la t x out ⊎ Q x out) (λ c d. lb t c d out) (λ half c. IsSpared half s0 b0 b × half_leaves half lb t c out)
        (λ n bytes l. ⊎_elim (λ past. inl past) (λ p. inr (both n bytes out p)) (h.only t (take n bytes) (drop n bytes) out le l))
        (λ bytes l. ⊎_elim (λ past. inl (spared_before First s0 b0 a b (faults First) l.0, (l.1.0, past))) (λ p. inr (first bytes l.1.0 out l.0 p)) (h.only t bytes l.1.0 out le l.1.1))
        (λ n bytes l. ⊎_elim (λ past. inl (spared_before Second s0 b0 a b (faults Second) l.0, (l.1.0, past))) (λ p. inr (second n bytes l.1.0 out l.0 p)) (h.only t l.1.0 bytes out le l.1.1))
        image left;
  }

-- ---- copies after a call on them

none_some : {A : Type 0} {x : A} → None ≡ Some x → ⊥
none_some e = absurd cc

-- of copies that were given up none is in use
pub none_in_use : (s : Twice) → IsOpen (given_up s) → ⊥
none_in_use s (inl used) = none_some used.1
none_in_use s (inr used) = none_some used.1

module _ (s0 : Twice) (b0 a b : Both) (i : Identity) (s : Twice) (since : IsSinceStart s0 b0 a i s) (is_open : IsOpen s) (frame : FrameBoth a b) where
  copies : CopiesSince s0 b0 a i s
  copies = since.copies is_open

  -- a count that had risen since the start, and one that rose now
  later : (half : Half) → RoseAt half b0 a → RoseAt half b0 b
  later half rose = let more = faults_both a b frame half in omega (arith, rose, more)

  now : (half : Half) → RoseAt half a b → RoseAt half b0 b
  now half rose = let before = since.faults half in omega (arith, rose, before)

  -- a half on which no call failed was in use
  uses : (half : Half) → IsSpared half s0 b0 b → IsInUse half s
  uses half spared = spared_uses half s0 b0 a i s copies (spared_before half s0 b0 a b (faults_both a b frame half) spared)

  pub failed_since : ((half : Half) → IsInUse half s → RoseAt half a b) → Rose (failures s0 b0 a) (failures s0 b0 b)
  failed_since failed = all_failed s0 b0 a b (λ half u. ⊎_elim (λ used. now half (failed half used)) (λ gone. later half gone.1) (copies.unused half u))

  -- what was fine is so after calls that did not fail as a whole
  pub fine_then : FineTwice s a b → StaysFine s0 b0 (state_kept s0 b0 a) (state_kept s0 b0 b)
  fine_then h was =
      let before = since_fine s0 b0 a was in
      let one = copies.used h.spared.0 h.spared.1 in
      fine_since s0 b0 b
      (record {
        spared = (h.spared.0, one.0, h.spared.2 ∙ one.1);
        line = ⊎_elim (λ same. ⊎_elim (λ too. inl (too ∙ same)) (λ rose. inr (rose.0, (copies.used rose.0 rose.1).0, now rose.0 rose.2)) h.line) (λ rose. inr (rose.0, rose.1, later rose.0 rose.2)) before.line;
      })

  module _ (twice : IsTwice s) (s' : Twice) (loses : LosesBy s s' a b) (stays : (half : Half) → IsInUse half s → IsInUse half s' ⊎ (s'.lost ≡ Some half)) (no_other : (half : Half) → IsInUse half s' → IsInUse half s) (fine : (half : Half) → IsInUse half s' → SameFaultsAt half a b) where
    rose_lost : (half : Half) → IsInUse half s → s'.lost ≡ Some half → RoseAt half b0 b
    rose_lost half used lost = ⊎_elim (λ was. absurd (none_some (sym (twice.lost_is_unused half was) ∙ used.1))) (λ rose. now half rose) (loses.newly half lost)

    pub copies_then : (j : Identity) → IsOpen s' → identity_of s' ≡ one_more j → s'.mended ≡ s.mended → CopiesSince s0 b0 b j s'
    copies_then j is made mended = record {
      is_open = is;
      identity = made;
      mended = mended ∙ copies.mended;
      used = λ half u. let before = copies.used half (no_other half u) in (before.0, fine half u ∙ before.1);
      unused = λ half u. ⊎_elim (λ used. ⊎_elim (λ still. inl still) (λ lost. inr (lost, rose_lost half used lost)) (stays half used)) (λ gone. inr (loses.stays half gone.0, later half gone.1)) (copies.unused half u);
      lost_stays = λ half lost. loses.stays half (copies.lost_stays half lost);
      newly_lost = λ half lost. ⊎_elim (λ was. ⊎_elim (λ first. inl first) (λ rose. inr (later half rose)) (copies.newly_lost half was)) (λ rose. inr (now half rose)) (loses.newly half lost);
    }

  module _ (la lb : ℕ → List ℕ → List ℕ → List ℕ → Type 0) where
    -- within a commit
    module _ (patch : Patch) where
      abbrev Old : List ℕ → List ℕ → Type 0
      Old image out = OldOrNew (stands_kept i) (content_of s) (patched (content_of s) patch) a.sent image out

      both_old : (c d : List ℕ) → IsChosenOldOrNew (identity_of s) (sequence_of s) (content_of s) (patched (content_of s) patch) c d → ((n : ℕ) × IsChosen (one_more i) n (content_of s) c d) ⊎ ((n : ℕ) × IsChosen (one_more i) n (patched (content_of s) patch) c d)
      both_old c d h =
          ⊎_elim
          (λ was. inl (sequence_of s, subst (λ (j : Identity). IsChosen j (sequence_of s) (content_of s) c d) copies.identity was))
          (λ new. inr (sequence_of s + 1, subst (λ (j : Identity). IsChosen j (sequence_of s + 1) (patched (content_of s) patch) c d) copies.identity new)) h

      alone_old : (c : List ℕ) → IsOldOrNew (identity_of s) (sequence_of s) (content_of s) (patched (content_of s) patch) c → ((n : ℕ) × IsCopyOf (one_more i) n (content_of s) c) ⊎ ((n : ℕ) × IsCopyOf (one_more i) n (patched (content_of s) patch) c)
      alone_old c h =
          ⊎_elim
          (λ was. inl (sequence_of s, subst (λ (j : Identity). IsCopyOf j (sequence_of s) (content_of s) c) copies.identity was))
          (λ new. inr (sequence_of s + 1, subst (λ (j : Identity). IsCopyOf j (sequence_of s + 1) (patched (content_of s) patch) c) copies.identity new)) h

      same : (half : Half) → IsSpared half s0 b0 b → SameFaultsAt half a b
      same half spared = spared_same half s0 b0 a b (since.faults half) (faults_both a b frame half) spared

      pub commit_moments : LeavesCommitted s patch a b la lb → LeavesPatched (stands_kept i) (content_of s) patch (state_kept s0 b0 a) (state_kept s0 b0 b) (leaves_kept s0 b0 a la) (leaves_kept s0 b0 b lb)
      commit_moments =
          moments s0 b0 a b la lb (faults_both a b frame) (IsCommitting s (patched (content_of s) patch) a b) Old
          (λ n bytes out p. (p.silent, both_old (take n bytes) (drop n bytes) p.chosen))
          (λ bytes d out spared p. (p.silent, alone_old bytes (p.first_is (uses First spared) (same First spared))))
          (λ n bytes c out spared p. (p.silent, alone_old bytes (p.second_is (uses Second spared) (same Second spared))))

    -- within an opening again
    module _ (twice : IsTwice s) (kept : IsKeptTwice s a la) where
      pub reopen_moments : LeavesBoth a b la lb (Unchanged a la) → LeavesOnly (state_kept s0 b0 a) (state_kept s0 b0 b) (leaves_kept s0 b0 a la) (leaves_kept s0 b0 b lb) (λ image out. (out ≡ a.sent) × stands_kept i (content_of s) image)
      reopen_moments =
          moments s0 b0 a b la lb (faults_both a b frame) (Unchanged a la) (λ image out. (out ≡ a.sent) × stands_kept i (content_of s) image)
          (λ n bytes out p. (p.0, stands (0 ∷ n ∷ bytes) (record { first_rests = kept.first_rests (take n bytes) p.1.0 p.1.1; second_rests = kept.second_rests p.2.0 (drop n bytes) p.2.1 })))
          (λ bytes d out spared p. (p.0, stands (1 ∷ bytes) (record { used = uses First spared; rests = kept.first_rests bytes p.1.0 p.1.1 })))
          (λ n bytes c out spared p. (p.0, stands (suc (suc n) ∷ bytes) (record { used = uses Second spared; rests = kept.second_rests p.2.0 bytes p.2.1 })))
        where
          stands : (image : List ℕ) → OfImage (RestBoth s a) (λ half c. RestsAlone half s a c) image → stands_kept i (content_of s) image
          stands = rest_stands s a twice i copies.identity is_open

-- ---- a line that is sent

module _ (s0 : Twice) (b0 a b : Both) (i : Identity) (disks : (half : Half) → SameDisk half a b) where
  said_faults : (half : Half) → (disk_of half b).disk_faults ≡ (disk_of half a).disk_faults
  said_faults half = ap (λ (d : Disk). d.disk_faults) (disks half)

  pub said_rise : (half : Half) → (disk_of half a).disk_faults ≤ (disk_of half b).disk_faults
  said_rise half = let same = said_faults half in omega (arith, same)

  pub said_since : (s : Twice) → b.told ≡ a.told → IsSinceStart s0 b0 a i s → IsSinceStart s0 b0 b i s
  said_since s told h = since_then s0 b0 a b i i s s told said_rise (λ half was. ap (λ (d : Disk). d.names) (disks half)) h (λ is. said_copies (h.copies is))
    where
      rose : (half : Half) → RoseAt half b0 a → RoseAt half b0 b
      rose half r = let same = said_faults half in omega (arith, r, same)

      said_copies : CopiesSince s0 b0 a i s → CopiesSince s0 b0 b i s
      said_copies h = record {
        is_open = h.is_open;
        identity = h.identity;
        mended = h.mended;
        used = λ half u. let before = h.used half u in (before.0, said_faults half ∙ before.1);
        unused = λ half u. ⊎_elim (λ used. inl used) (λ gone. inr (gone.0, rose half gone.1)) (h.unused half u);
        lost_stays = h.lost_stays;
        newly_lost = λ half lost. ⊎_elim (λ first. inl first) (λ r. inr (rose half r)) (h.newly_lost half lost);
      }

  pub said_fine : b.line_faults ≡ a.line_faults → StaysFine s0 b0 (state_kept s0 b0 a) (state_kept s0 b0 b)
  said_fine line was =
      let before = since_fine s0 b0 a was in
      fine_since s0 b0 b
      (record {
        spared = (before.spared.0, before.spared.1, said_faults before.spared.0 ∙ before.spared.2);
        line = ⊎_elim (λ same. inl (line ∙ same)) (λ rose. inr (rose.0, rose.1, subst (λ (n : ℕ). Rose (disk_of rose.0 b0).disk_faults n) (sym (said_faults rose.0)) rose.2)) before.line;
      })

  said_file : (s : Twice) (image : List ℕ) → file_kept i s a image → file_kept i s b image
  said_file s image file = (
    file.0,
    file.1,
    file.2,
    image_weaker (RestBoth s a) (λ half c. RestsAlone half s a c) (RestBoth s b) (λ half c. RestsAlone half s b c)
        (λ c d r. record { first_rests = side First s.first c r.first_rests; second_rests = side Second s.second d r.second_rests })
        (λ half c r. record { used = r.used; rests = side half (copy_at half s) c r.rests }) image file.3,
  )
    where
      side : (half : Half) (o : Option LoadedCopy) (c : List ℕ) → SideRests half (identity_of s) (sequence_of s) (content_of s) o (disk_of half a).holds c → SideRests half (identity_of s) (sequence_of s) (content_of s) o (disk_of half b).holds c
      side half o c = subst (λ (d : Disk). SideRests half (identity_of s) (sequence_of s) (content_of s) o d.holds c) (sym (disks half))

  module _ (la lb : ℕ → List ℕ → List ℕ → List ℕ → Type 0) where
    pub said_kept : (s : Twice) → LeavesSamePairs a b la lb → IsKeptBy (file_kept i s a) (state_kept s0 b0 a) (leaves_kept s0 b0 a la) → IsKeptBy (file_kept i s b) (state_kept s0 b0 b) (leaves_kept s0 b0 b lb)
    said_kept s stop kept image left =
        said_file s image
        (kept image
        (image_weaker (λ c d. lb b.moment c d b.sent) (λ half c. IsSpared half s0 b0 b × half_leaves half lb b.moment c b.sent) (λ c d. la a.moment c d a.sent) (λ half c. IsSpared half s0 b0 a × half_leaves half la a.moment c a.sent)
        stop (λ half c h. (spared_before half s0 b0 a b (said_rise half) h.0, said_stays half a b la lb stop c h.1)) image left))

    pub said_moments : (line : List ℕ) → LeavesFrontBoth line a b la lb → LeavesFront line (state_kept s0 b0 a) (state_kept s0 b0 b) (leaves_kept s0 b0 a la) (leaves_kept s0 b0 b lb)
    said_moments line =
        moments s0 b0 a b la lb said_rise (λ c d out. la a.moment c d a.sent × ((n : ℕ) × (out ≡ a.sent ++ take n line))) (λ image out. leaves_kept s0 b0 a la a.moment image a.sent × ((n : ℕ) × (out ≡ a.sent ++ take n line)))
        (λ n bytes out p. p)
        (λ bytes d out spared p. ((spared_before First s0 b0 a b (said_rise First) spared, (d, p.0)), p.1))
        (λ n bytes c out spared p. ((spared_before Second s0 b0 a b (said_rise Second) spared, (c, p.0)), p.1))
