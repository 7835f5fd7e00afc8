-- A call on the copies of a keeper, in terms of the keeper as it was.
use Rattle.std.proofs.Common.{◌≡◌, ◌≤◌, ◌⊎◌, ◌+◌, ℕ, List, Some, refl, sym, ap, subst, ◌∙◌, arith}
use Rattle.std.specs.Prelude.{◌≢◌, IsTrue}
use Rattle.std.proofs.lemmas.List.Elements.{All-weaker}
use Rattle.kd_device.specs.Device.{Frame, Rose}
use Rattle.kd_records.specs.Charge.{total_charge}
use Rattle.kd_records.specs.Contents.{Change}
use Rattle.kd_records.specs.Identity.{Identity}
use Rattle.kd_records.specs.declared.content.Content.{Content}
use Rattle.kd_records.specs.declared.content.Patch.{Patch}
use Rattle.kd_device.specs.Twin.{Both}
use Rattle.kd_device.specs.declared.half.Half.{Half}
use Rattle.application_types.specs.Generation.{Generated}
use Rattle.kdcfile_copies.specs.Copies.{HasNoSequence}
use Rattle.kdcfile_store.specs.Kept.{LeavesPatched}
use Rattle.kdcfile_store.specs.Paged.{identity_with}
use Rattle.kdcfile_store.specs.declared.store.StoreLimits.{StoreLimits}
use Rattle.kdcs_types.specs.Keys.{key_kind}
use Rattle.kdcs_types.specs.Tables.{TableRows}
use Rattle.kdcs_types.specs.declared.key.Key.{Key}
use Rattle.kdcs_types.specs.declared.key.Key.TheVariants as key
use Rattle.device_acts.specs.MeaningLaws.{one_table}
use Rattle.device_acts.specs.Acting.{IsKeptBy, IsOfChanges}
use Rattle.device_acts.specs.Stands.{limits_of}
use Rattle.device_run.specs.Keeping.{KeepsSuited, Reopening}
use Rattle.kdcfile_double.specs.Opening.{KeepsTablesTwice, SameFiles, Unchanged, identity_twice}
use Rattle.kdcfile_double.specs.Twice.{FineTwice, FrameBoth, IsInUse, IsKeptTwice, IsOpen, IsTwice, LeavesBoth, LeavesCommitted, LosesBy}
use Rattle.kdcfile_double.specs.Twice.{RoseAt, SameFaultsAt, Twice, content_of, given_up, identity_of}
use Rattle.twin_run.specs.Keeping.{CopiesSince, IsSinceStart, TwinKept, StaysFine, failures, file_kept, leaves_kept, one_more, stands_kept, state_kept}
use Rattle.twin_run.specs.KeepingLaws.{kept_both, kept_images}
use Rattle.twin_run.proofs.KeepingCalls.{commit_moments, copies_then, failed_since, faults_both, fine_then, frame_kept, names_both, none_in_use, reopen_moments, since_then}

-- the keeper k had the twin x and the copies s, which are in use and have become of those at the start what they may
pub record WasKeeper {T : Type 0} (both : T → Both) (s0 : Twice) (b0 : Both) (x : T) (i : Identity) (k : TwinKept T) (s : Twice) : Type 0 where
  pub view : record { twin = x; store = s; identity = i } ≡ k
  pub since : IsSinceStart s0 b0 (both x) i s
  pub is_open : IsOpen s

-- its copies were taken out of it
pub keeper_was : {T : Type 0} (both : T → Both) (s0 : Twice) (b0 : Both) {x : T} {o s : Twice} {i : Identity} {k : TwinKept T} → record { twin = x; store = o; identity = i } ≡ k → IsSinceStart s0 b0 (both x) i o → s ≡ o → IsOpen k.store → WasKeeper both s0 b0 x i k s
keeper_was {T} both s0 b0 {x} {o} {s} {i} {k} view since taken is_open = record {
  view = subst (λ (z : Twice). record { twin = x; store = z; identity = i } ≡ k) (sym taken) view;
  since = subst (λ (z : Twice). IsSinceStart s0 b0 (both x) i z) (sym taken) since;
  is_open = subst IsOpen (sym (taken ∙ ap (λ (z : TwinKept T). z.store) view)) is_open;
}

module _ {T : Type 0} {both : T → Both} (leaves : T → ℕ → List ℕ → List ℕ → List ℕ → Type 0) {s0 : Twice} {b0 : Both} {x : T} {i : Identity} {k : TwinKept T} {s : Twice} (was : WasKeeper both s0 b0 x i k s) where
  -- a fact of the parts is one of the keeper, and the other way round
  of_keeper : (P : TwinKept T → Type 0) → P (record { twin = x; store = s; identity = i }) → P k
  of_keeper P = subst P was.view

  of_parts : (P : TwinKept T → Type 0) → P k → P (record { twin = x; store = s; identity = i })
  of_parts P = subst P (sym was.view)

  pub copies_were : CopiesSince s0 b0 (both x) i s
  copies_were = was.since.copies was.is_open

  -- there is a page for the record of the sequence
  pub pages_were : (make : Content → Content) → total_charge k.identity.blksize (make (content_of k.store)).items ≤ k.identity.pages → total_charge (identity_of s).blksize (make (content_of s)).items + 1 ≤ (identity_of s).pages
  pages_were make charge =
      subst (λ (j : Identity). total_charge j.blksize (make (content_of s)).items + 1 ≤ j.pages) (sym copies_were.identity)
      (let own = of_parts (λ (z : TwinKept T). total_charge z.identity.blksize (make (content_of z.store)).items ≤ z.identity.pages) charge in omega (arith, own))

  pub told_was : IsTrue (both k.twin).told → IsTrue (both x).told
  told_was = of_parts (λ (z : TwinKept T). IsTrue (both z.twin).told)

  pub kept_was : (IsTrue (both k.twin).told → IsKeptBy (file_kept k.identity k.store (both k.twin)) (state_kept s0 b0 (both k.twin)) (leaves_kept s0 b0 (both k.twin) (leaves k.twin))) → IsTrue (both x).told → IsKeptTwice s (both x) (leaves x)
  kept_was kept told =
      kept_both i s0 b0 (both x) s (leaves x)
      (of_parts (λ (z : TwinKept T). IsTrue (both z.twin).told → IsKeptBy (file_kept z.identity z.store (both z.twin)) (state_kept s0 b0 (both z.twin)) (leaves_kept s0 b0 (both z.twin) (leaves z.twin))) kept told)

  -- after calls on the copies
  module _ {b : Both} (frame : FrameBoth (both x) b) where
    pub frame_then : Frame (state_kept s0 b0 (both k.twin)) (state_kept s0 b0 b)
    frame_then =
        of_keeper (λ (z : TwinKept T). Frame (state_kept s0 b0 (both z.twin)) (state_kept s0 b0 b))
        (frame_kept s0 b0 (both x) b frame.told (faults_both (both x) b frame) frame.line_faults frame.moment)

    pub failed_then : ((half : Half) → IsInUse half s → RoseAt half (both x) b) → Rose (failures s0 b0 (both k.twin)) (failures s0 b0 b)
    failed_then failed = of_keeper (λ (z : TwinKept T). Rose (failures s0 b0 (both z.twin)) (failures s0 b0 b)) (failed_since s0 b0 (both x) b i s was.since was.is_open frame failed)

    pub went_then : FineTwice s (both x) b → StaysFine s0 b0 (state_kept s0 b0 (both k.twin)) (state_kept s0 b0 b)
    went_then went = of_keeper (λ (z : TwinKept T). StaysFine s0 b0 (state_kept s0 b0 (both z.twin)) (state_kept s0 b0 b)) (fine_then s0 b0 (both x) b i s was.since was.is_open frame went)

    -- the copies are these now, unless they were given up
    since_with : (j : Identity) (z : Twice) → (IsOpen z → CopiesSince s0 b0 b j z) → IsSinceStart s0 b0 b j z
    since_with j z = since_then s0 b0 (both x) b i j s z frame.told (faults_both (both x) b frame) (names_both (both x) b frame) was.since

    pub since_none : (j : Identity) (o z : Twice) → z ≡ given_up o → IsSinceStart s0 b0 b j z
    since_none j o z gone = since_with j z (λ is. absurd (none_in_use o (subst IsOpen gone is)))

    module _ (twice : IsTwice s) (j : Identity) {s' : Twice} (is : IsOpen s') (made : identity_of s' ≡ one_more j) (mended : s'.mended ≡ s.mended) (loses : LosesBy s s' (both x) b) (stays : (half : Half) → IsInUse half s → IsInUse half s' ⊎ (s'.lost ≡ Some half)) (no_other : (half : Half) → IsInUse half s' → IsInUse half s) (fine : (half : Half) → IsInUse half s' → SameFaultsAt half (both x) b) where
      copies : CopiesSince s0 b0 b j s'
      copies = copies_then s0 b0 (both x) b i s was.since was.is_open frame twice s' loses stays no_other fine j is made mended

      pub since_some : IsSinceStart s0 b0 b j s'
      since_some = since_with j s' (λ is. copies)

      pub kept_some : (lb : ℕ → List ℕ → List ℕ → List ℕ → Type 0) → IsTwice s' → (IsTrue (both x).told → IsKeptTwice s' b lb) → IsTrue (both k.twin).told → IsKeptBy (file_kept j s' b) (state_kept s0 b0 b) (leaves_kept s0 b0 b lb)
      kept_some lb now kept told = kept_images j s0 b0 b s' lb now copies (kept (told_was told))

    module _ (lb : ℕ → List ℕ → List ℕ → List ℕ → Type 0) where
      pub commit_then : (patch : Patch) → (IsTrue (both x).told → LeavesCommitted s patch (both x) b (leaves x) lb)
          → IsTrue (both k.twin).told → LeavesPatched (stands_kept k.identity) (content_of k.store) patch (state_kept s0 b0 (both k.twin)) (state_kept s0 b0 b) (leaves_kept s0 b0 (both k.twin) (leaves k.twin)) (leaves_kept s0 b0 b lb)
      commit_then patch any =
          of_keeper (λ (z : TwinKept T). IsTrue (both z.twin).told → LeavesPatched (stands_kept z.identity) (content_of z.store) patch (state_kept s0 b0 (both z.twin)) (state_kept s0 b0 b) (leaves_kept s0 b0 (both z.twin) (leaves z.twin)) (leaves_kept s0 b0 b lb))
          (λ told. commit_moments s0 b0 (both x) b i s was.since was.is_open frame (leaves x) lb patch (any told))

      pub reopen_then : IsTwice s → (IsTrue (both x).told → IsKeptTwice s (both x) (leaves x)) → (IsTrue (both x).told → SameFiles (both x) b × LeavesBoth (both x) b (leaves x) lb (Unchanged (both x) (leaves x)))
          → IsTrue (both k.twin).told → Reopening (stands_kept k.identity (content_of k.store)) (state_kept s0 b0 (both k.twin)) (state_kept s0 b0 b) (leaves_kept s0 b0 (both k.twin) (leaves k.twin)) (leaves_kept s0 b0 b lb)
      reopen_then twice kept still =
          of_keeper (λ (z : TwinKept T). IsTrue (both z.twin).told → Reopening (stands_kept z.identity (content_of z.store)) (state_kept s0 b0 (both z.twin)) (state_kept s0 b0 b) (leaves_kept s0 b0 (both z.twin) (leaves z.twin)) (leaves_kept s0 b0 b lb))
          (λ told. record {
            disk = record { holds = refl; put = refl };
            sent = frame.sent told;
            leaves = reopen_moments s0 b0 (both x) b i s was.since was.is_open frame (leaves x) lb twice (kept told) (still told).1;
          })

  -- tables that are kept
  module _ {g : Generated} {fingerprint : List ℕ} {u : TableRows} (keeps : KeepsSuited g fingerprint k.identity (content_of k.store) u) where
    pub keeps_twice : KeepsTablesTwice (identity_twice g fingerprint) s u
    keeps_twice =
        let own = of_parts (λ (z : TwinKept T). KeepsSuited g fingerprint z.identity (content_of z.store) u) keeps in
        record { identity_is = copies_were.identity ∙ ap one_more own.keeps.identity_is; tables = own.keeps.tables; content = own.keeps.content }

    pub same_tables : (s' : Twice) (t : TableRows) → KeepsTablesTwice (identity_twice g fingerprint) s' t → content_of s' ≡ content_of s → t ≡ u
    same_tables s' t new same = one_table t u new.tables keeps_twice.tables (sym new.content ∙ same ∙ keeps_twice.content)

-- what the files of two copies are made with
pub made_twice : (g : Generated) (fingerprint : List ℕ) (j : Identity) (l : StoreLimits) → l ≡ limits_of g → j ≡ identity_twice g fingerprint → j ≡ one_more (identity_with l fingerprint)
made_twice g fingerprint j l is made = made ∙ ap (λ (m : StoreLimits). one_more (identity_with m fingerprint)) (sym is)

-- ---- a patch

-- the rows of tables have other kinds than the record of the sequence
other_kind : (k : Key) → key_kind k ≡ 7 → ⊥
other_kind (key.Gssb name) is = absurd (omega (arith, is))
other_kind (key.Tls block lterm) is = absurd (omega (arith, is))
other_kind (key.Uls block user) is = absurd (omega (arith, is))
other_kind (key.Service id) is = absurd (omega (arith, is))
other_kind (key.Job number) is = absurd (omega (arith, is))
other_kind (key.Shown lterm) is = absurd (omega (arith, is))

pub no_sequence : (p : Patch) → IsOfChanges p → HasNoSequence p
no_sequence p = All-weaker (λ (c : Change). (k : Key) × (c.0.kind ≡ key_kind k)) (λ (c : Change). c.0.kind ≢ 7) (λ c row is. other_kind row.0 (sym row.1 ∙ is)) p.items
