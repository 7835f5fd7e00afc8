-- A keeper of two copies is made of a twin, and gives it back.
use Rattle.std.proofs.Common.{◌≡◌, ◌⊎◌, ◌≤◌, ℕ, ◌+◌, List, ◌++◌, sym, ap, subst, ◌∙◌, arith}
use Rattle.std.specs.Prelude.{IsTrue, Option, true}
use Rattle.kd_device.specs.Device.{Frame, Rose}
use Rattle.kd_records.specs.Identity.{Identity}
use Rattle.kd_records.specs.declared.content.Content.{Content}
use Rattle.kd_device.specs.Twin.{Both}
use Rattle.kd_device.specs.declared.half.Half.{Half}
use Rattle.kdcs_types.specs.Tables.{TableRows}
use Rattle.kdcs_types.specs.declared.act.Act.{Act}
use Rattle.abstract_monitor.specs.Commands.{ScriptStep, acts_of}
use Rattle.abstract_monitor.specs.Trace.{bytes_of, tables_after}
use Rattle.record_codec.specs.Records.{content_of_tables}
use Rattle.device_acts.specs.Stands.{AreTables}
use Rattle.monitor_core.specs.CoreSteps.{durable_of}
use Rattle.monitor_core.specs.CoreValue.{CoreValue}
use Rattle.kdcfile_double.specs.Opening.{KeepsTablesTwice}
use Rattle.kdcfile_double.specs.Twice.{FineTwice, IsKeptTwice, IsOpen, IsTwice, Twice, content_of, identity_of}
use Rattle.device_acts.specs.Acting.{IsKeptBy, DidActs, WithinActs, commits_nothing, content_after}
use Rattle.device_acts.specs.LinesLaws.{kept_content, lines_within, tables_same}
use Rattle.device_run.specs.Keeping.{IsRunningWith, KeepsRows, RanWith, StandsForRows, WithinStepsWith}
use Rattle.device_run.specs.Running.{identity_of as identity_of_core}
use Rattle.twin_run.specs.Keeping.{IsSinceStart, TwinKept, StaysFine, failures, file_kept, leaves_kept, one_more, stands_kept, state_kept}
use Rattle.twin_run.specs.Parts.{DidTwice, PartTwice}
use Rattle.twin_run.specs.Running.{FailsTwice, FrameTwice, IsRunningTwice}
use Rattle.kdcfile_double.specs.CommitTwoLaws.{fine_still}
use Rattle.twin_run.specs.KeepingLaws.{fine_since, since_fine}
use Rattle.twin_run.proofs.Decoding.{did_acts, fails_twice, frame_kept, kept_here, part_of_acts, since_here}

-- files of one page more were made with one identity
same_once : (i j : Identity) → one_more i ≡ one_more j → i ≡ j
same_once i j same =
    let blksize : i.blksize ≡ j.blksize = ap (λ (z : Identity). z.blksize) same in
    let more : i.pages + 1 ≡ j.pages + 1 = ap (λ (z : Identity). z.pages) same in
    let pages : i.pages ≡ j.pages = omega (arith, more) in
    let fingerprint : i.fingerprint ≡ j.fingerprint = ap (λ (z : Identity). z.fingerprint) same in
    λ n. record { blksize = blksize n; pages = pages n; fingerprint = fingerprint n }

module _ {T : Type 0} (both : T → Both) (leaves : T → ℕ → List ℕ → List ℕ → List ℕ → Type 0) (s0 s : Twice) (b0 : Both) (x : T) (copies : s0 ≡ s) (begins : b0 ≡ both x) (i : Identity) (identity : identity_of s ≡ one_more i) where
  pub since_made : IsOpen s → IsSinceStart s0 b0 (both x) i s
  since_made is_open = since_here s0 s b0 (both x) (leaves x) copies begins i is_open identity

  module _ (k : TwinKept T) (made : k ≡ record { twin = x; store = s; identity = i }) where
    pub kept_made : IsOpen s → IsTwice s → (IsTrue (both x).told → IsKeptTwice s (both x) (leaves x)) → IsTrue (both k.twin).told → IsKeptBy (file_kept k.identity k.store (both k.twin)) (state_kept s0 b0 (both k.twin)) (leaves_kept s0 b0 (both k.twin) (leaves k.twin))
    kept_made is_open twice kept =
        subst (λ (z : TwinKept T). IsTrue (both z.twin).told → IsKeptBy (file_kept z.identity z.store (both z.twin)) (state_kept s0 b0 (both z.twin)) (leaves_kept s0 b0 (both z.twin) (leaves z.twin))) (sym made)
        (λ told. kept_here s0 s b0 (both x) (leaves x) copies begins i is_open identity twice (kept told))

    pub open_made : IsOpen s → IsOpen k.store
    open_made = subst (λ (z : TwinKept T). IsOpen z.store) (sym made)

    pub told_made : IsTrue (both x).told → IsTrue (both k.twin).told
    told_made told = subst (λ (z : TwinKept T). IsTrue (both z.twin).told) (sym made) told

    pub told_back : (k' : TwinKept T) → IsSinceStart s0 b0 (both k'.twin) k'.identity k'.store → IsTrue (both x).told → IsTrue (both k'.twin).told
    told_back k' since told = subst IsTrue (sym (since.told ∙ ap (λ (z : Both). z.told) begins)) told

    pub core_identity : (fingerprint : List ℕ) (c : CoreValue) → IsRunningTwice fingerprint c s → i ≡ identity_of_core fingerprint c
    core_identity fingerprint c running = same_once i (identity_of_core fingerprint c) (sym identity ∙ running.keeps.identity_is)

    pub running_made : (fingerprint : List ℕ) (c : CoreValue) → IsRunningTwice fingerprint c s → IsRunningWith fingerprint c k.identity (content_of k.store)
    running_made fingerprint c running =
        subst (λ (z : TwinKept T). IsRunningWith fingerprint c z.identity (content_of z.store)) (sym made)
        (record {
          application = running.application;
          limits = running.limits;
          facts = running.facts;
          keeps = record { identity_is = core_identity fingerprint c running; tables = running.keeps.tables; content = running.keeps.content };
        })

    module _ (k' : TwinKept T) (y : T) (back : y ≡ k'.twin) (since : IsSinceStart s0 b0 (both k'.twin) k'.identity k'.store) (t : TableRows) (acts : List Act) where
      pub part_made : WithinActs tables_after (StandsForRows stands_kept i) t acts (state_kept s0 b0 (both k.twin)) (state_kept s0 b0 (both k'.twin)) (leaves_kept s0 b0 (both k.twin) (leaves k.twin)) (leaves_kept s0 b0 (both k'.twin) (leaves k'.twin))
          → PartTwice (identity_of s) s t acts (both x) (both y) (leaves x) (leaves y)
      part_made within =
          let here = subst (λ (z : TwinKept T). WithinActs tables_after (StandsForRows stands_kept i) t acts (state_kept s0 b0 (both z.twin)) (state_kept s0 b0 (both k'.twin)) (leaves_kept s0 b0 (both z.twin) (leaves z.twin)) (leaves_kept s0 b0 (both k'.twin) (leaves k'.twin))) made within in
          let part = part_of_acts s0 s b0 (both x) (both k'.twin) (leaves x) (leaves k'.twin) copies begins i t acts here k'.identity k'.store since in
          subst (λ (z : T). PartTwice (identity_of s) s t acts (both x) (both z) (leaves x) (leaves z)) (sym back)
          (subst (λ (j : Identity). PartTwice j s t acts (both x) (both k'.twin) (leaves x) (leaves k'.twin)) (sym identity) part)

      -- lines
      pub part_lines : KeepsTablesTwice (identity_of s) s t → commits_nothing acts ≡ true
          → WithinActs content_after (stands_kept k.identity) (content_of k.store) acts (state_kept s0 b0 (both k.twin)) (state_kept s0 b0 (both k'.twin)) (leaves_kept s0 b0 (both k.twin) (leaves k.twin)) (leaves_kept s0 b0 (both k'.twin) (leaves k'.twin))
          → PartTwice (identity_of s) s t acts (both x) (both y) (leaves x) (leaves y)
      part_lines keeps lines within =
          part_made
          (lines_within (stands_kept i) (content_of s) (StandsForRows stands_kept i) t
          (λ image stands. record { tables = keeps.tables; content = subst (λ (z : Content). stands_kept i z image) keeps.content stands })
          acts lines (state_kept s0 b0 (both k.twin)) (state_kept s0 b0 (both k'.twin)) (leaves_kept s0 b0 (both k.twin) (leaves k.twin)) (leaves_kept s0 b0 (both k'.twin) (leaves k'.twin))
          (subst (λ (z : TwinKept T). WithinActs content_after (stands_kept z.identity) (content_of z.store) acts (state_kept s0 b0 (both k.twin)) (state_kept s0 b0 (both k'.twin)) (leaves_kept s0 b0 (both k.twin) (leaves k.twin)) (leaves_kept s0 b0 (both k'.twin) (leaves k'.twin))) made within))

      pub did_made : (half : Option Half) → half ≡ k'.store.lost → KeepsRows i k'.identity (content_of k'.store) (tables_after t acts) → (both k'.twin).sent ≡ (both k.twin).sent ++ bytes_of acts
          → IsKeptBy (file_kept k'.identity k'.store (both k'.twin)) (state_kept s0 b0 (both k'.twin)) (leaves_kept s0 b0 (both k'.twin) (leaves k'.twin)) → leaves k'.twin (both k'.twin).moment (both k'.twin).first.holds (both k'.twin).second.holds (both k'.twin).sent
          → DidTwice (identity_of s) s t acts half (both x) (both y) (leaves y)
      did_made half lost keeps sent rest now =
          let did = did_acts s0 s b0 (both x) (both k'.twin) (leaves x) (leaves k'.twin) copies begins (identity_of s) k'.identity t acts k'.store since (ap one_more keeps.identity_is ∙ sym identity) keeps.tables keeps.content (sent ∙ ap (λ (z : TwinKept T). (both z.twin).sent ++ bytes_of acts) made) rest now in
          subst (λ (o : Option Half). DidTwice (identity_of s) s t acts o (both x) (both y) (leaves y)) (sym lost)
          (subst (λ (z : T). DidTwice (identity_of s) s t acts k'.store.lost (both x) (both z) (leaves z)) (sym back) did)

      pub did_lines : KeepsTablesTwice (identity_of s) s t → commits_nothing acts ≡ true → (half : Option Half) → half ≡ k'.store.lost → k'.identity ≡ k.identity → content_of k'.store ≡ content_after (content_of k.store) acts
          → DidActs (StaysFine s0 b0) (file_kept k'.identity k'.store (both k'.twin)) acts (state_kept s0 b0 (both k.twin)) (state_kept s0 b0 (both k'.twin)) (leaves_kept s0 b0 (both k'.twin) (leaves k'.twin))
          → (IsTrue (both k'.twin).told → leaves k'.twin (both k'.twin).moment (both k'.twin).first.holds (both k'.twin).second.holds (both k'.twin).sent) → IsTrue (both x).told → DidTwice (identity_of s) s t acts half (both x) (both y) (leaves y)
      did_lines keeps lines half lost same content performed now told =
          let after : t ≡ tables_after t acts = sym (tables_same acts t lines) in
          did_made half lost
          (record {
            identity_is = same ∙ ap (λ (z : TwinKept T). z.identity) made;
            tables = subst AreTables after keeps.tables;
            content = kept_content acts (content_of k.store) (content_of k'.store) lines content ∙ ap (λ (z : TwinKept T). content_of z.store) made ∙ keeps.content ∙ ap content_of_tables after;
          })
          (performed.sent (told_made told)) (performed.rest (told_made told)) (now (told_back k' since told))

    -- the steps of a core
    module _ (k' : TwinKept T) (y : T) (back : y ≡ k'.twin) (since : IsSinceStart s0 b0 (both k'.twin) k'.identity k'.store) (fingerprint : List ℕ) (c : CoreValue) (running : IsRunningTwice fingerprint c s) (steps : List ScriptStep) where
      pub part_run : WithinStepsWith stands_kept fingerprint c steps (state_kept s0 b0 (both k.twin)) (state_kept s0 b0 (both k'.twin)) (leaves_kept s0 b0 (both k.twin) (leaves k.twin)) (leaves_kept s0 b0 (both k'.twin) (leaves k'.twin)) → PartTwice (identity_of s) s (durable_of c) (acts_of steps) (both x) (both y) (leaves x) (leaves y)
      part_run within =
          part_made k' y back since (durable_of c) (acts_of steps)
          (subst (λ (j : Identity). WithinActs tables_after (StandsForRows stands_kept j) (durable_of c) (acts_of steps) (state_kept s0 b0 (both k.twin)) (state_kept s0 b0 (both k'.twin)) (leaves_kept s0 b0 (both k.twin) (leaves k.twin)) (leaves_kept s0 b0 (both k'.twin) (leaves k'.twin)))
          (sym (core_identity fingerprint c running)) within)

      pub did_run : (half : Option Half) → half ≡ k'.store.lost
          → (IsTrue (both k.twin).told → RanWith fingerprint c steps k'.identity (content_of k'.store) (file_kept k'.identity k'.store (both k'.twin)) (state_kept s0 b0 (both k.twin)) (state_kept s0 b0 (both k'.twin)) (leaves_kept s0 b0 (both k'.twin) (leaves k'.twin)))
          → (IsTrue (both k'.twin).told → leaves k'.twin (both k'.twin).moment (both k'.twin).first.holds (both k'.twin).second.holds (both k'.twin).sent) → IsTrue (both x).told → DidTwice (identity_of s) s (durable_of c) (acts_of steps) half (both x) (both y) (leaves y)
      did_run half lost ran now told =
          let r = ran (told_made told) in
          did_made k' y back since (durable_of c) (acts_of steps) half lost (subst (λ (j : Identity). KeepsRows j k'.identity (content_of k'.store) (tables_after (durable_of c) (acts_of steps))) (sym (core_identity fingerprint c running)) r.keeps)
          r.sent r.at_rest (now (told_back k' since told))

    pub frame_made : (k' : TwinKept T) (y : T) → y ≡ k'.twin → IsSinceStart s0 b0 (both k'.twin) k'.identity k'.store → Frame (state_kept s0 b0 (both k.twin)) (state_kept s0 b0 (both k'.twin)) → FrameTwice (both x) (both y)
    frame_made k' y back since frame =
        subst (λ (z : T). FrameTwice (both x) (both z)) (sym back)
        (frame_kept s0 b0 (both x) (both k'.twin) k'.identity k'.store begins since
        (subst (λ (z : TwinKept T). (both z.twin).line_faults ≤ (both k'.twin).line_faults) made frame.line_faults) (subst (λ (z : TwinKept T). (both z.twin).moment ≤ (both k'.twin).moment) made frame.moment))

    pub fails_made : (k' : TwinKept T) (y : T) → y ≡ k'.twin → Rose (failures s0 b0 (both k.twin)) (failures s0 b0 (both k'.twin)) ⊎ Rose (both k.twin).line_faults (both k'.twin).line_faults → FailsTwice s (both x) (both y)
    fails_made k' y back rose =
        subst (λ (z : T). FailsTwice s (both x) (both z)) (sym back)
        (fails_twice s0 s b0 (both x) (both k'.twin) (leaves x) (leaves k'.twin) copies begins
        (subst (λ (z : TwinKept T). Rose (failures s0 b0 (both z.twin)) (failures s0 b0 (both k'.twin)) ⊎ Rose (both z.twin).line_faults (both k'.twin).line_faults) made rose))

    pub fine_made : IsOpen s → (k' : TwinKept T) (y : T) → y ≡ k'.twin → StaysFine s0 b0 (state_kept s0 b0 (both k.twin)) (state_kept s0 b0 (both k'.twin)) → FineTwice s (both x) (both y)
    fine_made is_open k' y back stays =
        let stays_x = subst (λ (z : TwinKept T). StaysFine s0 b0 (state_kept s0 b0 (both z.twin)) (state_kept s0 b0 (both k'.twin))) made stays in
        let start : FineTwice s0 b0 (both x) = subst (λ (z : Twice). FineTwice z b0 (both x)) (sym copies) (subst (λ (z : Both). FineTwice s z (both x)) (sym begins) (fine_still s (both x) is_open)) in
        let fine : FineTwice s0 b0 (both k'.twin) = since_fine s0 b0 (both k'.twin) (stays_x (fine_since s0 b0 (both x) start)) in
        subst (λ (z : T). FineTwice s (both x) (both z)) (sym back) (subst (λ (z : Both). FineTwice s z (both k'.twin)) begins (subst (λ (z : Twice). FineTwice z b0 (both k'.twin)) copies fine))
