use Rattle.std.proofs.Common.{List, ℕ, refl, sym, subst, inl, ◌∙◌}
use Rattle.std.specs.Prelude.{IfNone, IsTrue, Option}
use Rattle.kd_device.specs.declared.error.DeviceError.TheVariants as device
use Rattle.kd_device.specs.declared.half.Half.{Half}
use Rattle.device_acts.specs.ErrorsLaws.{no_error}
use Rattle.kdcfile_double.specs.Causes.{of_device}
use Rattle.kdcfile_double.specs.declared.error.TwinOpenError.TheVariants as to
use Rattle.kdcfile_double.specs.MakingLaws.{none_rose_then, one_rose_then}
use Rattle.kdcfile_double.specs.Opening.{IsRefusedTwo, IsSpent, IsTwoOfOtherTexts, StartsFromTwo, identity_twice}
use Rattle.call_parts.specs.Missing.{MayOpen}
use Rattle.call_parts.specs.TwoAnswersLaws.{started_two_once}
use Rattle.call_parts.specs.declared.error.CopiesError.TheVariants as copies
use Rattle.call_parts.specs.BehindLaws.{behind_is_mended, mended_was_behind, used_or_lost}
use Rattle.call_parts.proofs.HandedOn.{no_cause}
use Rattle.call_parts.proofs.twin.opening.Attached.{may_attach_then}
use Rattle.call_parts.proofs.twin.opening.Opened.{attached_leaves, disk_failed, disk_told, failed_after, files_same, keeps_after, mended_leaves, not_empty, opened_before, opened_leaves, opened_stay, same_files, started_stay, fine_of, mended_fine}
use Rattle.call_parts.proofs.twin.opening.open_unless_missing.Goals as goal

pub returns-in_err-half-clause-any_moment : goal.returns-in_err-half-clause-any_moment
returns-in_err-half-clause-any_moment g c = λ told rest t starts.
    attached_leaves c.args.generation.now c.args.fingerprint.now t (g.T.Twin.both c.args.twin.now) (g.T.Twin.leaves c.args.twin.now) rest (λ x y out left. g.met.T.Twin.sent_now c.args.twin.now x y out told left) starts
    (g.T.Twin.both c.find_missing.new.twin) (g.T.Twin.leaves c.find_missing.new.twin) (c.find_missing.ensures.rests told)

pub returns-in-Some-clause-any_moment : goal.returns-in-Some-clause-any_moment
returns-in-Some-clause-any_moment g c = λ told rest t starts.
    attached_leaves c.args.generation.now c.args.fingerprint.now t (g.T.Twin.both c.args.twin.now) (g.T.Twin.leaves c.args.twin.now) rest (λ x y out left. g.met.T.Twin.sent_now c.args.twin.now x y out told left) starts
    (g.T.Twin.both c.find_missing.new.twin) (g.T.Twin.leaves c.find_missing.new.twin) (c.find_missing.ensures.rests told)

pub returns-in_err-store-clause-still : goal.returns-in_err-store-clause-still
returns-in_err-store-clause-still g c = λ told none.
    let a = g.T.Twin.both c.args.twin.now in
    let b = g.T.Twin.both c.find_missing.new.twin in
    let told_b : IsTrue b.told = subst IsTrue (sym c.find_missing.ensures.frame.told) told in
    let attached = c.find_missing.ensures.rests told in
    opened_stay a b (g.T.Twin.leaves c.args.twin.now) (g.T.Twin.leaves c.find_missing.new.twin) attached (g.T.Twin.both c.open.new.twin) (g.T.Twin.leaves c.open.new.twin)
    (c.open.ensures.still told_b
    (inl (λ empty. not_empty c.args.generation.now c.args.fingerprint.now a.first.holds a.second.holds (λ t starts. none t (subst (λ (m : Option Half). IfNone m (IsTrue a.told → MayOpen c.args.alone a)) c.in_default.is c.in_ok-half.ensures.none told) starts) (sym attached.files.first_holds ∙ empty.0, sym attached.files.second_holds ∙ empty.1))))
    (c.open.ensures.frame.sent told_b)

pub returns-in_err-store-clause-any_moment : goal.returns-in_err-store-clause-any_moment
returns-in_err-store-clause-any_moment g c = λ told rest t starts.
    let b = g.T.Twin.both c.find_missing.new.twin in
    let told_b : IsTrue b.told = subst IsTrue (sym c.find_missing.ensures.frame.told) told in
    opened_leaves c.args.generation.now c.args.fingerprint.now t (g.T.Twin.both c.args.twin.now) (g.T.Twin.leaves c.args.twin.now) rest (λ x y out left. g.met.T.Twin.sent_now c.args.twin.now x y out told left) starts b
    (g.T.Twin.leaves c.find_missing.new.twin) (c.find_missing.ensures.rests told) (g.T.Twin.both c.open.new.twin) (g.T.Twin.leaves c.open.new.twin) (λ filled. (c.open.ensures.still told_b (inl filled)).1)
    (c.open.ensures.any_moment told_b)

pub mend-requires-clause-kept : goal.mend-requires-clause-kept
mend-requires-clause-kept g c = λ told_e. c.in_ok-store.ensures.kept (c.in_ok-store.ensures.is_open (inl refl)) (subst IsTrue c.open.ensures.frame.told told_e)

pub returns-in_err-mend-clause-refused : goal.returns-in_err-mend-clause-refused
returns-in_err-mend-clause-refused g c = λ is told. absurd ((disk_told _ c.from_residual-in_err-mend.result c.in_err-mend.field-0.0 c.from_residual-in_err-mend.ensures.1).0 is)

pub returns-in_err-mend-clause-other : goal.returns-in_err-mend-clause-other
returns-in_err-mend-clause-other g c = λ stored is told. absurd ((disk_told _ c.from_residual-in_err-mend.result c.in_err-mend.field-0.0 c.from_residual-in_err-mend.ensures.1).1 stored is)

pub returns-in_err-mend-clause-spent : goal.returns-in_err-mend-clause-spent
returns-in_err-mend-clause-spent g c = λ n is told. absurd ((disk_told _ c.from_residual-in_err-mend.result c.in_err-mend.field-0.0 c.from_residual-in_err-mend.ensures.1).2 n is)

pub returns-in_err-mend-clause-still : goal.returns-in_err-mend-clause-still
returns-in_err-mend-clause-still g c = λ told none.
    let told_b : IsTrue (g.T.Twin.both c.find_missing.new.twin).told = subst IsTrue (sym c.find_missing.ensures.frame.told) told in
    let a = g.T.Twin.both c.args.twin.now in
    started_stay a (g.T.Twin.both c.mend.new.twin) (g.T.Twin.leaves c.args.twin.now) (g.T.Twin.leaves c.mend.new.twin) (StartsFromTwo c.args.generation.now c.args.fingerprint.now a.first.holds a.second.holds) c.in_ok-store.tables
    (same_files a (g.T.Twin.both c.find_missing.new.twin) (λ (p q : List ℕ). StartsFromTwo c.args.generation.now c.args.fingerprint.now p q c.in_ok-store.tables) (c.find_missing.ensures.rests told).files (c.in_ok-store.ensures.starts told_b))
    (λ t starts. none t (subst (λ (m : Option Half). IfNone m (IsTrue a.told → MayOpen c.args.alone a)) c.in_default.is c.in_ok-half.ensures.none told) starts)

pub returns-in_err-mend-clause-any_moment : goal.returns-in_err-mend-clause-any_moment
returns-in_err-mend-clause-any_moment g c = λ told rest t starts.
    let a = g.T.Twin.both c.args.twin.now in
    let b = g.T.Twin.both c.find_missing.new.twin in
    let e = g.T.Twin.both c.open.new.twin in
    let told_b : IsTrue b.told = subst IsTrue (sym c.find_missing.ensures.frame.told) told in
    let told_e : IsTrue e.told = subst IsTrue (sym c.open.ensures.frame.told) told_b in
    let attached = c.find_missing.ensures.rests told in
    let own = same_files a b (λ (p q : List ℕ). StartsFromTwo c.args.generation.now c.args.fingerprint.now p q c.in_ok-store.tables) attached.files (c.in_ok-store.ensures.starts told_b) in
    mended_leaves c.args.generation.now c.args.fingerprint.now t a (g.T.Twin.leaves c.args.twin.now) rest (λ x y out left. g.met.T.Twin.sent_now c.args.twin.now x y out told left) starts b (g.T.Twin.leaves c.find_missing.new.twin) attached e
    (g.T.Twin.leaves c.open.new.twin) (λ filled. (c.open.ensures.still told_b (inl filled)).1) (c.open.ensures.any_moment told_b) (g.T.Twin.both c.mend.new.twin) (g.T.Twin.leaves c.mend.new.twin) c.in_ok-store.store c.in_ok-store.tables
    (c.in_ok-store.ensures.keeps (c.in_ok-store.ensures.is_open (inl refl))) (started_two_once c.args.generation.now c.args.fingerprint.now a.first.holds a.second.holds c.in_ok-store.tables t own starts) (c.open.ensures.frame.sent told_b ∙ attached.sent)
    (c.mend.ensures.any_moment told_e)

pub returns-in_err-mend-clause-names : goal.returns-in_err-mend-clause-names
returns-in_err-mend-clause-names g c = λ told.
    let a = g.T.Twin.both c.args.twin.now in
    let b = g.T.Twin.both c.find_missing.new.twin in
    let e = g.T.Twin.both c.open.new.twin in
    let told_b : IsTrue b.told = subst IsTrue (sym c.find_missing.ensures.frame.told) told in
    let told_e : IsTrue e.told = subst IsTrue (sym c.open.ensures.frame.told) told_b in
    may_attach_then a e (g.T.Twin.both c.mend.new.twin) c.args.base.now told_e (may_attach_then a b e c.args.base.now told_b (c.find_missing.ensures.names told) c.open.ensures.frame) c.mend.ensures.frame

pub returns-in_err-mend-clause-failed : goal.returns-in_err-mend-clause-failed
returns-in_err-mend-clause-failed g c = λ is.
    let a = g.T.Twin.both c.args.twin.now in
    let b = g.T.Twin.both c.find_missing.new.twin in
    let e = g.T.Twin.both c.open.new.twin in
    failed_after a e (g.T.Twin.both c.mend.new.twin) c.in_ok-store.store (none_rose_then a b e (c.in_ok-half.ensures.fine (λ failed. absurd cc)) (c.in_ok-store.ensures.fine (λ failed. absurd cc)))
    (c.in_ok-store.ensures.is_open (inl refl)) (c.in_err-mend.ensures.failed (disk_failed _ _ c.from_residual-in_err-mend.result c.in_err-mend.field-0.0 c.from_residual-in_err-mend.ensures.1 is))

-- ---- calls that did not fail as a whole

pub returns-in_err-half-clause-went : goal.returns-in_err-half-clause-went
returns-in_err-half-clause-went g c = λ none. fine_of _ _ (c.in_err-half.ensures.fine (no_cause _ (λ x. copies.Files (of_device x)) c.in_err-half.field-0.0 device.Failed c.from_residual.result c.from_residual.ensures.1 none))

pub returns-in_err-store-clause-went : goal.returns-in_err-store-clause-went
returns-in_err-store-clause-went g c = λ none.
    fine_of _ _ (none_rose_then (g.T.Twin.both c.args.twin.now) (g.T.Twin.both c.find_missing.new.twin) (g.T.Twin.both c.open.new.twin) (c.in_ok-half.ensures.fine (no_error _ _)) (c.in_err-store.ensures.fine (no_cause _ (λ x. copies.Files x) c.in_err-store.field-0.0 to.Failed c.from_residual-in_err-store.result c.from_residual-in_err-store.ensures.1 none)))

pub returns-in_err-mend-clause-went : goal.returns-in_err-mend-clause-went
returns-in_err-mend-clause-went g c = λ none.
    let a = g.T.Twin.both c.args.twin.now in
    let e = g.T.Twin.both c.open.new.twin in
    mended_fine a e (g.T.Twin.both c.mend.new.twin) c.in_ok-store.store (none_rose_then a (g.T.Twin.both c.find_missing.new.twin) e (c.in_ok-half.ensures.fine (no_error _ _)) (c.in_ok-store.ensures.fine (no_error _ _)))
    (c.in_ok-store.ensures.is_open (inl refl)) (c.in_err-mend.ensures.went (no_cause _ (λ x. copies.Files (of_device x)) c.in_err-mend.field-0.0 device.Failed c.from_residual-in_err-mend.result c.from_residual-in_err-mend.ensures.1 none))

pub returns-clause-went : goal.returns-clause-went
returns-clause-went g c = λ none.
    let a = g.T.Twin.both c.args.twin.now in
    let e = g.T.Twin.both c.open.new.twin in
    mended_fine a e (g.T.Twin.both c.mend.new.twin) c.in_ok-store.store (none_rose_then a (g.T.Twin.both c.find_missing.new.twin) e (c.in_ok-half.ensures.fine (no_error _ _)) (c.in_ok-store.ensures.fine (no_error _ _)))
    (c.in_ok-store.ensures.is_open (inl refl)) (c.in_ok-mend.ensures.went (no_error _ _))

-- ---- both files are opened

pub returns-clause-keeps : goal.returns-clause-keeps
returns-clause-keeps g c =
    keeps_after (identity_twice c.args.generation.now c.args.fingerprint.now) c.in_ok-store.store c.mend.new.self c.in_ok-store.tables c.in_ok-mend.ensures.identity c.in_ok-mend.ensures.content
    (c.in_ok-store.ensures.keeps (c.in_ok-store.ensures.is_open (inl refl)))

pub returns-clause-starts : goal.returns-clause-starts
returns-clause-starts g c = λ told.
    let told_b : IsTrue (g.T.Twin.both c.find_missing.new.twin).told = subst IsTrue (sym c.find_missing.ensures.frame.told) told in
    same_files (g.T.Twin.both c.args.twin.now) (g.T.Twin.both c.find_missing.new.twin) (λ (p q : List ℕ). StartsFromTwo c.args.generation.now c.args.fingerprint.now p q c.in_ok-store.tables) (c.find_missing.ensures.rests told).files
    (c.in_ok-store.ensures.starts told_b)

pub returns-clause-used : goal.returns-clause-used
returns-clause-used g c = λ told.
    let a = g.T.Twin.both c.args.twin.now in
    let b = g.T.Twin.both c.find_missing.new.twin in
    let told_b : IsTrue b.told = subst IsTrue (sym c.find_missing.ensures.frame.told) told in
    let told_e : IsTrue (g.T.Twin.both c.open.new.twin).told = subst IsTrue (sym c.open.ensures.frame.told) told_b in
    let is_open = c.in_ok-store.ensures.is_open (inl refl) in
    used_or_lost c.in_ok-store.store c.mend.new.self a
    (opened_before a b c.in_ok-store.store (c.find_missing.ensures.rests told).files
    (record { is_open = is_open; new = c.in_ok-store.ensures.new; made = c.in_ok-store.ensures.made refl told_b; in_use = c.in_ok-store.ensures.in_use is_open told_b }))
    (c.in_ok-mend.ensures.mended told_e) c.in_ok-mend.ensures.stays

pub returns-clause-mended : goal.returns-clause-mended
returns-clause-mended g c = λ told.
    let a = g.T.Twin.both c.args.twin.now in
    let b = g.T.Twin.both c.find_missing.new.twin in
    let told_b : IsTrue b.told = subst IsTrue (sym c.find_missing.ensures.frame.told) told in
    let is_open = c.in_ok-store.ensures.is_open (inl refl) in
    mended_was_behind c.in_ok-store.store c.mend.new.self a
    (opened_before a b c.in_ok-store.store (c.find_missing.ensures.rests told).files
    (record { is_open = is_open; new = c.in_ok-store.ensures.new; made = c.in_ok-store.ensures.made refl told_b; in_use = c.in_ok-store.ensures.in_use is_open told_b }))
    c.mend.ensures.only_behind

pub returns-clause-mended_all : goal.returns-clause-mended_all
returns-clause-mended_all g c = λ told.
    let a = g.T.Twin.both c.args.twin.now in
    let b = g.T.Twin.both c.find_missing.new.twin in
    let told_b : IsTrue b.told = subst IsTrue (sym c.find_missing.ensures.frame.told) told in
    let told_e : IsTrue (g.T.Twin.both c.open.new.twin).told = subst IsTrue (sym c.open.ensures.frame.told) told_b in
    let is_open = c.in_ok-store.ensures.is_open (inl refl) in
    behind_is_mended c.in_ok-store.store c.mend.new.self a
    (opened_before a b c.in_ok-store.store (c.find_missing.ensures.rests told).files
    (record { is_open = is_open; new = c.in_ok-store.ensures.new; made = c.in_ok-store.ensures.made refl told_b; in_use = c.in_ok-store.ensures.in_use is_open told_b }))
    (c.in_ok-mend.ensures.mended told_e)

pub returns-clause-still : goal.returns-clause-still
returns-clause-still g c = λ told none.
    let told_b : IsTrue (g.T.Twin.both c.find_missing.new.twin).told = subst IsTrue (sym c.find_missing.ensures.frame.told) told in
    let a = g.T.Twin.both c.args.twin.now in
    started_stay a (g.T.Twin.both c.mend.new.twin) (g.T.Twin.leaves c.args.twin.now) (g.T.Twin.leaves c.mend.new.twin) (StartsFromTwo c.args.generation.now c.args.fingerprint.now a.first.holds a.second.holds) c.in_ok-store.tables
    (same_files a (g.T.Twin.both c.find_missing.new.twin) (λ (p q : List ℕ). StartsFromTwo c.args.generation.now c.args.fingerprint.now p q c.in_ok-store.tables) (c.find_missing.ensures.rests told).files (c.in_ok-store.ensures.starts told_b))
    (λ t starts. none t (subst (λ (m : Option Half). IfNone m (IsTrue a.told → MayOpen c.args.alone a)) c.in_default.is c.in_ok-half.ensures.none told) starts)

pub returns-clause-any_moment : goal.returns-clause-any_moment
returns-clause-any_moment g c = λ told rest t starts.
    let a = g.T.Twin.both c.args.twin.now in
    let b = g.T.Twin.both c.find_missing.new.twin in
    let e = g.T.Twin.both c.open.new.twin in
    let told_b : IsTrue b.told = subst IsTrue (sym c.find_missing.ensures.frame.told) told in
    let told_e : IsTrue e.told = subst IsTrue (sym c.open.ensures.frame.told) told_b in
    let attached = c.find_missing.ensures.rests told in
    let own = same_files a b (λ (p q : List ℕ). StartsFromTwo c.args.generation.now c.args.fingerprint.now p q c.in_ok-store.tables) attached.files (c.in_ok-store.ensures.starts told_b) in
    mended_leaves c.args.generation.now c.args.fingerprint.now t a (g.T.Twin.leaves c.args.twin.now) rest (λ x y out left. g.met.T.Twin.sent_now c.args.twin.now x y out told left) starts b (g.T.Twin.leaves c.find_missing.new.twin) attached e
    (g.T.Twin.leaves c.open.new.twin) (λ filled. (c.open.ensures.still told_b (inl filled)).1) (c.open.ensures.any_moment told_b) (g.T.Twin.both c.mend.new.twin) (g.T.Twin.leaves c.mend.new.twin) c.in_ok-store.store c.in_ok-store.tables
    (c.in_ok-store.ensures.keeps (c.in_ok-store.ensures.is_open (inl refl))) (started_two_once c.args.generation.now c.args.fingerprint.now a.first.holds a.second.holds c.in_ok-store.tables t own starts) (c.open.ensures.frame.sent told_b ∙ attached.sent)
    (c.mend.ensures.any_moment told_e)

-- ---- errors of the opening

pub returns-in_err-store-clause-refused : goal.returns-in_err-store-clause-refused
returns-in_err-store-clause-refused g c = λ is told.
    let a = g.T.Twin.both c.args.twin.now in (
      subst (λ (m : Option Half). IfNone m (IsTrue a.told → MayOpen c.args.alone a)) c.in_default.is c.in_ok-half.ensures.none told,
      same_files (g.T.Twin.both c.args.twin.now) (g.T.Twin.both c.find_missing.new.twin) (λ (p q : List ℕ). IsRefusedTwo c.args.generation.now c.args.fingerprint.now p q) (c.find_missing.ensures.rests told).files
          (c.in_err-store.ensures.refused (files_same _ _ c.from_residual-in_err-store.result c.in_err-store.field-0.0 to.NotKdcfile c.from_residual-in_err-store.ensures.1 is) (subst IsTrue (sym c.find_missing.ensures.frame.told) told)),
    )

pub returns-in_err-store-clause-other : goal.returns-in_err-store-clause-other
returns-in_err-store-clause-other g c = λ stored is told.
    let a = g.T.Twin.both c.args.twin.now in (
      subst (λ (m : Option Half). IfNone m (IsTrue a.told → MayOpen c.args.alone a)) c.in_default.is c.in_ok-half.ensures.none told,
      same_files (g.T.Twin.both c.args.twin.now) (g.T.Twin.both c.find_missing.new.twin) (λ (p q : List ℕ). IsTwoOfOtherTexts stored c.args.fingerprint.now p q) (c.find_missing.ensures.rests told).files
          (c.in_err-store.ensures.other stored (files_same _ _ c.from_residual-in_err-store.result c.in_err-store.field-0.0 (to.OtherGeneration stored) c.from_residual-in_err-store.ensures.1 is) (subst IsTrue (sym c.find_missing.ensures.frame.told) told)),
    )

pub returns-in_err-store-clause-spent : goal.returns-in_err-store-clause-spent
returns-in_err-store-clause-spent g c = λ n is told.
    let a = g.T.Twin.both c.args.twin.now in (
      subst (λ (m : Option Half). IfNone m (IsTrue a.told → MayOpen c.args.alone a)) c.in_default.is c.in_ok-half.ensures.none told,
      same_files (g.T.Twin.both c.args.twin.now) (g.T.Twin.both c.find_missing.new.twin) (λ (p q : List ℕ). IsSpent c.args.generation.now c.args.fingerprint.now n p q) (c.find_missing.ensures.rests told).files
          (c.in_err-store.ensures.spent n (files_same _ _ c.from_residual-in_err-store.result c.in_err-store.field-0.0 (to.Spent n) c.from_residual-in_err-store.ensures.1 is) (subst IsTrue (sym c.find_missing.ensures.frame.told) told)),
    )

pub returns-in_err-store-clause-failed : goal.returns-in_err-store-clause-failed
returns-in_err-store-clause-failed g c = λ is.
    one_rose_then (g.T.Twin.both c.args.twin.now) (g.T.Twin.both c.find_missing.new.twin) (g.T.Twin.both c.open.new.twin) (c.in_ok-half.ensures.fine (no_error _ _))
    (c.in_err-store.ensures.failed (files_same _ _ c.from_residual-in_err-store.result c.in_err-store.field-0.0 to.Failed c.from_residual-in_err-store.ensures.1 is))

pub returns-in_err-half-clause-failed : goal.returns-in_err-half-clause-failed
returns-in_err-half-clause-failed g c = λ is. c.in_err-half.ensures.failed (disk_failed _ _ c.from_residual.result c.in_err-half.field-0.0 c.from_residual.ensures.1 is)

pub returns-in_err-store-clause-names : goal.returns-in_err-store-clause-names
returns-in_err-store-clause-names g c = λ told.
    may_attach_then (g.T.Twin.both c.args.twin.now) (g.T.Twin.both c.find_missing.new.twin) (g.T.Twin.both c.open.new.twin) c.args.base.now (subst IsTrue (sym c.find_missing.ensures.frame.told) told) (c.find_missing.ensures.names told) c.open.ensures.frame

pub returns-clause-names : goal.returns-clause-names
returns-clause-names g c = λ told.
    let a = g.T.Twin.both c.args.twin.now in
    let b = g.T.Twin.both c.find_missing.new.twin in
    let e = g.T.Twin.both c.open.new.twin in
    let told_b : IsTrue b.told = subst IsTrue (sym c.find_missing.ensures.frame.told) told in
    let told_e : IsTrue e.told = subst IsTrue (sym c.open.ensures.frame.told) told_b in
    may_attach_then a e (g.T.Twin.both c.mend.new.twin) c.args.base.now told_e (may_attach_then a b e c.args.base.now told_b (c.find_missing.ensures.names told) c.open.ensures.frame) c.mend.ensures.frame
