use Rattle.std.proofs.Common.{◌≡◌, ◌⊎◌, IsTrue, Some, inl, refl, sym, subst}
use Rattle.kd_device.specs.Twin.{disk_of, other}
use Rattle.kd_device.specs.declared.half.Half.{Half}
use Rattle.kd_device.specs.declared.half.Half.TheVariants.{First}
use Rattle.kdcfile_copies.specs.declared.answer.LoadedCopy.{LoadedCopy}
use Rattle.kdcfile_copies.specs.Copies.{IsCopyOf}
use Rattle.kdcfile_store.specs.Paged.{HasFile}
use Rattle.kdcfile_double.specs.Twice.{Twice, IsInUse, IsKeptTwice, RoseAt, copy_at, identity_of, sequence_of, content_of}
use Rattle.kdcfile_double.specs.Mended.{TakesAfter}
use Rattle.kdcfile_double.specs.MendLaws.{after_mended, both_rest, copy_open, copying_pairs, each_rests, frame_of_halves, holds_copy, kept_lost, kept_mended, mended_pairs, on_ok, on_ok_then}
use Rattle.kdcfile_double.specs.MendLaws.{copying_fine, mending_fine, other_other, target_is}
use Rattle.kdcfile_double.proofs.store.TwinStore.mend.Goals as goal

pub returns-in_default-clause-lost : goal.returns-in_default-clause-lost
returns-in_default-clause-lost g c = record { stays = λ half is. is; newly = λ half is. inl is; unused = c.copies_are_alike.ensures.lost_is_unused }

pub copy_over-requires-clause-open : goal.copy_over-requires-clause-open
copy_over-requires-clause-open g c = λ told.
    copy_open (identity_of c.args.self.now) (sequence_of c.args.self.now) (content_of c.args.self.now) (disk_of c.in-Some.source (g.T.Twin.both c.args.twin.now)).holds
    (holds_copy c.in-Some.source c.args.self.now (g.T.Twin.both c.args.twin.now) (g.T.Twin.leaves c.args.twin.now) c.copies_are_alike.ensures.alike (c.requires.kept told) (g.met.T.Twin.holds_now c.args.twin.now told) c.in-Some.ensures.some.0.0 c.in-Some.ensures.some.0.1)

pub take_mended-requires-clause-rest : goal.take_mended-requires-clause-rest
take_mended-requires-clause-rest g c = λ told. both_rest (g.T.Twin.both c.copy_over.new.twin) (g.T.Twin.leaves c.copy_over.new.twin) (c.in-Ok.ensures.rest (subst IsTrue (c.copy_over.ensures.frame First).told told))

pub returns-in-Ok-clause-kept : goal.returns-in-Ok-clause-kept
returns-in-Ok-clause-kept g c =
    on_ok c.take_mended.result _
    (λ told.
    let told_then = (subst IsTrue (sym (c.copy_over.ensures.frame First).told) told) in
    let kept = c.take_mended.ensures.kept told_then in
    kept_mended c.in-Some.source c.args.self.now c.in-Some.ensures.some.0 c.in-Some.ensures.some.1 (g.T.Twin.both c.args.twin.now) (g.T.Twin.both c.copy_over.new.twin) (g.T.Twin.leaves c.args.twin.now) (g.T.Twin.leaves c.copy_over.new.twin) c.copies_are_alike.ensures.alike (c.requires.kept told) (g.met.T.Twin.holds_now c.args.twin.now told) (c.copy_over.ensures.sent told) (c.copy_over.ensures.source told).holds (c.copy_over.ensures.any_moment told) (c.in-Ok.ensures.copied told) (g.T.Twin.both c.take_mended.new.twin) (g.T.Twin.leaves c.take_mended.new.twin) c.take_mended.new.self c.take_mended.result
    (subst (λ (h : Half). TakesAfter h c.args.self.now c.take_mended.new.self (g.T.Twin.both c.copy_over.new.twin) (g.T.Twin.both c.take_mended.new.twin) c.take_mended.result) c.other.ensures c.take_mended.ensures.takes) kept.1
    (subst (λ (h : Half). disk_of (other h) (g.T.Twin.both c.take_mended.new.twin) ≡ disk_of (other h) (g.T.Twin.both c.copy_over.new.twin)) c.other.ensures c.take_mended.ensures.other_half)
    (subst (λ (h : Half). (disk_of h (g.T.Twin.both c.take_mended.new.twin)).holds ≡ (disk_of h (g.T.Twin.both c.copy_over.new.twin)).holds) c.other.ensures (c.take_mended.ensures.same_bytes told_then))
    (subst (λ (h : Half). (q : LoadedCopy) → copy_at h c.take_mended.new.self ≡ Some q → HasFile q.store (disk_of h (g.T.Twin.both c.copy_over.new.twin)).holds) c.other.ensures kept.0))

pub returns-in-Ok-clause-mended : goal.returns-in-Ok-clause-mended
returns-in-Ok-clause-mended g c =
    on_ok_then c.take_mended.result _ _
    (λ found told.
    let is = target_is c.in-Some.source c.args.self.now c.in-Some.ensures.some.0 c.in-Some.ensures.some.1 (g.T.Twin.both c.args.twin.now) (g.T.Twin.both c.copy_over.new.twin) (g.T.Twin.leaves c.args.twin.now) (g.T.Twin.leaves c.copy_over.new.twin) c.copies_are_alike.ensures.alike (c.requires.kept told) (g.met.T.Twin.holds_now c.args.twin.now told) (c.copy_over.ensures.sent told) (c.copy_over.ensures.source told).holds (c.copy_over.ensures.any_moment told) (c.in-Ok.ensures.copied told) in
    after_mended c.in-Some.source c.args.self.now c.in-Some.ensures.some.0 c.in-Some.ensures.some.1 c.take_mended.new.self (g.T.Twin.both c.args.twin.now) (g.T.Twin.both c.copy_over.new.twin) (g.T.Twin.both c.take_mended.new.twin) c.take_mended.result (subst (λ (h : Half). TakesAfter h c.args.self.now c.take_mended.new.self (g.T.Twin.both c.copy_over.new.twin) (g.T.Twin.both c.take_mended.new.twin) c.take_mended.result) c.other.ensures c.take_mended.ensures.takes)
    (subst (λ (h : Half). (c.take_mended.new.self.mended ≡ Some h) × IsInUse h c.take_mended.new.self ⊎ (c.take_mended.new.self.lost ≡ Some h)) c.other.ensures
    (found (subst IsTrue (sym (c.copy_over.ensures.frame First).told) told) (subst (λ (h : Half). IsCopyOf (identity_of c.args.self.now) (sequence_of c.args.self.now) (content_of c.args.self.now) (disk_of h (g.T.Twin.both c.copy_over.new.twin)).holds) (sym c.other.ensures) is))))
    c.take_mended.ensures.found

pub returns-in-Ok-clause-any_moment : goal.returns-in-Ok-clause-any_moment
returns-in-Ok-clause-any_moment g c = λ told. mended_pairs c.in-Some.source c.args.self.now c.in-Some.ensures.some.0 c.in-Some.ensures.some.1 (g.T.Twin.both c.args.twin.now) (g.T.Twin.both c.copy_over.new.twin) (g.T.Twin.leaves c.args.twin.now) (g.T.Twin.leaves c.copy_over.new.twin) c.copies_are_alike.ensures.alike (c.requires.kept told) (g.met.T.Twin.holds_now c.args.twin.now told) (c.copy_over.ensures.sent told) (c.copy_over.ensures.source told).holds (c.copy_over.ensures.any_moment told) (c.in-Ok.ensures.copied told) (g.T.Twin.both c.take_mended.new.twin) (g.T.Twin.leaves c.take_mended.new.twin) (c.take_mended.ensures.any_moment (subst IsTrue (sym (c.copy_over.ensures.frame First).told) told))

pub returns-in-Err-Target-clause-kept : goal.returns-in-Err-Target-clause-kept
returns-in-Err-Target-clause-kept g c = λ told.
    subst (λ (s : Twice). IsKeptTwice s (g.T.Twin.both c.copy_over.new.twin) (g.T.Twin.leaves c.copy_over.new.twin)) (sym c.lose.ensures.lost)
    (kept_lost c.in-Some.source c.args.self.now c.in-Some.ensures.some.0 c.in-Some.ensures.some.1 (g.T.Twin.both c.args.twin.now) (g.T.Twin.both c.copy_over.new.twin) (g.T.Twin.leaves c.args.twin.now) (g.T.Twin.leaves c.copy_over.new.twin) c.copies_are_alike.ensures.alike (c.requires.kept told) (g.met.T.Twin.holds_now c.args.twin.now told) (c.copy_over.ensures.sent told) (c.copy_over.ensures.source told).holds (c.copy_over.ensures.any_moment told) (each_rests (g.T.Twin.both c.args.twin.now) (g.T.Twin.leaves c.args.twin.now) (c.requires.at_rest told)) (λ t u x d out le left. g.met.T.Twin.earlier c.copy_over.new.twin t u x d out (subst IsTrue (sym (c.copy_over.ensures.frame First).told) told) le left) (c.copy_over.ensures.source_rests told) (Some c.other-in-Err-Target.result))

pub returns-in-Err-Target-clause-any_moment : goal.returns-in-Err-Target-clause-any_moment
returns-in-Err-Target-clause-any_moment g c = λ told. copying_pairs c.in-Some.source c.args.self.now c.in-Some.ensures.some.0 c.in-Some.ensures.some.1 (g.T.Twin.both c.args.twin.now) (g.T.Twin.both c.copy_over.new.twin) (g.T.Twin.leaves c.args.twin.now) (g.T.Twin.leaves c.copy_over.new.twin) c.copies_are_alike.ensures.alike (c.requires.kept told) (g.met.T.Twin.holds_now c.args.twin.now told) (c.copy_over.ensures.sent told) (c.copy_over.ensures.source told).holds (c.copy_over.ensures.any_moment told)

pub returns-in-Err-Target-clause-frame : goal.returns-in-Err-Target-clause-frame
returns-in-Err-Target-clause-frame g c = frame_of_halves (g.T.Twin.both c.args.twin.now) (g.T.Twin.both c.copy_over.new.twin) c.copy_over.ensures.frame c.copy_over.ensures.names c.copy_over.ensures.sent

pub returns-in-Err-Source-clause-any_moment : goal.returns-in-Err-Source-clause-any_moment
returns-in-Err-Source-clause-any_moment g c = λ told. copying_pairs c.in-Some.source c.args.self.now c.in-Some.ensures.some.0 c.in-Some.ensures.some.1 (g.T.Twin.both c.args.twin.now) (g.T.Twin.both c.copy_over.new.twin) (g.T.Twin.leaves c.args.twin.now) (g.T.Twin.leaves c.copy_over.new.twin) c.copies_are_alike.ensures.alike (c.requires.kept told) (g.met.T.Twin.holds_now c.args.twin.now told) (c.copy_over.ensures.sent told) (c.copy_over.ensures.source told).holds (c.copy_over.ensures.any_moment told)

pub returns-in-Err-Source-clause-frame : goal.returns-in-Err-Source-clause-frame
returns-in-Err-Source-clause-frame g c = frame_of_halves (g.T.Twin.both c.args.twin.now) (g.T.Twin.both c.copy_over.new.twin) c.copy_over.ensures.frame c.copy_over.ensures.names c.copy_over.ensures.sent

pub returns-in-Err-Memory-clause-any_moment : goal.returns-in-Err-Memory-clause-any_moment
returns-in-Err-Memory-clause-any_moment g c = λ told. copying_pairs c.in-Some.source c.args.self.now c.in-Some.ensures.some.0 c.in-Some.ensures.some.1 (g.T.Twin.both c.args.twin.now) (g.T.Twin.both c.copy_over.new.twin) (g.T.Twin.leaves c.args.twin.now) (g.T.Twin.leaves c.copy_over.new.twin) c.copies_are_alike.ensures.alike (c.requires.kept told) (g.met.T.Twin.holds_now c.args.twin.now told) (c.copy_over.ensures.sent told) (c.copy_over.ensures.source told).holds (c.copy_over.ensures.any_moment told)

pub returns-in-Err-Memory-clause-frame : goal.returns-in-Err-Memory-clause-frame
returns-in-Err-Memory-clause-frame g c = frame_of_halves (g.T.Twin.both c.args.twin.now) (g.T.Twin.both c.copy_over.new.twin) c.copy_over.ensures.frame c.copy_over.ensures.names c.copy_over.ensures.sent

pub returns-in_default-clause-went : goal.returns-in_default-clause-went
returns-in_default-clause-went g c = λ none. record { spared = λ half used. refl; line = inl refl }

pub returns-in-Ok-clause-went : goal.returns-in-Ok-clause-went
returns-in-Ok-clause-went g c = λ none.
    let b = g.T.Twin.both c.copy_over.new.twin in
    let e = g.T.Twin.both c.take_mended.new.twin in
    mending_fine c.in-Some.source c.args.self.now c.in-Some.ensures.some.0 c.in-Some.ensures.some.1 (g.T.Twin.both c.args.twin.now) b e (c.in-Ok.ensures.fine_source (λ is. absurd cc)) (c.in-Ok.ensures.fine_target (λ is. absurd cc)) c.copy_over.ensures.line
    (subst (λ (h : Half). disk_of h e ≡ disk_of h b) (other_other c.in-Some.source) (subst (λ (h : Half). disk_of (other h) e ≡ disk_of (other h) b) c.other.ensures c.take_mended.ensures.other_half))
    (subst (λ (h : Half). (e.line_faults ≡ b.line_faults) ⊎ RoseAt h b e) c.other.ensures c.take_mended.ensures.line)

pub returns-in-Err-Target-clause-went : goal.returns-in-Err-Target-clause-went
returns-in-Err-Target-clause-went g c = λ none. copying_fine c.in-Some.source c.args.self.now c.in-Some.ensures.some.0 c.in-Some.ensures.some.1 (g.T.Twin.both c.args.twin.now) (g.T.Twin.both c.copy_over.new.twin) (c.copy_over.ensures.fine_source (λ is. absurd cc)) c.copy_over.ensures.line

pub returns-in-Err-Source-clause-went : goal.returns-in-Err-Source-clause-went
returns-in-Err-Source-clause-went g c = λ none. absurd (none refl)

pub returns-in-Err-Memory-clause-went : goal.returns-in-Err-Memory-clause-went
returns-in-Err-Memory-clause-went g c = λ none. copying_fine c.in-Some.source c.args.self.now c.in-Some.ensures.some.0 c.in-Some.ensures.some.1 (g.T.Twin.both c.args.twin.now) (g.T.Twin.both c.copy_over.new.twin) (c.copy_over.ensures.fine_source (λ is. absurd cc)) c.copy_over.ensures.line
