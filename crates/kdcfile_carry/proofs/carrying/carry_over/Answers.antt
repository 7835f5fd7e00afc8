use Rattle.std.proofs.Common.{◌≡◌, ℕ, Some, inl, inr, sym, subst}
use Rattle.std.specs.Prelude.{IsTrue, is_some}
use Rattle.kd_device.specs.declared.half.Half.TheVariants.{First}
use Rattle.record_codec.specs.Records.{content_of_tables}
use Rattle.kdcfile_double.specs.MakingLaws.{frame_then, rose_then}
use Rattle.kdcfile_double.specs.MendLaws.{copy_open, on_ok}
use Rattle.kd_update.specs.Carrying.{carried}
use Rattle.carry_steps.specs.Deciding.{next_sequence}
use Rattle.kdcfile_carry.specs.Doing.{AreEither}
use Rattle.kdcfile_carry.specs.Keeping.{IsSource, files_in}
use Rattle.kdcfile_carry.specs.Leaving.{StaysWithin}
use Rattle.kdcfile_carry.specs.LeavingLaws.{stays_then, stays_weaker}
use Rattle.kdcfile_carry.specs.WritingLaws.{carried_only, carried_then}
use Rattle.kdcfile_carry.specs.Ways.{carried_files, made_with}
use Rattle.kdcfile_carry.proofs.Changing.{new_copy_files, new_halves, next_none, next_some, now_leaves, one_asked, one_stands_alone, two_asked}
use Rattle.kdcfile_carry.proofs.Steps.{alone_of, alone_then, if_ok_both, if_ok_weaker, none_alone}
use Rattle.kdcfile_carry.proofs.carrying.carry_over.Given.{Over}
use Rattle.kdcfile_carry.proofs.carrying.carry_over.Goals.{After-write_anew}
use Rattle.kdcfile_carry.proofs.carrying.carry_over.Goals as goal

pub write_anew-requires-clause-at_rest : goal.write_anew-requires-clause-at_rest
write_anew-requires-clause-at_rest g c = λ told_b. c.in_ok-change_first.ensures.at_rest (subst IsTrue c.change_first.ensures.frame.told told_b)

pub write_anew-requires-clause-open : goal.write_anew-requires-clause-open
write_anew-requires-clause-open g c = λ told_b.
    let n = next_some (is_some c.args.generation.now.double) c.args.kept.now.sequence (two_asked c.double.result c.args.generation.now.double _ c.double.ensures c.in-Some.is) in
    copy_open (made_with c.args.generation.now c.args.fingerprint.now) n.0 (content_of_tables (carried c.args.generation.now c.args.kept.now.tables)) (g.T.Twin.both c.change_first.new.twin).first.holds
    (c.in_ok-change_first.ensures.source (subst IsTrue c.change_first.ensures.frame.told told_b) n.0 n.1).copy

-- what a stop within the second step leaves
copying : (g : Over) (c : After-write_anew g) → (n : ℕ) → next_sequence (is_some c.args.generation.now.double) c.args.kept.now.sequence ≡ Some n → IsTrue (g.T.Twin.both c.args.twin.now).told
    → StaysWithin (IsSource First (made_with c.args.generation.now c.args.fingerprint.now) n (carried c.args.generation.now c.args.kept.now.tables)) (g.T.Twin.both c.change_first.new.twin) (g.T.Twin.both c.write_anew.new.twin) (g.T.Twin.leaves c.change_first.new.twin) (g.T.Twin.leaves c.write_anew.new.twin)
copying g c n is told =
    c.write_anew.ensures.any_moment (subst IsTrue (sym c.change_first.ensures.frame.told) told) (made_with c.args.generation.now c.args.fingerprint.now) n (carried c.args.generation.now c.args.kept.now.tables) (c.in_ok-change_first.ensures.source told n is)

pub returns-in-Some-clause-any_moment : goal.returns-in-Some-clause-any_moment
returns-in-Some-clause-any_moment g c = λ told.
    let n = next_some (is_some c.args.generation.now.double) c.args.kept.now.sequence (two_asked c.double.result c.args.generation.now.double _ c.double.ensures c.in-Some.is) in
    let f = files_in c.args.kept.now in
    let h = carried_files c.args.generation.now c.args.fingerprint.now f in
    stays_then (g.T.Twin.both c.args.twin.now) (g.T.Twin.both c.change_first.new.twin) (g.T.Twin.leaves c.args.twin.now) (g.T.Twin.leaves c.change_first.new.twin) (AreEither f h) (g.T.Twin.both c.write_anew.new.twin) (g.T.Twin.leaves c.write_anew.new.twin)
    (c.change_first.ensures.any_moment told)
    (stays_weaker (g.T.Twin.both c.change_first.new.twin) (g.T.Twin.both c.write_anew.new.twin) (g.T.Twin.leaves c.change_first.new.twin) (g.T.Twin.leaves c.write_anew.new.twin) (IsSource First h.identity n.0 h.tables) (AreEither f h)
    (λ x y source. inr (new_copy_files h h.identity h.tables h.sequence n.0 n.1 x y source)) (copying g (goal.at.returns-in-Some-clause-any_moment g c).After-write_anew n.0 n.1 told))

pub returns-in-Some-clause-now : goal.returns-in-Some-clause-now
returns-in-Some-clause-now g c = on_ok c.write_anew.result _
    (λ told x y left.
    let n = next_some (is_some c.args.generation.now.double) c.args.kept.now.sequence (two_asked c.double.result c.args.generation.now.double _ c.double.ensures c.in-Some.is) in
    let h = carried_files c.args.generation.now c.args.fingerprint.now (files_in c.args.kept.now) in
    new_copy_files h h.identity h.tables h.sequence n.0 n.1 x y ((copying g (goal.at.returns-in-Some-clause-now g c).After-write_anew n.0 n.1 told).now x y left))

pub returns-in-Some-clause-halves : goal.returns-in-Some-clause-halves
returns-in-Some-clause-halves g c = if_ok_weaker _ _ c.write_anew.result
    (λ lost each told.
    let n = next_some (is_some c.args.generation.now.double) c.args.kept.now.sequence (two_asked c.double.result c.args.generation.now.double _ c.double.ensures c.in-Some.is) in
    let h = carried_files c.args.generation.now c.args.fingerprint.now (files_in c.args.kept.now) in
    new_halves h h.identity h.tables h.sequence n.0 n.1 lost (g.T.Twin.both c.write_anew.new.twin) (each (subst IsTrue (sym c.change_first.ensures.frame.told) told) h.identity n.0 h.tables (c.in_ok-change_first.ensures.source told n.0 n.1)))
    c.write_anew.ensures.halves

pub returns-in-Some-clause-fine : goal.returns-in-Some-clause-fine
returns-in-Some-clause-fine g c = if_ok_both _ _ _ c.write_anew.result
    (λ lost rose same.
    alone_then lost (g.T.Twin.both c.args.twin.now) (g.T.Twin.both c.change_first.new.twin) (g.T.Twin.both c.write_anew.new.twin) c.in_ok-change_first.ensures.fine
    (alone_of First lost (g.T.Twin.both c.change_first.new.twin) (g.T.Twin.both c.write_anew.new.twin) rose same c.write_anew.ensures.line))
    c.write_anew.ensures.lost c.write_anew.ensures.fine

pub returns-in-Some-clause-failed : goal.returns-in-Some-clause-failed
returns-in-Some-clause-failed g c = λ is. inl (rose_then First (g.T.Twin.both c.args.twin.now) (g.T.Twin.both c.change_first.new.twin) (g.T.Twin.both c.write_anew.new.twin) c.in_ok-change_first.ensures.fine (c.write_anew.ensures.failed is))

pub returns-in-Some-clause-frame : goal.returns-in-Some-clause-frame
returns-in-Some-clause-frame g c = frame_then (g.T.Twin.both c.args.twin.now) (g.T.Twin.both c.change_first.new.twin) (g.T.Twin.both c.write_anew.new.twin) c.change_first.ensures.frame c.write_anew.ensures.frame

pub returns-in-None-clause-now : goal.returns-in-None-clause-now
returns-in-None-clause-now g c = λ told.
    now_leaves (carried_files c.args.generation.now c.args.fingerprint.now (files_in c.args.kept.now)) (g.T.Twin.both c.change_first.new.twin) (g.T.Twin.leaves c.change_first.new.twin) (c.in_ok-change_first.ensures.at_rest told) (c.in_ok-change_first.ensures.files told)

pub returns-in-None-clause-halves : goal.returns-in-None-clause-halves
returns-in-None-clause-halves g c = λ told.
    let h = carried_files c.args.generation.now c.args.fingerprint.now (files_in c.args.kept.now) in
    one_stands_alone h.identity h.tables h.sequence (g.T.Twin.both c.change_first.new.twin) (next_none (is_some c.args.generation.now.double) c.args.kept.now.sequence (one_asked c.double.result c.args.generation.now.double c.double.ensures c.in-None.is)) (c.in_ok-change_first.ensures.files told)

pub returns-in-None-clause-fine : goal.returns-in-None-clause-fine
returns-in-None-clause-fine g c = none_alone (g.T.Twin.both c.args.twin.now) (g.T.Twin.both c.change_first.new.twin) c.in_ok-change_first.ensures.fine

pub returns-in_err-change_first-clause-written : goal.returns-in_err-change_first-clause-written
returns-in_err-change_first-clause-written g c = λ told. carried_only c.args.generation.now c.args.fingerprint.now (files_in c.args.kept.now) (g.T.Twin.both c.args.twin.now) (g.T.Twin.both c.change_first.new.twin) (c.change_first.ensures.written told)

pub returns-in-None-clause-written : goal.returns-in-None-clause-written
returns-in-None-clause-written g c = λ told. carried_only c.args.generation.now c.args.fingerprint.now (files_in c.args.kept.now) (g.T.Twin.both c.args.twin.now) (g.T.Twin.both c.change_first.new.twin) (c.change_first.ensures.written told)

pub returns-in-Some-clause-written : goal.returns-in-Some-clause-written
returns-in-Some-clause-written g c = λ told.
    let told_b : IsTrue (g.T.Twin.both c.change_first.new.twin).told = subst IsTrue (sym c.change_first.ensures.frame.told) told in
    carried_then c.args.generation.now c.args.fingerprint.now (files_in c.args.kept.now) (g.T.Twin.both c.args.twin.now) (g.T.Twin.both c.change_first.new.twin) (g.T.Twin.both c.write_anew.new.twin)
    (two_asked c.double.result c.args.generation.now.double _ c.double.ensures c.in-Some.is) (c.change_first.ensures.written told) (c.write_anew.ensures.put_most told_b) (c.write_anew.ensures.source_put told_b) (c.write_anew.ensures.source_stays told_b)
