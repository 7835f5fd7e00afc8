use Rattle.std.proofs.Common.{inl, refl, Ok}
use Rattle.kd_base.specs.ToolsLaws.{error_same}
use Rattle.kdcfile_double.specs.Twice.{identity_of}
use Rattle.device_acts.specs.ErrorsLaws.{other_error}
use Rattle.twin_run.specs.Running.{lines_for, lost_line, mended_line}
use Rattle.twin_run.proofs.Ending.{begins_run, fails_second, fails_third, fine_line, fine_second, fine_third, kept_still, told_still}
use Rattle.twin_run.proofs.Parting.{frame_of_lines, frame_then}
use Rattle.live_cli.proofs.Begun.{none_ok}
use Rattle.live_cli.proofs.Bracketed.{lived_first, lived_second, lived_third}
use Rattle.live_cli.proofs.Handing.{line_failed, line_is_no_input, line_knows_no_other, line_refuses_nothing, line_went}
use Rattle.live_cli.proofs.double.live_twice.Goals as goal

pub live_between-requires-clause-kept : goal.live_between-requires-clause-kept
live_between-requires-clause-kept g c =
    kept_still c.args.store (lines_for mended_line c.mended.result) (g.T.Twin.both c.args.twin.now) (g.T.Twin.both c.say_mended.new.twin) (g.T.Twin.leaves c.args.twin.now) (g.T.Twin.leaves c.say_mended.new.twin) c.say_mended.ensures.says c.requires.kept

pub returns-in_err-say_mended-clause-frame : goal.returns-in_err-say_mended-clause-frame
returns-in_err-say_mended-clause-frame g c =
    frame_of_lines (lines_for mended_line c.mended.result) (g.T.Twin.both c.args.twin.now) (g.T.Twin.both c.say_mended.new.twin) (g.T.Twin.leaves c.args.twin.now) (g.T.Twin.leaves c.say_mended.new.twin) c.say_mended.ensures.says

pub returns-in_err-lost-clause-frame : goal.returns-in_err-lost-clause-frame
returns-in_err-lost-clause-frame g c =
    frame_then (g.T.Twin.both c.args.twin.now) (g.T.Twin.both c.say_mended.new.twin) (g.T.Twin.both c.live_between.new.twin) (frame_of_lines (lines_for mended_line c.mended.result) (g.T.Twin.both c.args.twin.now) (g.T.Twin.both c.say_mended.new.twin) (g.T.Twin.leaves c.args.twin.now) (g.T.Twin.leaves c.say_mended.new.twin) c.say_mended.ensures.says) c.live_between.ensures.frame

pub returns-in_err-say_lost-clause-frame : goal.returns-in_err-say_lost-clause-frame
returns-in_err-say_lost-clause-frame g c =
    frame_then (g.T.Twin.both c.args.twin.now) (g.T.Twin.both c.live_between.new.twin) (g.T.Twin.both c.say_lost.new.twin) (frame_then (g.T.Twin.both c.args.twin.now) (g.T.Twin.both c.say_mended.new.twin) (g.T.Twin.both c.live_between.new.twin) (frame_of_lines (lines_for mended_line c.mended.result) (g.T.Twin.both c.args.twin.now) (g.T.Twin.both c.say_mended.new.twin) (g.T.Twin.leaves c.args.twin.now) (g.T.Twin.leaves c.say_mended.new.twin) c.say_mended.ensures.says) c.live_between.ensures.frame) (frame_of_lines (lines_for lost_line c.in_ok-lost.lost) (g.T.Twin.both c.live_between.new.twin) (g.T.Twin.both c.say_lost.new.twin) (g.T.Twin.leaves c.live_between.new.twin) (g.T.Twin.leaves c.say_lost.new.twin) c.say_lost.ensures.says)

pub returns-clause-frame : goal.returns-clause-frame
returns-clause-frame g c =
    frame_then (g.T.Twin.both c.args.twin.now) (g.T.Twin.both c.live_between.new.twin) (g.T.Twin.both c.say_lost.new.twin) (frame_then (g.T.Twin.both c.args.twin.now) (g.T.Twin.both c.say_mended.new.twin) (g.T.Twin.both c.live_between.new.twin) (frame_of_lines (lines_for mended_line c.mended.result) (g.T.Twin.both c.args.twin.now) (g.T.Twin.both c.say_mended.new.twin) (g.T.Twin.leaves c.args.twin.now) (g.T.Twin.leaves c.say_mended.new.twin) c.say_mended.ensures.says) c.live_between.ensures.frame) (frame_of_lines (lines_for lost_line c.in_ok-lost.lost) (g.T.Twin.both c.live_between.new.twin) (g.T.Twin.both c.say_lost.new.twin) (g.T.Twin.leaves c.live_between.new.twin) (g.T.Twin.leaves c.say_lost.new.twin) c.say_lost.ensures.says)

pub returns-in_err-say_mended-clause-lived : goal.returns-in_err-say_mended-clause-lived
returns-in_err-say_mended-clause-lived g c =
    λ told. lived_first (identity_of c.args.store) c.args.store c.args.core (g.I.Typing.typing c.args.typing.now) (g.T.Twin.both c.args.twin.now) (g.T.Twin.both c.say_mended.new.twin) (g.T.Twin.leaves c.args.twin.now) (g.T.Twin.leaves c.say_mended.new.twin) (begins_run c.args.fingerprint.now c.args.core c.args.store (g.T.Twin.both c.args.twin.now) (g.T.Twin.leaves c.args.twin.now) c.copies_are_alike.ensures c.requires.is_open c.requires.running c.requires.kept) c.mended.result c.mended.ensures c.say_mended.ensures.says told c.from_residual.result _ c.from_residual.ensures.1

pub returns-in_err-lost-clause-lived : goal.returns-in_err-lost-clause-lived
returns-in_err-lost-clause-lived g c =
    λ told. lived_second (identity_of c.args.store) c.args.store c.args.core (g.I.Typing.typing c.args.typing.now) (g.T.Twin.both c.args.twin.now) (g.T.Twin.both c.say_mended.new.twin) (g.T.Twin.leaves c.args.twin.now) (g.T.Twin.leaves c.say_mended.new.twin) (begins_run c.args.fingerprint.now c.args.core c.args.store (g.T.Twin.both c.args.twin.now) (g.T.Twin.leaves c.args.twin.now) c.copies_are_alike.ensures c.requires.is_open c.requires.running c.requires.kept) c.mended.result c.mended.ensures c.say_mended.ensures.says told c.in_ok-say_mended.ensures.sent (g.T.Twin.both c.live_between.new.twin) (g.T.Twin.leaves c.live_between.new.twin) c.live_between.ensures.frame c.live_between.result (c.live_between.ensures.lived (told_still (lines_for mended_line c.mended.result) (g.T.Twin.both c.args.twin.now) (g.T.Twin.both c.say_mended.new.twin) (g.T.Twin.leaves c.args.twin.now) (g.T.Twin.leaves c.say_mended.new.twin) c.say_mended.ensures.says told)) c.from_residual-in_err-lost.result _ c.from_residual-in_err-lost.ensures.1

pub returns-in_err-say_lost-clause-lived : goal.returns-in_err-say_lost-clause-lived
returns-in_err-say_lost-clause-lived g c =
    λ told. lived_third (identity_of c.args.store) c.args.store c.args.core (g.I.Typing.typing c.args.typing.now) (g.T.Twin.both c.args.twin.now) (g.T.Twin.both c.say_mended.new.twin) (g.T.Twin.leaves c.args.twin.now) (g.T.Twin.leaves c.say_mended.new.twin) (begins_run c.args.fingerprint.now c.args.core c.args.store (g.T.Twin.both c.args.twin.now) (g.T.Twin.leaves c.args.twin.now) c.copies_are_alike.ensures c.requires.is_open c.requires.running c.requires.kept) c.mended.result c.mended.ensures c.say_mended.ensures.says told c.in_ok-say_mended.ensures.sent (g.T.Twin.both c.live_between.new.twin) (g.T.Twin.leaves c.live_between.new.twin) c.live_between.ensures.frame (Ok c.in_ok-lost.lost) (c.in_ok-lost.ensures.lived (told_still (lines_for mended_line c.mended.result) (g.T.Twin.both c.args.twin.now) (g.T.Twin.both c.say_mended.new.twin) (g.T.Twin.leaves c.args.twin.now) (g.T.Twin.leaves c.say_mended.new.twin) c.say_mended.ensures.says told)) c.in_ok-lost.lost refl (g.T.Twin.both c.say_lost.new.twin) (g.T.Twin.leaves c.say_lost.new.twin) c.say_lost.ensures.says c.from_residual-in_err-say_lost.result (g.met.T.Twin.holds_now c.say_lost.new.twin) (none_ok c.from_residual-in_err-say_lost.result _ _ c.from_residual-in_err-say_lost.ensures.1)

pub returns-clause-lived : goal.returns-clause-lived
returns-clause-lived g c =
    λ told. lived_third (identity_of c.args.store) c.args.store c.args.core (g.I.Typing.typing c.args.typing.now) (g.T.Twin.both c.args.twin.now) (g.T.Twin.both c.say_mended.new.twin) (g.T.Twin.leaves c.args.twin.now) (g.T.Twin.leaves c.say_mended.new.twin) (begins_run c.args.fingerprint.now c.args.core c.args.store (g.T.Twin.both c.args.twin.now) (g.T.Twin.leaves c.args.twin.now) c.copies_are_alike.ensures c.requires.is_open c.requires.running c.requires.kept) c.mended.result c.mended.ensures c.say_mended.ensures.says told c.in_ok-say_mended.ensures.sent (g.T.Twin.both c.live_between.new.twin) (g.T.Twin.leaves c.live_between.new.twin) c.live_between.ensures.frame (Ok c.in_ok-lost.lost) (c.in_ok-lost.ensures.lived (told_still (lines_for mended_line c.mended.result) (g.T.Twin.both c.args.twin.now) (g.T.Twin.both c.say_mended.new.twin) (g.T.Twin.leaves c.args.twin.now) (g.T.Twin.leaves c.say_mended.new.twin) c.say_mended.ensures.says told)) c.in_ok-lost.lost refl (g.T.Twin.both c.say_lost.new.twin) (g.T.Twin.leaves c.say_lost.new.twin) c.say_lost.ensures.says (Ok tt) (g.met.T.Twin.holds_now c.say_lost.new.twin) c.in_ok-say_lost.ensures.sent

pub returns-in_err-say_mended-clause-failed : goal.returns-in_err-say_mended-clause-failed
returns-in_err-say_mended-clause-failed g c =
    λ is. inl (c.in_err-say_mended.ensures.failed (line_failed _ _ c.from_residual.result c.in_err-say_mended.field-0.0 c.from_residual.ensures.1 is))

pub returns-in_err-lost-clause-failed : goal.returns-in_err-lost-clause-failed
returns-in_err-lost-clause-failed g c =
    λ is. fails_second c.args.store (lines_for mended_line c.mended.result) (g.T.Twin.both c.args.twin.now) (g.T.Twin.both c.say_mended.new.twin) (g.T.Twin.both c.live_between.new.twin) (g.T.Twin.leaves c.args.twin.now) (g.T.Twin.leaves c.say_mended.new.twin) c.say_mended.ensures.says (c.in_err-lost.ensures.failed (error_same _ _ c.from_residual-in_err-lost.result c.in_err-lost.field-0.0 _ c.from_residual-in_err-lost.ensures.1 is))

pub returns-in_err-say_lost-clause-failed : goal.returns-in_err-say_lost-clause-failed
returns-in_err-say_lost-clause-failed g c =
    λ is. fails_third c.args.store (lines_for mended_line c.mended.result) (g.T.Twin.both c.args.twin.now) (g.T.Twin.both c.say_mended.new.twin) (g.T.Twin.both c.live_between.new.twin) (g.T.Twin.both c.say_lost.new.twin) (g.T.Twin.leaves c.args.twin.now) (g.T.Twin.leaves c.say_mended.new.twin) c.say_mended.ensures.says c.live_between.ensures.frame (c.in_err-say_lost.ensures.failed (line_failed _ _ c.from_residual-in_err-say_lost.result c.in_err-say_lost.field-0.0 c.from_residual-in_err-say_lost.ensures.1 is))

pub returns-in_err-say_mended-clause-refused : goal.returns-in_err-say_mended-clause-refused
returns-in_err-say_mended-clause-refused g c =
    λ is told. line_refuses_nothing _ Unit c.from_residual.result c.in_err-say_mended.field-0.0 c.from_residual.ensures.1 is

pub returns-in_err-say_mended-clause-other : goal.returns-in_err-say_mended-clause-other
returns-in_err-say_mended-clause-other g c =
    λ stored is told. line_knows_no_other _ Unit c.from_residual.result c.in_err-say_mended.field-0.0 c.from_residual.ensures.1 stored is

pub returns-in_err-say_mended-clause-input : goal.returns-in_err-say_mended-clause-input
returns-in_err-say_mended-clause-input g c =
    λ is. absurd (line_is_no_input _ Unit c.from_residual.result c.in_err-say_mended.field-0.0 c.from_residual.ensures.1 is)

pub returns-in_err-say_lost-clause-refused : goal.returns-in_err-say_lost-clause-refused
returns-in_err-say_lost-clause-refused g c =
    λ is told. line_refuses_nothing _ Unit c.from_residual-in_err-say_lost.result c.in_err-say_lost.field-0.0 c.from_residual-in_err-say_lost.ensures.1 is

pub returns-in_err-say_lost-clause-other : goal.returns-in_err-say_lost-clause-other
returns-in_err-say_lost-clause-other g c =
    λ stored is told. line_knows_no_other _ Unit c.from_residual-in_err-say_lost.result c.in_err-say_lost.field-0.0 c.from_residual-in_err-say_lost.ensures.1 stored is

pub returns-in_err-say_lost-clause-input : goal.returns-in_err-say_lost-clause-input
returns-in_err-say_lost-clause-input g c =
    λ is. absurd (line_is_no_input _ Unit c.from_residual-in_err-say_lost.result c.in_err-say_lost.field-0.0 c.from_residual-in_err-say_lost.ensures.1 is)

pub returns-in_err-lost-clause-refused : goal.returns-in_err-lost-clause-refused
returns-in_err-lost-clause-refused g c =
    λ is told. c.in_err-lost.ensures.refused (error_same _ _ c.from_residual-in_err-lost.result c.in_err-lost.field-0.0 _ c.from_residual-in_err-lost.ensures.1 is) (told_still (lines_for mended_line c.mended.result) (g.T.Twin.both c.args.twin.now) (g.T.Twin.both c.say_mended.new.twin) (g.T.Twin.leaves c.args.twin.now) (g.T.Twin.leaves c.say_mended.new.twin) c.say_mended.ensures.says told)

pub returns-in_err-lost-clause-other : goal.returns-in_err-lost-clause-other
returns-in_err-lost-clause-other g c =
    λ stored is told. c.in_err-lost.ensures.other stored (error_same _ _ c.from_residual-in_err-lost.result c.in_err-lost.field-0.0 _ c.from_residual-in_err-lost.ensures.1 is) (told_still (lines_for mended_line c.mended.result) (g.T.Twin.both c.args.twin.now) (g.T.Twin.both c.say_mended.new.twin) (g.T.Twin.leaves c.args.twin.now) (g.T.Twin.leaves c.say_mended.new.twin) c.say_mended.ensures.says told)

pub returns-in_err-lost-clause-input : goal.returns-in_err-lost-clause-input
returns-in_err-lost-clause-input g c =
    λ is. c.in_err-lost.ensures.input (error_same _ _ c.from_residual-in_err-lost.result c.in_err-lost.field-0.0 _ c.from_residual-in_err-lost.ensures.1 is)

pub returns-in_err-lost-clause-heard : goal.returns-in_err-lost-clause-heard
returns-in_err-lost-clause-heard g c =
    λ none. c.in_err-lost.ensures.heard (other_error _ _ c.from_residual-in_err-lost.result c.in_err-lost.field-0.0 _ c.from_residual-in_err-lost.ensures.1 none)

pub returns-in_err-say_lost-clause-heard : goal.returns-in_err-say_lost-clause-heard
returns-in_err-say_lost-clause-heard g c =
    λ none. c.in_ok-lost.ensures.heard (λ is. absurd cc)

pub returns-clause-heard : goal.returns-clause-heard
returns-clause-heard g c =
    λ none. c.in_ok-lost.ensures.heard (λ is. absurd cc)

pub returns-in_err-say_mended-clause-fine : goal.returns-in_err-say_mended-clause-fine
returns-in_err-say_mended-clause-fine g c =
    λ none. fine_line c.args.store (lines_for mended_line c.mended.result) (g.T.Twin.both c.args.twin.now) (g.T.Twin.both c.say_mended.new.twin) (g.T.Twin.leaves c.args.twin.now) (g.T.Twin.leaves c.say_mended.new.twin) c.say_mended.ensures.says (c.in_err-say_mended.ensures.fine (line_went _ _ c.from_residual.result c.in_err-say_mended.field-0.0 c.from_residual.ensures.1 none)) c.requires.is_open

pub returns-in_err-lost-clause-fine : goal.returns-in_err-lost-clause-fine
returns-in_err-lost-clause-fine g c =
    λ none. fine_second c.args.store (lines_for mended_line c.mended.result) (g.T.Twin.both c.args.twin.now) (g.T.Twin.both c.say_mended.new.twin) (g.T.Twin.leaves c.args.twin.now) (g.T.Twin.leaves c.say_mended.new.twin) c.say_mended.ensures.says (c.in_ok-say_mended.ensures.fine (λ is. absurd cc)) (g.T.Twin.both c.live_between.new.twin) (c.in_err-lost.ensures.fine (other_error _ _ c.from_residual-in_err-lost.result c.in_err-lost.field-0.0 _ c.from_residual-in_err-lost.ensures.1 none))

pub returns-in_err-say_lost-clause-fine : goal.returns-in_err-say_lost-clause-fine
returns-in_err-say_lost-clause-fine g c =
    λ none. fine_third c.args.store (lines_for lost_line c.in_ok-lost.lost) (g.T.Twin.both c.live_between.new.twin) (g.T.Twin.both c.say_lost.new.twin) (g.T.Twin.leaves c.live_between.new.twin) (g.T.Twin.leaves c.say_lost.new.twin) c.say_lost.ensures.says (c.in_err-say_lost.ensures.fine (line_went _ _ c.from_residual-in_err-say_lost.result c.in_err-say_lost.field-0.0 c.from_residual-in_err-say_lost.ensures.1 none)) (g.T.Twin.both c.args.twin.now) (fine_second c.args.store (lines_for mended_line c.mended.result) (g.T.Twin.both c.args.twin.now) (g.T.Twin.both c.say_mended.new.twin) (g.T.Twin.leaves c.args.twin.now) (g.T.Twin.leaves c.say_mended.new.twin) c.say_mended.ensures.says (c.in_ok-say_mended.ensures.fine (λ is. absurd cc)) (g.T.Twin.both c.live_between.new.twin) (c.in_ok-lost.ensures.fine (λ is. absurd cc)))

pub returns-clause-fine : goal.returns-clause-fine
returns-clause-fine g c =
    λ none. fine_third c.args.store (lines_for lost_line c.in_ok-lost.lost) (g.T.Twin.both c.live_between.new.twin) (g.T.Twin.both c.say_lost.new.twin) (g.T.Twin.leaves c.live_between.new.twin) (g.T.Twin.leaves c.say_lost.new.twin) c.say_lost.ensures.says (c.in_ok-say_lost.ensures.fine (λ is. absurd cc)) (g.T.Twin.both c.args.twin.now) (fine_second c.args.store (lines_for mended_line c.mended.result) (g.T.Twin.both c.args.twin.now) (g.T.Twin.both c.say_mended.new.twin) (g.T.Twin.leaves c.args.twin.now) (g.T.Twin.leaves c.say_mended.new.twin) c.say_mended.ensures.says (c.in_ok-say_mended.ensures.fine (λ is. absurd cc)) (g.T.Twin.both c.live_between.new.twin) (c.in_ok-lost.ensures.fine (λ is. absurd cc)))
