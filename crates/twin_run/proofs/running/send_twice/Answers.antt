use Rattle.std.proofs.Common.{inl}
use Rattle.kd_base.specs.ToolsLaws.{error_same}
use Rattle.kdcfile_double.specs.Twice.{identity_of}
use Rattle.device_acts.specs.ErrorsLaws.{other_error}
use Rattle.twin_run.specs.Running.{lines_for, lost_line, mended_line}
use Rattle.twin_run.proofs.Ending.{begins_lines, fails_second, fails_third, fine_line, fine_second, fine_third, kept_still, ran_twice, within_first, within_second, within_third}
use Rattle.twin_run.proofs.running.send_twice.Goals as goal

pub returns-in_err-say_mended-clause-any : goal.returns-in_err-say_mended-clause-any
returns-in_err-say_mended-clause-any g c =
    λ t keeps. within_first (identity_of c.args.store) c.args.store t c.args.acts.now (g.T.Twin.both c.args.twin.now) (g.T.Twin.both c.say_mended.new.twin) (g.T.Twin.leaves c.args.twin.now) (g.T.Twin.leaves c.say_mended.new.twin) (begins_lines c.args.store t (g.T.Twin.both c.args.twin.now) (g.T.Twin.leaves c.args.twin.now) c.copies_are_alike.ensures c.requires.is_open keeps c.requires.kept) c.mended.result c.mended.ensures c.say_mended.ensures.says

pub returns-in_err-lost-clause-any : goal.returns-in_err-lost-clause-any
returns-in_err-lost-clause-any g c =
    λ t keeps. within_second (identity_of c.args.store) c.args.store t c.args.acts.now (g.T.Twin.both c.args.twin.now) (g.T.Twin.both c.say_mended.new.twin) (g.T.Twin.leaves c.args.twin.now) (g.T.Twin.leaves c.say_mended.new.twin) (begins_lines c.args.store t (g.T.Twin.both c.args.twin.now) (g.T.Twin.leaves c.args.twin.now) c.copies_are_alike.ensures c.requires.is_open keeps c.requires.kept) c.mended.result c.mended.ensures c.say_mended.ensures.says c.in_ok-say_mended.ensures.sent (g.T.Twin.both c.send_between.new.twin) (g.T.Twin.leaves c.send_between.new.twin) (c.send_between.ensures.any t keeps)

pub returns-in_err-say_lost-clause-any : goal.returns-in_err-say_lost-clause-any
returns-in_err-say_lost-clause-any g c =
    λ t keeps. within_third (identity_of c.args.store) c.args.store t c.args.acts.now (g.T.Twin.both c.args.twin.now) (g.T.Twin.both c.say_mended.new.twin) (g.T.Twin.leaves c.args.twin.now) (g.T.Twin.leaves c.say_mended.new.twin) (begins_lines c.args.store t (g.T.Twin.both c.args.twin.now) (g.T.Twin.leaves c.args.twin.now) c.copies_are_alike.ensures c.requires.is_open keeps c.requires.kept) c.mended.result c.mended.ensures c.say_mended.ensures.says c.in_ok-say_mended.ensures.sent (g.T.Twin.both c.send_between.new.twin) (g.T.Twin.leaves c.send_between.new.twin) (c.send_between.ensures.any t keeps) c.in_ok-lost.lost (λ told. c.in_ok-lost.ensures.done told t keeps) (g.T.Twin.both c.say_lost.new.twin) (g.T.Twin.leaves c.say_lost.new.twin) c.say_lost.ensures.says

pub returns-clause-any : goal.returns-clause-any
returns-clause-any g c =
    λ t keeps. within_third (identity_of c.args.store) c.args.store t c.args.acts.now (g.T.Twin.both c.args.twin.now) (g.T.Twin.both c.say_mended.new.twin) (g.T.Twin.leaves c.args.twin.now) (g.T.Twin.leaves c.say_mended.new.twin) (begins_lines c.args.store t (g.T.Twin.both c.args.twin.now) (g.T.Twin.leaves c.args.twin.now) c.copies_are_alike.ensures c.requires.is_open keeps c.requires.kept) c.mended.result c.mended.ensures c.say_mended.ensures.says c.in_ok-say_mended.ensures.sent (g.T.Twin.both c.send_between.new.twin) (g.T.Twin.leaves c.send_between.new.twin) (c.send_between.ensures.any t keeps) c.in_ok-lost.lost (λ told. c.in_ok-lost.ensures.done told t keeps) (g.T.Twin.both c.say_lost.new.twin) (g.T.Twin.leaves c.say_lost.new.twin) c.say_lost.ensures.says

pub returns-clause-done : goal.returns-clause-done
returns-clause-done g c =
    λ told t keeps. ran_twice (identity_of c.args.store) c.args.store t c.args.acts.now (g.T.Twin.both c.args.twin.now) (g.T.Twin.both c.say_mended.new.twin) (g.T.Twin.leaves c.args.twin.now) (g.T.Twin.leaves c.say_mended.new.twin) (begins_lines c.args.store t (g.T.Twin.both c.args.twin.now) (g.T.Twin.leaves c.args.twin.now) c.copies_are_alike.ensures c.requires.is_open keeps c.requires.kept) c.mended.result c.mended.ensures c.say_mended.ensures.says c.in_ok-say_mended.ensures.sent (g.T.Twin.both c.send_between.new.twin) (g.T.Twin.leaves c.send_between.new.twin) (c.send_between.ensures.any t keeps) c.in_ok-lost.lost (λ told. c.in_ok-lost.ensures.done told t keeps) (g.T.Twin.both c.say_lost.new.twin) (g.T.Twin.leaves c.say_lost.new.twin) c.say_lost.ensures.says told (g.met.T.Twin.holds_now c.say_lost.new.twin) c.in_ok-say_lost.ensures.sent

pub returns-in_err-say_mended-clause-failed : goal.returns-in_err-say_mended-clause-failed
returns-in_err-say_mended-clause-failed g c =
    λ is. inl (c.in_err-say_mended.ensures.failed (error_same _ _ c.from_residual.result c.in_err-say_mended.field-0.0 _ c.from_residual.ensures.1 is))

pub returns-in_err-lost-clause-failed : goal.returns-in_err-lost-clause-failed
returns-in_err-lost-clause-failed g c =
    λ is. fails_second c.args.store (lines_for mended_line c.mended.result) (g.T.Twin.both c.args.twin.now) (g.T.Twin.both c.say_mended.new.twin) (g.T.Twin.both c.send_between.new.twin) (g.T.Twin.leaves c.args.twin.now) (g.T.Twin.leaves c.say_mended.new.twin) c.say_mended.ensures.says (c.in_err-lost.ensures.failed (error_same _ _ c.from_residual-in_err-lost.result c.in_err-lost.field-0.0 _ c.from_residual-in_err-lost.ensures.1 is))

pub returns-in_err-say_lost-clause-failed : goal.returns-in_err-say_lost-clause-failed
returns-in_err-say_lost-clause-failed g c =
    λ is. fails_third c.args.store (lines_for mended_line c.mended.result) (g.T.Twin.both c.args.twin.now) (g.T.Twin.both c.say_mended.new.twin) (g.T.Twin.both c.send_between.new.twin) (g.T.Twin.both c.say_lost.new.twin) (g.T.Twin.leaves c.args.twin.now) (g.T.Twin.leaves c.say_mended.new.twin) c.say_mended.ensures.says c.send_between.ensures.frame (c.in_err-say_lost.ensures.failed (error_same _ _ c.from_residual-in_err-say_lost.result c.in_err-say_lost.field-0.0 _ c.from_residual-in_err-say_lost.ensures.1 is))

pub send_between-requires-clause-kept : goal.send_between-requires-clause-kept
send_between-requires-clause-kept g c = kept_still c.args.store (lines_for mended_line c.mended.result) (g.T.Twin.both c.args.twin.now) (g.T.Twin.both c.say_mended.new.twin) (g.T.Twin.leaves c.args.twin.now) (g.T.Twin.leaves c.say_mended.new.twin) c.say_mended.ensures.says c.requires.kept

pub returns-in_err-say_mended-clause-fine : goal.returns-in_err-say_mended-clause-fine
returns-in_err-say_mended-clause-fine g c =
    λ none. fine_line c.args.store (lines_for mended_line c.mended.result) (g.T.Twin.both c.args.twin.now) (g.T.Twin.both c.say_mended.new.twin) (g.T.Twin.leaves c.args.twin.now) (g.T.Twin.leaves c.say_mended.new.twin) c.say_mended.ensures.says (c.in_err-say_mended.ensures.fine (other_error _ _ c.from_residual.result c.in_err-say_mended.field-0.0 _ c.from_residual.ensures.1 none)) c.requires.is_open

pub returns-in_err-lost-clause-fine : goal.returns-in_err-lost-clause-fine
returns-in_err-lost-clause-fine g c =
    λ none. fine_second c.args.store (lines_for mended_line c.mended.result) (g.T.Twin.both c.args.twin.now) (g.T.Twin.both c.say_mended.new.twin) (g.T.Twin.leaves c.args.twin.now) (g.T.Twin.leaves c.say_mended.new.twin) c.say_mended.ensures.says (c.in_ok-say_mended.ensures.fine (λ is. absurd cc)) (g.T.Twin.both c.send_between.new.twin) (c.in_err-lost.ensures.fine (other_error _ _ c.from_residual-in_err-lost.result c.in_err-lost.field-0.0 _ c.from_residual-in_err-lost.ensures.1 none))

pub returns-in_err-say_lost-clause-fine : goal.returns-in_err-say_lost-clause-fine
returns-in_err-say_lost-clause-fine g c =
    λ none. fine_third c.args.store (lines_for lost_line c.in_ok-lost.lost) (g.T.Twin.both c.send_between.new.twin) (g.T.Twin.both c.say_lost.new.twin) (g.T.Twin.leaves c.send_between.new.twin) (g.T.Twin.leaves c.say_lost.new.twin) c.say_lost.ensures.says (c.in_err-say_lost.ensures.fine (other_error _ _ c.from_residual-in_err-say_lost.result c.in_err-say_lost.field-0.0 _ c.from_residual-in_err-say_lost.ensures.1 none)) (g.T.Twin.both c.args.twin.now) (fine_second c.args.store (lines_for mended_line c.mended.result) (g.T.Twin.both c.args.twin.now) (g.T.Twin.both c.say_mended.new.twin) (g.T.Twin.leaves c.args.twin.now) (g.T.Twin.leaves c.say_mended.new.twin) c.say_mended.ensures.says (c.in_ok-say_mended.ensures.fine (λ is. absurd cc)) (g.T.Twin.both c.send_between.new.twin) (c.in_ok-lost.ensures.fine (λ is. absurd cc)))

pub returns-clause-fine : goal.returns-clause-fine
returns-clause-fine g c =
    λ none. fine_third c.args.store (lines_for lost_line c.in_ok-lost.lost) (g.T.Twin.both c.send_between.new.twin) (g.T.Twin.both c.say_lost.new.twin) (g.T.Twin.leaves c.send_between.new.twin) (g.T.Twin.leaves c.say_lost.new.twin) c.say_lost.ensures.says (c.in_ok-say_lost.ensures.fine (λ is. absurd cc)) (g.T.Twin.both c.args.twin.now) (fine_second c.args.store (lines_for mended_line c.mended.result) (g.T.Twin.both c.args.twin.now) (g.T.Twin.both c.say_mended.new.twin) (g.T.Twin.leaves c.args.twin.now) (g.T.Twin.leaves c.say_mended.new.twin) c.say_mended.ensures.says (c.in_ok-say_mended.ensures.fine (λ is. absurd cc)) (g.T.Twin.both c.send_between.new.twin) (c.in_ok-lost.ensures.fine (λ is. absurd cc)))
