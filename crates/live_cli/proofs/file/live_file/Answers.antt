use Rattle.kd_device.specs.TimeLaws.{faults_then, rose_either, told_after}
use Rattle.kdcs_types.specs.Tables.{empty_tables}
use Rattle.std.proofs.Common.{inl, refl}
use Rattle.device_acts.specs.ErrorsLaws.{no_error}
use Rattle.call_parts.specs.Asking.{gen_errand}
use Rattle.kdcfile_double.specs.MendLaws.{on_ok}
use Rattle.live_cli.proofs.Handing.{none_handed, other_handed}
use Rattle.live_cli.proofs.Opened.{later, left_at_once, not_opened, opened}
use Rattle.live_cli.proofs.file.live_file.Goals as goal

-- ---- the file is not opened

pub returns-in_err-store-clause-lived : goal.returns-in_err-store-clause-lived
returns-in_err-store-clause-lived g c = λ told only t starts.
    not_opened (gen_errand c.args.work) t (g.I.Typing.typing c.args.typing.now) (g.D.Device.state c.args.device.now) (g.D.Device.leaves c.args.device.now) only (λ image out left. g.met.D.Device.sent_now c.args.device.now image out told left) starts
    (g.D.Device.state c.open.new.device) (g.D.Device.leaves c.open.new.device) c.from_residual.result _ c.from_residual.ensures.1 (c.open.ensures.any_moment told)
    (left_at_once (g.D.Device.state c.args.device.now) (g.D.Device.state c.open.new.device) (g.D.Device.leaves c.open.new.device) (g.met.D.Device.earlier c.open.new.device) (told_after _ _ c.open.ensures.frame told) c.open.ensures.frame.moment (g.met.D.Device.holds_now c.open.new.device (told_after _ _ c.open.ensures.frame told))) (c.open.ensures.sent told) (c.open.ensures.put_most told)

pub returns-in_err-store-clause-still : goal.returns-in_err-store-clause-still
returns-in_err-store-clause-still g c = λ told none. c.open.ensures.still told (λ empty. none empty_tables (inl (empty, refl)))

pub returns-in_err-store-clause-refused : goal.returns-in_err-store-clause-refused
returns-in_err-store-clause-refused g c = λ is told. c.in_err-store.ensures.refused (none_handed _ _ c.from_residual.result c.in_err-store.field-0.0 c.from_residual.ensures.1 is) told

pub returns-in_err-store-clause-other : goal.returns-in_err-store-clause-other
returns-in_err-store-clause-other g c = λ stored is told. c.in_err-store.ensures.other stored (other_handed _ _ c.from_residual.result c.in_err-store.field-0.0 c.from_residual.ensures.1 stored is) told

-- ---- it is

pub returns-clause-opened : goal.returns-clause-opened
returns-clause-opened g c = on_ok c.live_from.result _ (λ told. (c.in_ok-store.tables, c.in_ok-store.ensures.starts told))

pub returns-clause-lived : goal.returns-clause-lived
returns-clause-lived g c = λ told only t starts.
    opened (gen_errand c.args.work) t (g.I.Typing.typing c.args.typing.now) (g.D.Device.state c.args.device.now) (g.D.Device.leaves c.args.device.now) only (λ image out left. g.met.D.Device.sent_now c.args.device.now image out told left) starts
    c.in_ok-store.tables (g.D.Device.state c.open.new.device) (g.D.Device.state c.live_from.new.device) (g.D.Device.leaves c.open.new.device) (g.D.Device.leaves c.live_from.new.device) c.live_from.result (c.in_ok-store.ensures.starts told) (c.open.ensures.any_moment told) (c.open.ensures.sent told) (c.open.ensures.put_most told) c.open.ensures.frame.line_faults (told_after _ _ c.open.ensures.frame told)
    (left_at_once (g.D.Device.state c.args.device.now) (g.D.Device.state c.live_from.new.device) (g.D.Device.leaves c.live_from.new.device) (g.met.D.Device.earlier c.live_from.new.device) (told_after _ _ c.live_from.ensures.frame (told_after _ _ c.open.ensures.frame told)) (later c.open.ensures.frame.moment c.live_from.ensures.frame.moment) (g.met.D.Device.holds_now c.live_from.new.device (told_after _ _ c.live_from.ensures.frame (told_after _ _ c.open.ensures.frame told))))
    (c.live_from.ensures.lived (told_after _ _ c.open.ensures.frame told))

pub returns-clause-still : goal.returns-clause-still
returns-clause-still g c = λ told none. absurd (none c.in_ok-store.tables (c.in_ok-store.ensures.starts told))

pub returns-clause-refused : goal.returns-clause-refused
returns-clause-refused g c = λ is told. absurd (c.live_from.ensures.refused is (told_after _ _ c.open.ensures.frame told))

pub returns-clause-other : goal.returns-clause-other
returns-clause-other g c = λ stored is told. absurd (c.live_from.ensures.other stored is (told_after _ _ c.open.ensures.frame told))

pub returns-clause-failed : goal.returns-clause-failed
returns-clause-failed g c = λ is. rose_either (g.D.Device.state c.args.device.now) (g.D.Device.state c.open.new.device) (g.D.Device.state c.live_from.new.device) c.open.ensures.frame (c.live_from.ensures.failed is)

pub returns-clause-fine : goal.returns-clause-fine
returns-clause-fine g c = λ none. faults_then _ _ _ (c.in_ok-store.ensures.fine (no_error _ _)) (c.live_from.ensures.fine none)
