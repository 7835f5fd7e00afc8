use Rattle.std.proofs.Common.{ap, inl}
use Rattle.kd_base.specs.ToolsLaws.{error_same}
use Rattle.kd_device.specs.TimeLaws.{faults_then, rose_either, told_after}
use Rattle.device_acts.specs.Acting.{commits_nothing}
use Rattle.device_acts.specs.ErrorsLaws.{no_error}
use Rattle.device_acts.specs.Stands.{KeepsTables, identity_for}
use Rattle.kd_update.specs.Carrying.{carried}
use Rattle.kdcfile_update.specs.declared.error.CarryError.TheVariants.{Refused}
use Rattle.kdcfile_update.specs.Parts.{WithinUpdate, stored_in}
use Rattle.kdcfile_update.specs.Updating.{MayCarry}
use Rattle.kdcfile_update.proofs.Committed.{commit_within, new_keeps, report_updated, report_within}
use Rattle.kdcfile_update.proofs.Errors.{device_failed, unless_failed}
use Rattle.kdcfile_update.proofs.carrying.carry_tables.Given.{Over}
use Rattle.kdcfile_update.proofs.carrying.carry_tables.Goals.{After-send}
use Rattle.kdcfile_update.proofs.carrying.carry_tables.Goals as goal

pub returns-in_err-carry-clause-any : goal.returns-in_err-carry-clause-any
returns-in_err-carry-clause-any g c =
    let store = c.args.store.now in
    let t = c.args.tables.now in
    let may : MayCarry c.args.generation.now c.args.fingerprint.now (stored_in store t) = record { differs = c.requires.differs; judged = c.in_ok-content.ensures.judged } in
    let limits = c.limits_of-limits.ensures in
    let carry = c.carry.ensures in
    commit_within c.args.generation.now c.args.fingerprint.now store t may limits.sound c.requires.opened.keeps c.limits_of-limits.result limits.limits c.in_ok-content.content c.in_ok-content.ensures.content
    (g.D.Device.state c.args.device.now) (g.D.Device.state c.carry.new.device) (g.D.Device.leaves c.args.device.now) (g.D.Device.leaves c.carry.new.device)
    carry.frame carry.names carry.sent carry.put_most carry.any_moment

-- the tables may be carried, and the store keeps what they were carried to
may : (g : Over) (c : After-send g) → MayCarry c.args.generation.now c.args.fingerprint.now (stored_in c.args.store.now c.args.tables.now)
may g c = record { differs = c.requires.differs; judged = c.in_ok-content.ensures.judged }

keeps : (g : Over) (c : After-send g) → KeepsTables (identity_for c.args.generation.now c.args.fingerprint.now) c.carry.new.self (carried c.args.generation.now c.args.tables.now)
keeps g c = new_keeps c.args.generation.now c.args.fingerprint.now c.args.store.now c.args.tables.now (may g c) c.limits_of-limits.ensures.sound c.requires.opened.keeps c.limits_of-limits.result c.limits_of-limits.ensures.limits c.in_ok-content.content c.in_ok-content.ensures.content c.carry.new.self c.in_ok-carry.ensures.identity c.in_ok-carry.ensures.content

within : (g : Over) (c : After-send g) → WithinUpdate c.args.generation.now c.args.fingerprint.now (stored_in c.args.store.now c.args.tables.now) (g.D.Device.state c.args.device.now) (g.D.Device.state c.send.new.device) (g.D.Device.leaves c.args.device.now) (g.D.Device.leaves c.send.new.device)
within g c =
    report_within c.args.generation.now c.args.fingerprint.now c.args.store.now c.args.tables.now (may g c) c.limits_of-limits.ensures.sound c.requires.opened.keeps c.limits_of-limits.result c.limits_of-limits.ensures.limits c.in_ok-content.content c.in_ok-content.ensures.content (g.D.Device.state c.args.device.now) (g.D.Device.state c.carry.new.device) (g.D.Device.leaves c.args.device.now) (g.D.Device.leaves c.carry.new.device) c.carry.ensures.frame c.carry.ensures.names c.carry.ensures.sent c.carry.ensures.put_most c.carry.ensures.any_moment c.in_ok-report.report (c.in_ok-report.ensures c.args.tables.now c.in_ok-content.ensures.gone) (g.D.Device.state c.send.new.device) (g.D.Device.leaves c.send.new.device)
    (c.send.ensures.any (identity_for c.args.generation.now c.args.fingerprint.now) (carried c.args.generation.now c.args.tables.now) (keeps g c)) c.send.ensures.put

pub returns-in_err-send-clause-any : goal.returns-in_err-send-clause-any
returns-in_err-send-clause-any g c = within g (goal.at.returns-in_err-send-clause-any g c).After-send

pub returns-clause-any : goal.returns-clause-any
returns-clause-any g c = within g (goal.at.returns-clause-any g c).After-send

pub returns-clause-done : goal.returns-clause-done
returns-clause-done g c = λ told.
    let here = (goal.at.returns-clause-done g c).After-send in (
      may g here,
      report_updated c.args.generation.now c.args.fingerprint.now c.args.store.now c.args.tables.now (may g here) c.limits_of-limits.ensures.sound c.requires.opened.keeps c.limits_of-limits.result c.limits_of-limits.ensures.limits c.in_ok-content.content c.in_ok-content.ensures.content (g.D.Device.state c.args.device.now) (g.D.Device.state c.carry.new.device) (g.D.Device.leaves c.args.device.now) (g.D.Device.leaves c.carry.new.device) c.carry.ensures.frame c.carry.ensures.names c.carry.ensures.sent c.carry.ensures.put_most c.carry.ensures.any_moment c.in_ok-report.report (c.in_ok-report.ensures c.args.tables.now c.in_ok-content.ensures.gone) (g.D.Device.state c.send.new.device) (g.D.Device.leaves c.send.new.device) told
          (c.in_ok-send.ensures.done (identity_for c.args.generation.now c.args.fingerprint.now) (carried c.args.generation.now c.args.tables.now) (keeps g here) (told_after (g.D.Device.state c.args.device.now) (g.D.Device.state c.carry.new.device) c.carry.ensures.frame told)),
    )

-- ---- errors

pub returns-in_err-content-clause-refused : goal.returns-in_err-content-clause-refused
returns-in_err-content-clause-refused g c = λ why is. record {
  differs = c.requires.differs;
  judged = c.in_err-content.ensures.refused why (error_same _ _ c.from_residual.result c.in_err-content.field-0.0 (Refused why) c.from_residual.ensures.1 is);
}

pub returns-in_err-carry-clause-fine : goal.returns-in_err-carry-clause-fine
returns-in_err-carry-clause-fine g c = λ none. c.in_err-carry.ensures.fine (unless_failed _ _ c.from_residual-in_err-carry.result c.in_err-carry.field-0.0 c.from_residual-in_err-carry.ensures.1 none)

pub returns-in_err-carry-clause-failed : goal.returns-in_err-carry-clause-failed
returns-in_err-carry-clause-failed g c = λ is. inl (c.in_err-carry.ensures.failed (device_failed _ _ c.from_residual-in_err-carry.result c.in_err-carry.field-0.0 c.from_residual-in_err-carry.ensures.1 is))

pub send-requires-clause-lines : goal.send-requires-clause-lines
send-requires-clause-lines g c = ap commits_nothing (c.in_ok-report.ensures c.args.tables.now c.in_ok-content.ensures.gone)

pub returns-in_err-send-clause-fine : goal.returns-in_err-send-clause-fine
returns-in_err-send-clause-fine g c = λ none.
    faults_then (g.D.Device.state c.args.device.now) (g.D.Device.state c.carry.new.device) (g.D.Device.state c.send.new.device) (c.in_ok-carry.ensures.fine (no_error _ _))
    (c.in_err-send.ensures.fine (unless_failed _ _ c.from_residual-in_err-send.result c.in_err-send.field-0.0 c.from_residual-in_err-send.ensures.1 none))

pub returns-in_err-send-clause-failed : goal.returns-in_err-send-clause-failed
returns-in_err-send-clause-failed g c = λ is.
    rose_either (g.D.Device.state c.args.device.now) (g.D.Device.state c.carry.new.device) (g.D.Device.state c.send.new.device) c.carry.ensures.frame
    (c.in_err-send.ensures.failed (device_failed _ _ c.from_residual-in_err-send.result c.in_err-send.field-0.0 c.from_residual-in_err-send.ensures.1 is))

pub returns-clause-fine : goal.returns-clause-fine
returns-clause-fine g c = λ none.
    faults_then (g.D.Device.state c.args.device.now) (g.D.Device.state c.carry.new.device) (g.D.Device.state c.send.new.device) (c.in_ok-carry.ensures.fine (no_error _ _)) (c.in_ok-send.ensures.fine (no_error _ _))
