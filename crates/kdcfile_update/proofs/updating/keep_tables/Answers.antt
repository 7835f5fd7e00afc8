use Rattle.std.proofs.Common.{ap}
use Rattle.device_acts.specs.Acting.{commits_nothing}
use Rattle.kdcfile_update.specs.Parts.{WithinUpdate, stored_in}
use Rattle.kdcfile_update.specs.Updating.{IsUpToDate}
use Rattle.kdcfile_update.proofs.Errors.{device_failed, unless_failed}
use Rattle.kdcfile_update.proofs.Updated.{kept_updated, kept_within, up_there}
use Rattle.kdcfile_update.proofs.updating.keep_tables.Given.{Over}
use Rattle.kdcfile_update.proofs.updating.keep_tables.Goals.{After-send}
use Rattle.kdcfile_update.proofs.updating.keep_tables.Goals as goal

pub send-requires-clause-lines : goal.send-requires-clause-lines
send-requires-clause-lines g c = ap commits_nothing (c.in_ok-report.ensures c.args.tables.now)

-- the tables suit
up : (g : Over) (c : After-send g) → IsUpToDate c.args.generation.now c.args.store.now.identity.fingerprint (stored_in c.args.store.now c.args.tables.now)
up g c = up_there c.args.generation.now c.args.store.now c.args.tables.now c.limits-limits.result.blksize c.limits-limits.result.pgpool (c.suits.ensures.0 c.if-not-suits.false) c.limits-limits.ensures.blksize c.limits-limits.ensures.pgpool

pub returns-clause-done : goal.returns-clause-done
returns-clause-done g c = λ told.
    let suits = up g (goal.at.returns-clause-done g c).After-send in
    (suits, kept_updated c.args.generation.now c.args.store.now.identity.fingerprint (stored_in c.args.store.now c.args.tables.now) suits c.in_ok-report.report (c.in_ok-report.ensures c.args.tables.now) (g.D.Device.state c.args.device.now) (g.D.Device.state c.send.new.device) (g.D.Device.leaves c.args.device.now) (g.D.Device.leaves c.send.new.device) (c.in_ok-send.ensures.done c.args.store.now.identity c.args.tables.now c.requires.opened.keeps told))

-- what became of the disk and the line
within : (g : Over) (c : After-send g) → WithinUpdate c.args.generation.now c.args.store.now.identity.fingerprint (stored_in c.args.store.now c.args.tables.now) (g.D.Device.state c.args.device.now) (g.D.Device.state c.send.new.device) (g.D.Device.leaves c.args.device.now) (g.D.Device.leaves c.send.new.device)
within g c =
    kept_within c.args.generation.now c.args.store.now.identity.fingerprint (stored_in c.args.store.now c.args.tables.now) (up g c) c.in_ok-report.report (c.in_ok-report.ensures c.args.tables.now) (g.D.Device.state c.args.device.now) (g.D.Device.state c.send.new.device) (g.D.Device.leaves c.args.device.now) (g.D.Device.leaves c.send.new.device)
    (c.send.ensures.any c.args.store.now.identity c.args.tables.now c.requires.opened.keeps)

pub returns-in_err-send-clause-any : goal.returns-in_err-send-clause-any
returns-in_err-send-clause-any g c = within g (goal.at.returns-in_err-send-clause-any g c).After-send

pub returns-clause-any : goal.returns-clause-any
returns-clause-any g c = within g (goal.at.returns-clause-any g c).After-send

-- ---- errors

pub returns-in_err-send-clause-fine : goal.returns-in_err-send-clause-fine
returns-in_err-send-clause-fine g c = λ none. c.in_err-send.ensures.fine (unless_failed _ _ c.from_residual-in_err-send.result c.in_err-send.field-0.0 c.from_residual-in_err-send.ensures.1 none)

pub returns-in_err-send-clause-failed : goal.returns-in_err-send-clause-failed
returns-in_err-send-clause-failed g c = λ is. c.in_err-send.ensures.failed (device_failed _ _ c.from_residual-in_err-send.result c.in_err-send.field-0.0 c.from_residual-in_err-send.ensures.1 is)
