use Rattle.kd_base.specs.ToolsLaws.{error_same}
use Rattle.device_acts.specs.SingleLaws.{kept_single}
use Rattle.kdcfile_store.specs.Paged.{HasFile}
use Rattle.device_run.proofs.Single.{never_refused, never_other, same_start, stays, suited_single}
use Rattle.device_run.proofs.reopens.SingleFilePagedStoreReopens.reopen.Goals as goal

pub returns-in_err-opened-clause-refused : goal.returns-in_err-opened-clause-refused
returns-in_err-opened-clause-refused g c = λ is told u keeps.
    never_refused c.answers_exclude_each_other.ensures c.args.generation.now c.args.fingerprint.now c.args.self.now.store.now (g.D.Device.state c.args.self.now.device.now) (g.D.Device.leaves c.args.self.now.device.now) (g.met.D.Device.holds_now c.args.self.now.device.now told) (c.requires.kept told) u keeps
    (c.in_err-opened.ensures.refused (error_same _ _ c.from_residual.result c.in_err-opened.field-0.0 _ c.from_residual.ensures.1 is) told)

pub returns-in_err-opened-clause-other : goal.returns-in_err-opened-clause-other
returns-in_err-opened-clause-other g c = λ stored is told u keeps.
    never_other c.answers_exclude_each_other.ensures c.args.generation.now c.args.fingerprint.now c.args.self.now.store.now (g.D.Device.state c.args.self.now.device.now) (g.D.Device.leaves c.args.self.now.device.now) (g.met.D.Device.holds_now c.args.self.now.device.now told) (c.requires.kept told) u keeps stored
    (c.in_err-opened.ensures.other stored (error_same _ _ c.from_residual.result c.in_err-opened.field-0.0 _ c.from_residual.ensures.1 is) told)

pub returns-in_err-opened-clause-still : goal.returns-in_err-opened-clause-still
returns-in_err-opened-clause-still g c = λ told u keeps.
    stays c.answers_exclude_each_other.ensures c.args.generation.now c.args.fingerprint.now c.args.self.now.store.now (g.D.Device.state c.args.self.now.device.now) (g.D.Device.leaves c.args.self.now.device.now) (g.met.D.Device.holds_now c.args.self.now.device.now told) (c.requires.kept told) u keeps
    (g.D.Device.state c.open_tables.new.device) (g.D.Device.leaves c.open_tables.new.device) (c.open_tables.ensures.still told)

pub returns-clause-still : goal.returns-clause-still
returns-clause-still g c = λ told u keeps.
    stays c.answers_exclude_each_other.ensures c.args.generation.now c.args.fingerprint.now c.args.self.now.store.now (g.D.Device.state c.args.self.now.device.now) (g.D.Device.leaves c.args.self.now.device.now) (g.met.D.Device.holds_now c.args.self.now.device.now told) (c.requires.kept told) u keeps
    (g.D.Device.state c.open_tables.new.device) (g.D.Device.leaves c.open_tables.new.device) (c.open_tables.ensures.still told)

pub returns-clause-same : goal.returns-clause-same
returns-clause-same g c = λ told u keeps.
    same_start c.answers_exclude_each_other.ensures c.args.generation.now c.args.fingerprint.now c.args.self.now.store.now (g.D.Device.state c.args.self.now.device.now) (g.D.Device.leaves c.args.self.now.device.now) (g.met.D.Device.holds_now c.args.self.now.device.now told) (c.requires.kept told) u keeps c.in_ok-opened.tables (c.in_ok-opened.ensures.starts told)

pub returns-clause-tables : goal.returns-clause-tables
returns-clause-tables g c = suited_single c.args.generation.now c.args.fingerprint.now c.in_ok-opened.opened c.in_ok-opened.tables c.in_ok-opened.ensures.tables c.in_ok-opened.ensures.suits

pub returns-clause-kept : goal.returns-clause-kept
returns-clause-kept g c = λ told. kept_single (HasFile c.in_ok-opened.opened) (g.D.Device.state c.open_tables.new.device) (g.D.Device.leaves c.open_tables.new.device) (c.in_ok-opened.ensures.kept told)
