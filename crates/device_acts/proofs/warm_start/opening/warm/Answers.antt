use Rattle.device_acts.proofs.warm_start.Kept.{no_tables, stands_none, others_stand}
use Rattle.kd_base.specs.ToolsLaws.{error_same}
use Rattle.device_acts.proofs.warm_start.Opened.{load_refused}
use Rattle.device_acts.specs.declared.warm_start.error.OpenError.TheVariants as opening
use Rattle.device_acts.proofs.warm_start.opening.warm.Goals as goal

pub returns-in_err-store-clause-refused : goal.returns-in_err-store-clause-refused
returns-in_err-store-clause-refused g c = λ is told.
    no_tables c.args.generation.now c.args.fingerprint.now (g.D.Device.state c.args.device.now).holds
    (c.in_err-store.ensures.none (load_refused _ _ c.from_residual.result c.in_err-store.field-0.0 c.from_residual.ensures.1 is) told)

pub returns-in_err-tables-clause-refused : goal.returns-in_err-tables-clause-refused
returns-in_err-tables-clause-refused g c = λ is told.
    stands_none c.in_ok-store.store (g.D.Device.state c.args.device.now).holds (c.in_ok-store.ensures.stands told) c.args.generation.now c.args.fingerprint.now
    (c.in_err-tables.ensures.refused (error_same _ _ c.from_residual-in_err-tables.result c.in_err-tables.field-0.0 opening.NotKdcfile c.from_residual-in_err-tables.ensures.1 is))

pub returns-in_err-tables-clause-other : goal.returns-in_err-tables-clause-other
returns-in_err-tables-clause-other g c = λ stored is told.
    others_stand c.in_ok-store.store (g.D.Device.state c.args.device.now).holds (c.in_ok-store.ensures.stands told) stored c.args.fingerprint.now
    (c.in_err-tables.ensures.other stored (error_same _ _ c.from_residual-in_err-tables.result c.in_err-tables.field-0.0 (opening.OtherGeneration stored) c.from_residual-in_err-tables.ensures.1 is))
