use Rattle.std.proofs.Common.{sym, subst}
use Rattle.kd_records.specs.declared.content.Content.{Content}
use Rattle.record_codec.specs.Records.{AreTablesOf}
use Rattle.device_acts.proofs.warm_start.Kept.{none_kept, none_there}
use Rattle.device_acts.proofs.warm_start.Opened.{load_refused}
use Rattle.device_acts.proofs.warm_start.opening.open_any.Goals as goal

pub returns-in_err-store-clause-refused : goal.returns-in_err-store-clause-refused
returns-in_err-store-clause-refused g c = λ is told.
    none_there (g.D.Device.state c.args.device.now).holds
    (c.in_err-store.ensures.none (load_refused _ _ c.from_residual.result c.in_err-store.field-0.0 c.from_residual.ensures.1 is) told)

pub returns-in-None-clause-refused : goal.returns-in-None-clause-refused
returns-in-None-clause-refused g c = λ is told.
    none_kept c.in_ok-store.store (g.D.Device.state c.args.device.now).holds (c.in_ok-store.ensures.stands told)
    (λ t proper are. c.in_ok-tables.ensures.none c.in-None.is t proper (subst (λ (x : Content). AreTablesOf x t) (sym c.kept.ensures) are))
