use Rattle.std.proofs.Common.{rules}
use Rattle.kdcfile_store.specs.Paged.{HasFile}
use Rattle.kd_device.specs.TimeLaws.{told_after}
use Rattle.device_acts.specs.SingleLaws.{kept_single}
use Rattle.device_run.proofs.Single.{running_with}
use Rattle.live_cli.proofs.Over.{frame_given, lived_given, names_given}
use Rattle.live_cli.proofs.file.live_over_store.Goals as goal

pub live_with-requires-clause-running : goal.live_with-requires-clause-running
live_with-requires-clause-running g c = running_with c.args.fingerprint.now c.args.core c.args.store c.requires.running

pub live_with-requires-clause-kept : goal.live_with-requires-clause-kept
live_with-requires-clause-kept g c = λ told. kept_single (HasFile c.args.store) (g.D.Device.state c.args.device.now) (g.D.Device.leaves c.args.device.now) (c.requires.kept told)

pub returns-clause-lived : goal.returns-clause-lived
returns-clause-lived g c = λ told.
    lived_given g.D.Device.state g.D.Device.leaves c.args.fingerprint.now c.args.core _ c.args.device.now c.live_with.new.keeper.store.now c.live_with.result c.live_with.ensures.talked
    (λ here. g.met.D.Device.holds_now _ (told_after (g.D.Device.state c.args.device.now) _ c.live_with.ensures.talked.within.frame here)) told _ (search rules)

pub returns-clause-frame : goal.returns-clause-frame
returns-clause-frame g c = frame_given g.D.Device.state g.D.Device.leaves c.args.fingerprint.now c.args.core _ c.args.device.now c.live_with.new.keeper.store.now c.live_with.result c.live_with.ensures.talked _ (search rules)

pub returns-clause-names : goal.returns-clause-names
returns-clause-names g c = names_given g.D.Device.state g.D.Device.leaves c.args.fingerprint.now c.args.core _ c.args.device.now c.live_with.new.keeper.store.now c.live_with.result c.live_with.ensures.talked _ (search rules)
