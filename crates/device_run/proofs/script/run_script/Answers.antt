use Rattle.std.proofs.Common.{rules}
use Rattle.abstract_monitor.specs.Trace.{history}
use Rattle.kdcfile_store.specs.Paged.{HasFile}
use Rattle.kd_device.specs.TimeLaws.{told_after}
use Rattle.device_acts.specs.SingleLaws.{kept_single}
use Rattle.device_run.proofs.Single.{ran_given, running_with, stops_given, within_given, writes_given}
use Rattle.device_run.proofs.script.run_script.Goals as goal

pub run_with-requires-clause-running : goal.run_with-requires-clause-running
run_with-requires-clause-running g c = running_with c.args.fingerprint.now c.args.core c.args.store c.requires.running

pub run_with-requires-clause-kept : goal.run_with-requires-clause-kept
run_with-requires-clause-kept g c = λ told. kept_single (HasFile c.args.store) (g.D.Device.state c.args.device.now) (g.D.Device.leaves c.args.device.now) (c.requires.kept told)

pub returns-clause-any : goal.returns-clause-any
returns-clause-any g c = within_given g.D.Device.state g.D.Device.leaves c.args.fingerprint.now c.args.core (history c.args.core.application c.args.core.state c.args.commands.now) c.args.device.now c.run_with.ensures.any _ (search rules)

pub returns-clause-done : goal.returns-clause-done
returns-clause-done g c =
    ran_given g.D.Device.state g.D.Device.leaves c.args.fingerprint.now c.args.core (history c.args.core.application c.args.core.state c.args.commands.now) c.args.device.now c.run_with.result c.run_with.new.keeper.store.now
    (λ told. g.met.D.Device.holds_now _ (told_after (g.D.Device.state c.args.device.now) _ c.run_with.ensures.any.frame told)) c.run_with.ensures.done _ (search rules)

pub returns-clause-put : goal.returns-clause-put
returns-clause-put g c =
    writes_given g.D.Device.state g.D.Device.leaves c.args.fingerprint.now c.args.core (history c.args.core.application c.args.core.state c.args.commands.now) c.args.device.now
    (λ told. g.met.D.Device.holds_now _ (told_after (g.D.Device.state c.args.device.now) _ c.run_with.ensures.any.frame told)) c.run_with.ensures.put _ (search rules)

pub returns-clause-stopped : goal.returns-clause-stopped
returns-clause-stopped g c =
    stops_given g.D.Device.state g.D.Device.leaves c.args.fingerprint.now c.args.core (history c.args.core.application c.args.core.state c.args.commands.now) c.args.device.now c.run_with.result c.args.commands.now c.run_with.new.done
    (λ told. g.met.D.Device.holds_now _ (told_after (g.D.Device.state c.args.device.now) _ c.run_with.ensures.any.frame told)) c.run_with.ensures.stopped _ (search rules)
