use Rattle.std.proofs.Common.{inl, refl}
use Rattle.std.proofs.lemmas.Result.{on_ok_weaker}
use Rattle.call_parts.specs.Asking.{run_errand}
use Rattle.utm_cli.proofs.Doing.{core_runs, parts_halts, parts_script, parts_stops, parts_within, parts_writes, parts_ran}
use Rattle.utm_cli.proofs.Stopping.{at_error, on_err_weaker}
use Rattle.utm_cli.proofs.Writing.{none_written}
use Rattle.utm_cli.proofs.Turns.{turns_from}
use Rattle.utm_cli.proofs.run.do_script.Goals as goal

pub run_script-requires-clause-running : goal.run_script-requires-clause-running
run_script-requires-clause-running g c = core_runs (run_errand c.args.work c.args.commands.now) c.args.tables c.in_ok-core.core c.in_ok-core.ensures.application c.in_ok-core.ensures.state c.in_ok-core.ensures.steps c.requires.can c.requires.suits c.in_ok-core.ensures.facts c.in_ok-core.ensures.limits c.args.store c.requires.tables

pub run_script-requires-clause-names : goal.run_script-requires-clause-names
run_script-requires-clause-names g c = parts_script (run_errand c.args.work c.args.commands.now) c.args.tables c.in_ok-core.core c.in_ok-core.ensures.application c.in_ok-core.ensures.state c.in_ok-core.ensures.steps c.as_slice.result.now c.as_slice.ensures c.requires.can

pub returns-clause-any : goal.returns-clause-any
returns-clause-any g c =
    parts_within (run_errand c.args.work c.args.commands.now) c.args.tables c.in_ok-core.core c.in_ok-core.ensures.application c.in_ok-core.ensures.state c.in_ok-core.ensures.steps c.as_slice.result.now c.as_slice.ensures refl c.requires.suits
    (g.D.Device.state c.args.device.now) (g.D.Device.state c.run_script.new.device) (g.D.Device.leaves c.args.device.now) (g.D.Device.leaves c.run_script.new.device) c.run_script.ensures.any

pub returns-clause-done : goal.returns-clause-done
returns-clause-done g c =
    on_ok_weaker c.run_script.result (λ ran told.
    parts_ran (run_errand c.args.work c.args.commands.now) c.args.tables c.in_ok-core.core c.in_ok-core.ensures.application c.in_ok-core.ensures.state c.in_ok-core.ensures.steps c.as_slice.result.now c.as_slice.ensures refl c.requires.suits
    (g.D.Device.state c.args.device.now) (g.D.Device.state c.run_script.new.device) (g.D.Device.leaves c.args.device.now) (g.D.Device.leaves c.run_script.new.device) (ran told)) c.run_script.ensures.done

pub returns-in_err-core-clause-put : goal.returns-in_err-core-clause-put
returns-in_err-core-clause-put g c = none_written (run_errand c.args.work c.args.commands.now) c.args.tables c.args.store c.requires.tables (g.D.Device.state c.args.device.now) (g.D.Device.leaves c.args.device.now) c.requires.kept

pub returns-clause-put : goal.returns-clause-put
returns-clause-put g c =
    parts_writes (run_errand c.args.work c.args.commands.now) c.args.tables c.in_ok-core.core c.in_ok-core.ensures.application c.in_ok-core.ensures.state c.in_ok-core.ensures.steps c.as_slice.result.now c.as_slice.ensures refl c.requires.suits
    (g.D.Device.state c.args.device.now) (g.D.Device.state c.run_script.new.device) (g.D.Device.leaves c.args.device.now) (g.D.Device.leaves c.run_script.new.device) c.run_script.ensures.put

pub returns-in_err-core-clause-stopped : goal.returns-in_err-core-clause-stopped
returns-in_err-core-clause-stopped g c = at_error _ c.from_residual.result (λ told is. inl refl)

pub returns-clause-stopped : goal.returns-clause-stopped
returns-clause-stopped g c =
    on_err_weaker c.run_script.result
    (λ stops. parts_stops (run_errand c.args.work c.args.commands.now) c.args.tables c.in_ok-core.core c.in_ok-core.ensures.application c.in_ok-core.ensures.state c.in_ok-core.ensures.steps c.as_slice.result.now c.as_slice.ensures refl c.requires.suits
    (g.D.Device.state c.args.device.now) (g.D.Device.state c.run_script.new.device) (g.D.Device.leaves c.args.device.now) (g.D.Device.leaves c.run_script.new.device) c.run_script.new.done stops) c.run_script.ensures.stopped

pub returns-clause-halted : goal.returns-clause-halted
returns-clause-halted g c = λ is.
    parts_halts (run_errand c.args.work c.args.commands.now) c.args.tables c.in_ok-core.core c.in_ok-core.ensures.application c.in_ok-core.ensures.state c.in_ok-core.ensures.steps c.as_slice.result.now c.as_slice.ensures refl c.requires.suits
    (g.D.Device.state c.args.device.now) (g.D.Device.state c.run_script.new.device) (g.D.Device.leaves c.args.device.now) (g.D.Device.leaves c.run_script.new.device) (c.run_script.ensures.halted is)

pub run_script-requires-clause-steps : goal.run_script-requires-clause-steps
run_script-requires-clause-steps g c = turns_from (run_errand c.args.work c.args.commands.now) c.in_ok-core.core.steps c.in_ok-core.ensures.steps c.as_slice.result.now c.as_slice.ensures c.requires.can
