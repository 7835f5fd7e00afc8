use Rattle.std.proofs.Common.{arith, refl, subst, sym}
use Rattle.monitor_core.specs.CommandingLaws.{script_turns}
use Rattle.monitor_core.specs.ResultsLaws.{handed_on}
use Rattle.monitor_core.specs.ScriptsLaws.{script_failed, script_more, script_names, script_over, script_start, script_stopped}
use Rattle.monitor_core.specs.Sinks.{Stopped}
use Rattle.monitor_core.proofs.script_run.script.run_script.Goals as goal

pub loop-command-init : goal.loop-command-init
loop-command-init g c = record { count = refl; steps = c.requires.steps; took = script_start _ _ _ _ g.met.S.Sink.goes _ _ c.args.commands.now c.requires.ready }

pub do_command-requires-clause-ready : goal.do_command-requires-clause-ready
do_command-requires-clause-ready g c = g.met.S.Sink.goes.again _ _ _ _ _ c.requires.ready c.loop-command.invariant.took

pub do_command-requires-clause-names : goal.do_command-requires-clause-names
do_command-requires-clause-names g c = script_names _ _ _ _ g.met.S.Sink.goes _ _ _ _ _ _ c.loop-command.invariant.took c.command-item.result c.command-item.is c.loop-command-test.true c.requires.names

pub do_command-requires-clause-steps : goal.do_command-requires-clause-steps
do_command-requires-clause-steps g c = omega (arith, script_turns c.args.commands.now c.loop-command.command-index c.command-item.result c.command-item.is c.loop-command-test.true, c.loop-command.invariant.steps)

pub loop-command-preserved : goal.loop-command-preserved
loop-command-preserved g c = record {
  count = let before = c.loop-command.invariant.count in omega (arith, before);
  steps = omega (arith, script_turns c.args.commands.now c.loop-command.command-index c.command-item.result c.command-item.is c.loop-command-test.true, c.loop-command.invariant.steps, c.in_ok-core.ensures.steps);
  took = script_more _ _ _ _ g.met.S.Sink.goes _ _ _ _ _ _ c.loop-command.invariant.took c.command-item.result c.command-item.is c.loop-command-test.true _ _ c.in_ok-core.ensures.took;
}

pub returns-in_err-core-clause-failed : goal.returns-in_err-core-clause-failed
returns-in_err-core-clause-failed g c =
    handed_on _ c.from_residual.result _ c.from_residual.ensures.1 (script_failed _ _ _ _ g.met.S.Sink.goes _ _ _ _ _ _ c.loop-command.invariant.took c.command-item.result c.command-item.is c.loop-command-test.true c.in_err-core.field-0.0 _ c.in_err-core.ensures.failed)

pub returns-in_err-core-clause-stopped : goal.returns-in_err-core-clause-stopped
returns-in_err-core-clause-stopped g c =
    handed_on _ c.from_residual.result _ c.from_residual.ensures.1
    (subst (λ n. Stopped g.S.Sink.took g.S.Sink.failed g.S.Sink.unopened c.args.sink.now c.args.core c.args.commands.now n c.in_err-core.field-0.0 c.do_command.new.sink) (sym c.loop-command.invariant.count)
    (script_stopped _ _ _ _ g.met.S.Sink.goes _ _ _ _ _ _ c.loop-command.invariant.took c.command-item.result c.command-item.is c.loop-command-test.true c.in_err-core.field-0.0 _ c.in_err-core.ensures.failed g.S.Sink.unopened c.in_err-core.ensures.unopened))

pub returns-clause-took : goal.returns-clause-took
returns-clause-took g c = script_over _ _ _ _ g.met.S.Sink.goes _ _ _ _ _ _ c.loop-command.invariant.took (omega arith)
