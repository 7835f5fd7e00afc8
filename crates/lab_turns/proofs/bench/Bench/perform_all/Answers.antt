use Rattle.std.proofs.Common.{arith}
use Rattle.lab_turns.proofs.Scripts.{all_done, all_heard, so_far_more, so_far_names, so_far_start}
use Rattle.lab_turns.proofs.bench.Bench.perform_all.Goals as goal

pub loop-command-init : goal.loop-command-init
loop-command-init g c = so_far_start g.L.Listener.hears g.met.L.Listener.hears_none g.met.L.Listener.hears_both c.args.self c.args.commands.now c.args.listener.now

pub perform-requires : goal.perform-requires
perform-requires g c = record {
  names = so_far_names g.L.Listener.hears g.met.L.Listener.hears_none g.met.L.Listener.hears_both c.args.self c.args.commands.now c.args.listener.now c.loop-command.command-index c.loop-command.listener c.loop-command.bench c.loop-command.invariant c.command-item.result c.command-item.is c.loop-command-test.true c.requires.names;
}

pub loop-command-preserved : goal.loop-command-preserved
loop-command-preserved g c =
    so_far_more g.L.Listener.hears g.met.L.Listener.hears_none g.met.L.Listener.hears_both c.args.self c.args.commands.now c.args.listener.now c.loop-command.command-index c.loop-command.listener c.loop-command.bench c.loop-command.invariant c.command-item.result c.command-item.is c.loop-command-test.true
    c.perform.new.listener c.in_ok-bench.bench c.in_ok-bench.ensures.done c.in_ok-bench.ensures.heard

pub returns-clause-done : goal.returns-clause-done
returns-clause-done g c = all_done g.L.Listener.hears g.met.L.Listener.hears_none g.met.L.Listener.hears_both c.args.self c.args.commands.now c.args.listener.now c.loop-command.command-index c.loop-command.listener c.loop-command.bench c.loop-command.invariant (omega arith)

pub returns-clause-heard : goal.returns-clause-heard
returns-clause-heard g c = all_heard g.L.Listener.hears g.met.L.Listener.hears_none g.met.L.Listener.hears_both c.args.self c.args.commands.now c.args.listener.now c.loop-command.command-index c.loop-command.listener c.loop-command.bench c.loop-command.invariant (omega arith)
