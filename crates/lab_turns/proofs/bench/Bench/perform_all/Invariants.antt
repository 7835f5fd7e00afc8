use Rattle.lab_turns.proofs.Scripts.{SoFar}
use Rattle.lab_turns.proofs.bench.Bench.perform_all.Given as goal

abbrev pub invariant-loop-command : goal.invariant-loop-command
invariant-loop-command g l = SoFar g.L.Listener.hears l.fn.self l.commands l.fn.listener l.command-index l.listener l.bench
