use Rattle.std.proofs.Common.{All, take}
use Rattle.device_acts.specs.Named.{IsNamedAct}
use Rattle.device_acts.proofs.record_commits.named.acts_are_named.Given as goal

abbrev pub invariant-loop-act : goal.invariant-loop-act
invariant-loop-act l = All IsNamedAct (take l.act-index l.acts)
