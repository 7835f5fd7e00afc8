use Rattle.std.proofs.Common.{All, take}
use Rattle.device_acts.specs.Named.{IsNamedChange}
use Rattle.device_acts.proofs.record_commits.named.changes_are_named.Given as goal

abbrev pub invariant-loop-change : goal.invariant-loop-change
invariant-loop-change l = All IsNamedChange (take l.change-index l.changes)
