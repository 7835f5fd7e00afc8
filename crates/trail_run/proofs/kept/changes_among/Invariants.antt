use Rattle.std.proofs.Common.{◌≡◌}
use Rattle.trail_run.specs.Entries.{changes_among}
use Rattle.trail_run.proofs.kept.changes_among.Given as goal

abbrev pub invariant-loop-act : goal.invariant-loop-act
invariant-loop-act l = changes_among l.act-iterator.rest.items ≡ changes_among l.fn.acts
