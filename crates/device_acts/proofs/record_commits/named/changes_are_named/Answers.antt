use Rattle.std.proofs.Common.{All, arith, subst}
use Rattle.std.proofs.lemmas.List.{take_all}
use Rattle.std.proofs.lemmas.List.Elements.{All-more}
use Rattle.device_acts.specs.Named.{IsNamedChange}
use Rattle.device_acts.proofs.record_commits.named.changes_are_named.Goals as goal

pub loop-change-preserved : goal.loop-change-preserved
loop-change-preserved c = All-more IsNamedChange c.args.changes.now c.loop-change.change-index c.change-item.result c.loop-change-test.true c.loop-change.invariant (subst IsNamedChange c.change-item.is c.change_is_named.ensures)

pub returns : goal.returns
returns c = subst (All IsNamedChange) (take_all c.loop-change.change-index c.args.changes.now (omega (arith, c.loop-change-test.false))) c.loop-change.invariant
