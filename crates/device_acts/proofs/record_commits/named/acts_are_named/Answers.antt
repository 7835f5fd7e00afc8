use Rattle.std.proofs.Common.{All, arith, subst}
use Rattle.std.proofs.lemmas.List.{take_all}
use Rattle.std.proofs.lemmas.List.Elements.{All-more}
use Rattle.device_acts.specs.Named.{IsNamedAct}
use Rattle.device_acts.proofs.record_commits.named.acts_are_named.Goals as goal

pub loop-act-preserved : goal.loop-act-preserved
loop-act-preserved c = All-more IsNamedAct c.args.acts.now c.loop-act.act-index c.act-item.result c.loop-act-test.true c.loop-act.invariant (subst IsNamedAct c.act-item.is c.act_is_named.ensures)

pub returns-clause-named : goal.returns-clause-named
returns-clause-named c = subst (All IsNamedAct) (take_all c.loop-act.act-index c.args.acts.now (omega (arith, c.loop-act-test.false))) c.loop-act.invariant
