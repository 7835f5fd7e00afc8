use Rattle.std.proofs.Common.{All, arith, subst}
use Rattle.std.proofs.lemmas.List.{take_all}
use Rattle.std.proofs.lemmas.List.Elements.{All-more}
use Rattle.device_acts.specs.Named.{HasAreaName}
use Rattle.device_acts.proofs.record_commits.named.areas_are_named.Goals as goal

pub loop-area-preserved : goal.loop-area-preserved
loop-area-preserved c = All-more HasAreaName c.args.areas.now c.loop-area.area-index c.area-item.result c.loop-area-test.true c.loop-area.invariant (subst HasAreaName c.area-item.is c.is_name.ensures)

pub returns : goal.returns
returns c = subst (All HasAreaName) (take_all c.loop-area.area-index c.args.areas.now (omega (arith, c.loop-area-test.false))) c.loop-area.invariant
