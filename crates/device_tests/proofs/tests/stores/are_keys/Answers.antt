use Rattle.std.proofs.Common.{All, arith, refl, subst}
use Rattle.std.proofs.lemmas.List.{take_all}
use Rattle.std.proofs.lemmas.List.Elements.{All-more}
use Rattle.kd_records.specs.Contents.{Change, IsKey}
use Rattle.device_tests.proofs.tests.stores.are_keys.Goals as goal

pub loop-item-preserved : goal.loop-item-preserved
loop-item-preserved c =
    All-more (λ (x : Change). IsKey x.0) c.args.items.now c.loop-item.item-index c.item-item.result c.loop-item-test.true c.loop-item.invariant (subst (λ (x : Change). IsKey x.0) c.item-item.is (c.if-not-is_key.ensures refl))

pub returns : goal.returns
returns c = λ so. subst (All (λ (x : Change). IsKey x.0)) (take_all c.loop-item.item-index c.args.items.now (omega (arith, c.loop-item-test.false))) c.loop-item.invariant
