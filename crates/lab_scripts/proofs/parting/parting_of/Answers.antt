use Rattle.std.proofs.Common.{arith}
use Rattle.lab_scripts.proofs.Alike.{alike_more, alike_within, alike_within_too}
use Rattle.lab_scripts.proofs.parting.parting_of.Goals as goal

pub loop-at-preserved : goal.loop-at-preserved
loop-at-preserved c =
    let alike = c.go_on_alike.ensures.0 c.loop-at-test.true in
    let within = alike_within c.args.one.now c.args.other.now c.loop-at.at alike in
    let within_too = alike_within_too c.args.one.now c.args.other.now c.loop-at.at alike in
    record {
      within = omega (arith, within);
      within_too = omega (arith, within_too);
      same = alike_more c.args.one.now c.args.other.now c.loop-at.at c.loop-at.invariant.same alike;
    }
