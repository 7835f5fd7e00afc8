use Rattle.std.proofs.Common.{◌≡◌, ◌≤◌, ◌/◌, arith, rules}
use Rattle.kd_device.proofs.Fronts.{front_less}
use Rattle.kd_device.proofs.buffer.front_len.Goals as goal

pub loop-len-preserved : goal.loop-len-preserved
loop-len-preserved c =
    let half : c.loop-len.len / 2 ≤ c.loop-len.len = omega arith in
    let zero : c.greatest.result ≡ 0 = search rules in
    record {
      within = omega (arith, half, c.loop-len.invariant.within);
      zeros = front_less c.args.bytes.now c.loop-len.len (c.loop-len.len / 2) half c.loop-len.invariant.within c.loop-len.invariant.zeros (λ k. omega (arith, c.greatest.ensures k, zero));
    }
