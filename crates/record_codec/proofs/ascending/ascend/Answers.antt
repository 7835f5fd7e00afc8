use Rattle.std.proofs.Common.{refl, rules, sym, ap, ◌∙◌, arith, ℕ, drop}
use Rattle.record_codec.proofs.Neighbours.{rises, both_there, falls, all_rise}
use Rattle.record_codec.proofs.ascending.ascend.Goals as goal

pub loop-i-init : goal.loop-i-init
loop-i-init g c = record { from_one = omega arith; left = refl }

pub returns-then-not-is_lt : goal.returns-then-not-is_lt
returns-then-not-is_lt g c =
    sym (falls g.K.Ord.cmp g.met.K.Ord.total c.args.pairs.now c.loop-i.i c.index-pairs-i.result c.index-pairs-i-in-loop-i.result c.loop-i.invariant.from_one (omega (arith, c.loop-i-test.true)) c.index-pairs-i.is c.index-pairs-i-in-loop-i.is (search rules) c.loop-i.invariant.left)

pub loop-i-preserved : goal.loop-i-preserved
loop-i-preserved g c = record {
  from_one = omega (arith, c.loop-i.invariant.from_one);
  left = ap (λ (n : ℕ). rises g.K.Ord.cmp (drop n c.args.pairs.now)) (omega arith) ∙ both_there g.K.Ord.cmp g.met.K.Ord.total c.args.pairs.now c.loop-i.i c.index-pairs-i.result c.index-pairs-i-in-loop-i.result c.loop-i.invariant.from_one (omega (arith, c.loop-i-test.true)) c.index-pairs-i.is c.index-pairs-i-in-loop-i.is (search rules) c.loop-i.invariant.left;
}

pub returns : goal.returns
returns g c = sym (all_rise g.K.Ord.cmp g.met.K.Ord.total c.args.pairs.now c.loop-i.i c.loop-i.invariant.from_one (omega (arith, c.loop-i-test.false)) c.loop-i.invariant.left)
