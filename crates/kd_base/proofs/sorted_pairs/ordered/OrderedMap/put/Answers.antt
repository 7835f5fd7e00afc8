use Rattle.std.proofs.Common.{arith}
use Rattle.std.specs.Prelude.{◌<◌, ◌++◌, length}
use Rattle.kd_base.proofs.sorted_pairs.Splitting.{planted_put, split_either, split_planted}
use Rattle.kd_base.proofs.sorted_pairs.ordered.OrderedMap.put.Goals as goal

pub invariant_of-self : goal.invariant_of-self
invariant_of-self g c =
    let lt : length c.self.inside.few < 8 = omega (arith, c.len.ensures, c.if-len-lt-FEW.true) in
    split_either g.K.Ord.cmp g.met.K.Ord.total c.put.result c.args.key c.args.value c.self.inside.few c.put.new.self c.self.inside.many.entries c.put.ensures.ok c.put.ensures.err c.self.invariant (c.is_empty.ensures.0 c.if-is_empty.true) lt

pub returns-then-len-lt-FEW-clause-ascending : goal.returns-then-len-lt-FEW-clause-ascending
returns-then-len-lt-FEW-clause-ascending g c =
    let lt : length c.self.inside.few < 8 = omega (arith, c.len.ensures, c.if-len-lt-FEW.true) in
    (split_either g.K.Ord.cmp g.met.K.Ord.total c.put.result c.args.key c.args.value c.self.inside.few c.put.new.self c.self.inside.many.entries c.put.ensures.ok c.put.ensures.err c.self.invariant (c.is_empty.ensures.0 c.if-is_empty.true) lt).ascending

pub invariant_of-self-2 : goal.invariant_of-self-2
invariant_of-self-2 g c =
    split_planted g.K.Ord.cmp g.met.K.Ord.total c.args.key c.args.value (c.self.inside.few ++ c.self.inside.many.entries) c.plant.new.few c.plant.new.many.entries c.insert.new.self.entries c.self.invariant.ascending c.in_ok-plant.ensures.all
    c.in_ok-plant.ensures.same c.in_ok-insert.ensures.entries

pub returns-clause-ok : goal.returns-clause-ok
returns-clause-ok g c =
    rw (← c.self.view_is)
    (planted_put g.K.Ord.cmp g.met.K.Ord.total c.args.key c.args.value (c.self.inside.few ++ c.self.inside.many.entries) c.plant.new.few c.plant.new.many.entries c.insert.new.self.entries c.in_ok-plant.ensures.all c.in_ok-plant.ensures.same c.in_ok-insert.ensures.entries)

pub returns-clause-ascending : goal.returns-clause-ascending
returns-clause-ascending g c =
    (split_planted g.K.Ord.cmp g.met.K.Ord.total c.args.key c.args.value (c.self.inside.few ++ c.self.inside.many.entries) c.plant.new.few c.plant.new.many.entries c.insert.new.self.entries c.self.invariant.ascending c.in_ok-plant.ensures.all
    c.in_ok-plant.ensures.same c.in_ok-insert.ensures.entries).ascending
