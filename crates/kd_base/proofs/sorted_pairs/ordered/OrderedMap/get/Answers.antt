use Rattle.std.proofs.Common.{◌∙◌}
use Rattle.kd_base.specs.TreeLaws.{same_find}
use Rattle.kd_base.proofs.sorted_pairs.Splitting.{found_behind, found_in_front}
use Rattle.kd_base.proofs.sorted_pairs.ordered.OrderedMap.get.Goals as goal

pub returns-in-Some-clause-value : goal.returns-in-Some-clause-value
returns-in-Some-clause-value g c =
    rw (← c.self.view_is) (found_in_front g.K.Ord.cmp c.args.key.now c.in-Some.value.now c.self.inside.few c.self.inside.many.entries c.in-Some.ensures.value)

pub returns-in-None-clause-value : goal.returns-in-None-clause-value
returns-in-None-clause-value g c =
    rw (← c.self.view_is)
    (c.get-in-None.ensures.value ∙ same_find g.K.Ord.cmp c.args.key.now c.self.inside.many.entries ∙ found_behind g.K.Ord.cmp c.args.key.now c.self.inside.few c.self.inside.many.entries c.in-None.ensures.value)
