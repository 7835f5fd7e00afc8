use Rattle.monitor_parts.proofs.area_locks.Indexing.{held_own, taken_index}
use Rattle.monitor_parts.proofs.area_locks.LockTable.give_back.Goals as goal

pub invariant_of-self : goal.invariant_of-self
invariant_of-self c =
    rw (c.remove.ensures.left, c.remove-2.ensures.left, c.holding.ensures)
    (taken_index c.self.inside.holders c.self.inside.held c.self.invariant c.args.who.now c.args.area.now (held_own c.self.inside.holders c.args.who.now c.args.area.now (rw (← c.self.view_is) at c.requires)))
