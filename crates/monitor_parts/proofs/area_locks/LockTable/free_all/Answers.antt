use Rattle.monitor_parts.proofs.area_locks.Freeing.{all_freed, fewer_holders, frees_one}
use Rattle.monitor_parts.proofs.area_locks.LockTable.free_all.Goals as goal

pub loop-area-smaller : goal.loop-area-smaller
loop-area-smaller c = fewer_holders c.loop-area.self c.give_back.new.self c.args.who c.in-Some.area c.in-Some.ensures.ascending c.in-Some.ensures.held c.give_back.ensures

pub loop-area-preserved : goal.loop-area-preserved
loop-area-preserved c = frees_one c.args.self.now c.loop-area.self c.give_back.new.self c.args.who c.in-Some.area c.loop-area.invariant c.in-Some.ensures.held c.give_back.ensures

pub returns-clause-locks : goal.returns-clause-locks
returns-clause-locks c = all_freed c.args.self.now c.loop-area.self c.args.who c.loop-area.invariant c.in_default.ensures.ascending c.in_default.ensures.none
