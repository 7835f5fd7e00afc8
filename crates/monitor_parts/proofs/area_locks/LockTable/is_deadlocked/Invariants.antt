use Rattle.std.specs.Prelude.{◌≡◌, ◌-◌, Some, length}
use Rattle.abstract_monitor.specs.Locks.{reaches}
use Rattle.monitor_parts.proofs.area_locks.LockTable.is_deadlocked.Given as goal

-- from where it stands the asker is reached in the steps that are left as it is from the beginning in all
abbrev pub invariant-loop : goal.invariant-loop
invariant-loop l = reaches (l.end - l.counter) l.fn.self l.asker (Some l.at) ≡ reaches (length l.fn.self.waits) l.fn.self l.fn.asker (Some l.fn.other)
