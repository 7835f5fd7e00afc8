use Rattle.std.specs.Prelude.{true}
use Rattle.std.proofs.Common.{◌∙◌, ap}
use Rattle.abstract_monitor.specs.Locks.{Locks, holder}
use Rattle.monitor_parts.proofs.area_locks.Holders.{holder_given_back}
use Rattle.monitor_parts.proofs.area_locks.LockTable.unlock.Goals as goal

pub returns-clause-holders : goal.returns-clause-holders
returns-clause-holders c a = ap (λ (l : Locks). holder l a) c.give_back.ensures ∙ holder_given_back c.args.self.now c.args.area.now a true
