use Rattle.std.proofs.Common.{◌∙◌, ap, sym}
use Rattle.abstract_monitor.specs.Locks.{Locks, holder}
use Rattle.monitor_parts.proofs.area_locks.Answering.{deadlock_answered, granted_open}
use Rattle.monitor_parts.proofs.area_locks.Holders.{holder_after_is}
use Rattle.monitor_parts.proofs.area_locks.LockTable.ask.Goals as goal

pub record_answer-requires-clause-open : goal.record_answer-requires-clause-open
record_answer-requires-clause-open c granted = granted_open c.args.self.now c.args.reswait c.args.now c.args.who c.args.area (sym c.answer-answer.ensures ∙ granted)

pub returns-clause-deadlock : goal.returns-clause-deadlock
returns-clause-deadlock c = deadlock_answered c.args.self.now c.args.reswait c.args.now c.args.who c.args.area c.answer-answer.result c.answer-answer.ensures

pub returns-clause-holders : goal.returns-clause-holders
returns-clause-holders c a =
    ap (λ (l : Locks). holder l a) c.in_ok-record_answer.ensures.locks
    ∙ holder_after_is c.answer-answer.result c.args.self.now c.args.now c.args.who c.args.area a
