use Rattle.kdcs_types.specs.declared.key.Area.{Area}
use Rattle.abstract_monitor.specs.Calls.{Told}
use Rattle.open_transaction.specs.Transactions.{transaction_of}
use Rattle.kdcs_calls.specs.Parts.{accessed, named_by}
use Rattle.kdcs_calls.proofs.AreaCalls.{answers_in, locks_in}
use Rattle.kdcs_calls.proofs.areas.access_area.Goals as goal

pub returns-clause-exact : goal.returns-clause-exact
returns-clause-exact c =
    answers_in c.args.outside.now.generation.now c.args.outside.now.tables.now c.args.locks.now c.args.transaction.now.id (transaction_of c.args.transaction.now) (named_by c.args.owner) c.access_locked.result _ _ c.area_in-area.ensures (transaction_of c.access_locked.new.transaction) (λ (v : Told) (a : Area). accessed c.args.access v (transaction_of c.args.transaction.now) a) c.access_locked.ensures.exact

pub returns-clause-locks : goal.returns-clause-locks
returns-clause-locks c = locks_in c.args.outside.now.generation.now c.args.outside.now.tables.now c.args.locks.now c.args.transaction.now.id (transaction_of c.args.transaction.now) (named_by c.args.owner) c.access_locked.result _ _ c.area_in-area.ensures c.access_locked.new.locks c.access_locked.ensures.locks
