use Rattle.kdcs_types.specs.declared.key.Area.{Area}
use Rattle.abstract_monitor.specs.Calls.{Told, unlocked}
use Rattle.open_transaction.specs.Transactions.{transaction_of}
use Rattle.kdcs_calls.specs.Parts.{named_by}
use Rattle.kdcs_calls.proofs.AreaCalls.{answers_in, locks_out}
use Rattle.kdcs_calls.proofs.areas.unlock.Goals as goal

pub returns-clause-exact : goal.returns-clause-exact
returns-clause-exact c =
    answers_in c.args.outside.now.generation.now c.args.outside.now.tables.now c.args.locks.now c.args.transaction.now.id (transaction_of c.args.transaction.now) (named_by c.args.owner) c.unlock_held.result _ _ c.area_in-area.ensures (transaction_of c.unlock_held.new.transaction) (λ (v : Told) (a : Area). unlocked v (transaction_of c.args.transaction.now) a) c.unlock_held.ensures.exact

pub returns-clause-locks : goal.returns-clause-locks
returns-clause-locks c = locks_out c.args.outside.now.generation.now c.args.outside.now.tables.now c.args.locks.now c.args.transaction.now.id (transaction_of c.args.transaction.now) (named_by c.args.owner) c.unlock_held.result _ _ c.area_in-area.ensures c.unlock_held.new.locks c.unlock_held.ensures.locks
