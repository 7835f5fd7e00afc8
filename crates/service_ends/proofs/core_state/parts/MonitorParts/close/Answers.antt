use Rattle.service_ends.specs.KeptLaws.{closed_indexed, closed_state, found_owned, found_transaction}
use Rattle.service_ends.proofs.core_state.parts.MonitorParts.close.Goals as goal

pub returns-clause-indexed : goal.returns-clause-indexed
returns-clause-indexed c =
    closed_indexed c.args.self.now c.args.id.now c.requires.indexed c.requires.unplaced _ _ _ c.remove-transaction.ensures.left c.free_all.ensures.locks c.free_all.ensures.holders c.mark.ensures

pub returns-clause-state : goal.returns-clause-state
returns-clause-state c = closed_state c.args.self.now c.args.id.now _ _ c.mark.new.jobs c.remove-transaction.ensures.left c.free_all.ensures.locks

pub returns-clause-found : goal.returns-clause-found
returns-clause-found c = found_transaction c.args.self.now c.args.id.now _ c.remove-transaction.ensures.value

pub returns-clause-owned : goal.returns-clause-owned
returns-clause-owned c = found_owned c.args.self.now c.args.id.now _ c.remove-transaction.ensures.value c.requires.indexed
