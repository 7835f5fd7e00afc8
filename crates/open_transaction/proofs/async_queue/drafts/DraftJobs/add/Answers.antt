use Rattle.open_transaction.proofs.async_queue.DraftLemmas.{in_ticks_push}
use Rattle.open_transaction.proofs.async_queue.drafts.DraftJobs.add.Goals as goal

pub invariant_of-self-2 : goal.invariant_of-self-2
invariant_of-self-2 c = rw c.in_ok-push.ensures.ok (in_ticks_push _ _ c.self.invariant c.requires)
