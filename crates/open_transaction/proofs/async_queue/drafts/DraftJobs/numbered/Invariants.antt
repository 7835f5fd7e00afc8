use Rattle.std.proofs.Common.{◌≡◌, ◌+◌, ◌++◌, drop}
use Rattle.abstract_monitor.specs.Endings.{numbered}
use Rattle.open_transaction.proofs.async_queue.drafts.DraftJobs.numbered.Given as goal

abbrev pub invariant-loop-draft : goal.invariant-loop-draft
invariant-loop-draft l = record {
  number : l.number ≡ l.next + l.draft-index;
  made : l.jobs.items ++ numbered l.number l.clock l.user l.lterm (drop l.draft-index l.draft-items) ≡ numbered l.next l.clock l.user l.lterm l.draft-items;
}
