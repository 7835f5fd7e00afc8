use Rattle.std.proofs.Common.{sym, ap, subst, ◌∙◌, arith}
use Rattle.abstract_monitor.specs.declared.draft.Draft.{Draft}
use Rattle.abstract_monitor.specs.Endings.{numbered}
use Rattle.open_transaction.specs.Drafts.{IsInTicks, AreInTicks}
use Rattle.open_transaction.proofs.async_queue.DraftLemmas.{in_ticks_at, numbered_more, numbered_all}
use Rattle.open_transaction.proofs.async_queue.drafts.DraftJobs.numbered.Goals as goal

pub numbered_job-requires-clause-due : goal.numbered_job-requires-clause-due
numbered_job-requires-clause-due c =
    subst (λ (d : Draft). IsInTicks d.due) (sym c.draft-item.is)
    (in_ticks_at _ c.loop-draft.draft-index c.draft-item.result (subst AreInTicks (sym c.as_slice-draft-items.ensures) c.self.invariant) (omega arith))

pub loop-draft-preserved : goal.loop-draft-preserved
loop-draft-preserved c = record {
  number = omega (arith, c.loop-draft.invariant.number);
  made = numbered_more c.loop-draft.number _ _ _ c.as_slice-draft-items.result.now c.loop-draft.draft-index c.draft-item.result _ _ _ _ (omega arith) c.draft-item.is c.in_ok-numbered_job.ensures c.in_ok-push.ensures.items c.loop-draft.invariant.made;
}

pub returns : goal.returns
returns c =
    numbered_all c.loop-draft.number _ _ _ c.as_slice-draft-items.result.now c.loop-draft.draft-index _ _ (omega arith) c.loop-draft.invariant.made
    ∙ ap (numbered c.args.next c.args.clock c.args.user c.args.lterm) (c.as_slice-draft-items.ensures ∙ c.self.view_is)
