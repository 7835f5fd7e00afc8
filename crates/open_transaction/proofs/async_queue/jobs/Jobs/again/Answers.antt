-- Both have the other target, or the job is in neither.
use Rattle.std.proofs.Common.{◌≡◌, Some, None, is_some, sym, ap, ◌∙◌}
use Rattle.std.specs.Prelude.{option_copied}
use Rattle.std.specs.FinMap.{find}
use Rattle.std.specs.Ordering.{nat_cmp}
use Rattle.open_transaction.specs.declared.async_queue.queue.Waiting.{Waiting}
use Rattle.open_transaction.specs.DueIndex.{queue_in, queued}
use Rattle.open_transaction.specs.Queue.{delivered}
use Rattle.open_transaction.proofs.async_queue.Index.{readdressed}
use Rattle.open_transaction.proofs.async_queue.Views.{job_absent, job_changed, job_there, none_changed}
use Rattle.open_transaction.proofs.async_queue.jobs.Jobs.again.Goals as goal
use Rattle.open_transaction.proofs.async_queue.jobs.Jobs.again.Goals.{In-Some, In_default}

absent : (c : In_default) → find nat_cmp c.args.number c.self.inside.by_number ≡ None
absent c = sym c.get.ensures.value ∙ ap option_copied c.in_default.is

there : (c : In-Some) → find nat_cmp c.args.number c.self.inside.by_number ≡ Some c.in-Some.waiting.now
there c = sym c.get.ensures.value ∙ ap option_copied c.in-Some.is

pub returns-in_default-clause-result : goal.returns-in_default-clause-result
returns-in_default-clause-result c = sym (ap is_some (job_absent c.args.number c.self.inside.by_number c.args.self.now c.self.view_is (absent c)))

pub returns-in_default-clause-ok : goal.returns-in_default-clause-ok
returns-in_default-clause-ok c = sym c.self.view_is ∙ none_changed c.args.number c.self.inside.by_number c.args.self.now c.self.view_is (delivered c.args.to) (absent c)

pub invariant_of-self-2 : goal.invariant_of-self-2
invariant_of-self-2 c =
    rw (c.replace.ensures.values, c.in_ok-rekey.ensures.ok, c.key.ensures, c.key-2.ensures)
    (readdressed c.args.number c.self.inside.by_number c.self.inside.by_due c.self.invariant c.in-Some.waiting.now c.for_target-again.result
    (there (goal.at.invariant_of-self-2 c).In-Some) (ap (λ (w : Waiting). w.taken) c.for_target-again.ensures))

pub returns-clause-result : goal.returns-clause-result
returns-clause-result c = sym (ap is_some (job_there c.args.number c.self.inside.by_number c.args.self.now c.self.view_is c.in-Some.waiting.now (there (goal.at.returns-clause-result c).In-Some)))

pub returns-clause-ok : goal.returns-clause-ok
returns-clause-ok c =
    ap queue_in c.replace.ensures.values
    ∙ job_changed c.args.number c.self.inside.by_number c.args.self.now c.self.view_is (delivered c.args.to) c.in-Some.waiting.now c.for_target-again.result
    (ap (λ (w : Waiting). queued (c.args.number, w)) (sym c.for_target-again.ensures)) c.self.invariant.numbers (there (goal.at.returns-clause-ok c).In-Some)
