-- Both have the mark, or the job is in neither.
use Rattle.std.proofs.Common.{◌≡◌, Bool, true, false, Some, None, refl, is_some, sym, ap, ◌∙◌}
use mathlib.Core.Bool.{beq}
use Rattle.std.specs.Prelude.{not, option_copied}
use Rattle.std.specs.FinMap.{find}
use Rattle.std.specs.Ordering.{nat_cmp}
use Rattle.open_transaction.specs.declared.async_queue.queue.QueuedJob.{QueuedJob}
use Rattle.open_transaction.specs.declared.async_queue.queue.Waiting.{Waiting}
use Rattle.open_transaction.specs.DueIndex.{key_of, queue_in, queued}
use Rattle.open_transaction.specs.DueOrder.{due_cmp}
use Rattle.open_transaction.specs.Queue.{has_mark, with_taken}
use Rattle.open_transaction.proofs.async_queue.Index.{key_there, remarked}
use Rattle.open_transaction.proofs.async_queue.Views.{job_absent, job_changed, job_there, none_changed}
use Rattle.open_transaction.proofs.async_queue.jobs.Jobs.mark.Goals as goal
use Rattle.open_transaction.proofs.async_queue.jobs.Jobs.mark.Goals.{In-Some, In_default}

absent : (c : In_default) → find nat_cmp c.args.number c.self.inside.by_number ≡ None
absent c = sym c.get.ensures.value ∙ ap option_copied c.in_default.is

there : (c : In-Some) → find nat_cmp c.args.number c.self.inside.by_number ≡ Some c.in-Some.waiting.now
there c = sym c.get.ensures.value ∙ ap option_copied c.in-Some.is

differs : (taken : Bool) (q : QueuedJob) → not (beq q.taken taken) ≡ has_mark (not taken) (Some q)
differs true q = elim q.taken as (λ b. not (beq b true) ≡ not b) [ true ↦ refl | false ↦ refl ]
differs false q = elim q.taken as (λ b. not (beq b false) ≡ b) [ true ↦ refl | false ↦ refl ]

pub returns-in_default-clause-result : goal.returns-in_default-clause-result
returns-in_default-clause-result c = sym (ap (has_mark (not c.args.taken)) (job_absent c.args.number c.self.inside.by_number c.args.self.now c.self.view_is (absent c)))

pub returns-in_default-clause-marked : goal.returns-in_default-clause-marked
returns-in_default-clause-marked c = sym c.self.view_is ∙ none_changed c.args.number c.self.inside.by_number c.args.self.now c.self.view_is (with_taken c.args.taken) (absent c)

pub replace-requires-2 : goal.replace-requires-2
replace-requires-2 c =
    ap is_some
    (ap (λ k. find due_cmp k c.self.inside.by_due) (c.key.ensures ∙ ap (key_of c.args.number) c.with_mark-marked.ensures)
    ∙ key_there c.args.number c.self.inside.by_number c.self.inside.by_due c.self.invariant c.in-Some.waiting.now (there (goal.at.replace-requires-2 c).In-Some))

pub invariant_of-self : goal.invariant_of-self
invariant_of-self c =
    rw (c.replace.ensures.values, c.replace-2.ensures.values, c.key.ensures, c.with_mark-marked.ensures)
    (remarked c.args.number c.self.inside.by_number c.self.inside.by_due c.self.invariant c.in-Some.waiting.now (record c.in-Some.waiting.now { taken = c.args.taken }) (there (goal.at.invariant_of-self c).In-Some) refl)

pub returns-clause-result : goal.returns-clause-result
returns-clause-result c =
    differs c.args.taken (queued (c.args.number, c.in-Some.waiting.now))
    ∙ sym (ap (has_mark (not c.args.taken)) (job_there c.args.number c.self.inside.by_number c.args.self.now c.self.view_is c.in-Some.waiting.now (there (goal.at.returns-clause-result c).In-Some)))

pub returns-clause-marked : goal.returns-clause-marked
returns-clause-marked c =
    ap queue_in c.replace.ensures.values
    ∙ job_changed c.args.number c.self.inside.by_number c.args.self.now c.self.view_is (with_taken c.args.taken) c.in-Some.waiting.now c.with_mark-marked.result
    (ap (λ (w : Waiting). queued (c.args.number, w)) (sym c.with_mark-marked.ensures)) c.self.invariant.numbers (there (goal.at.returns-clause-marked c).In-Some)
