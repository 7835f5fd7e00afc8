use Rattle.std.proofs.Common.{ap, ◌∙◌, ◌++◌, ◌∷◌, []}
use Rattle.service_ends.proofs.step_scheduler.Arrived.{counted_on, moved_on}
use Rattle.service_ends.proofs.step_scheduler.ready.ReadyQueue.renumbered.Goals as goal

pub loop-entry-preserved : goal.loop-entry-preserved
loop-entry-preserved c =
    let fresh = c.loop-entry.fresh in
    let entry = c.in-Some.entry.now in
    record {
      same = moved_on c.len.result _ entry fresh c.append.new.self c.loop-entry.entry-iterator c.next.new.self _ c.in_ok-append.ensures.ok c.in-Some.ensures.steps c.loop-entry.invariant.same;
      next = counted_on entry fresh c.append.new.self (c.in_ok-append.ensures.ok ∙ ap (λ n. fresh ++ (n, entry) ∷ []) c.len.ensures) c.loop-entry.invariant.next;
    }
