use Rattle.std.proofs.Common.{ap, sym, ◌∙◌}
use Rattle.kdcs_types.specs.declared.key.ServiceId.TheVariants.{Asynchronous}
use Rattle.service_ends.specs.KeptLaws.{found_open}
use Rattle.service_ends.specs.Queue.{marked_if}
use Rattle.service_ends.proofs.core_state.rows.mark_if_open.Goals as goal

pub returns-then-contains_key : goal.returns-then-contains_key
returns-then-contains_key c =
    c.take.ensures.marked
    ∙ ap (λ b. marked_if b c.args.number c.args.jobs.now) (sym c.if-contains_key.true ∙ c.contains_key.ensures ∙ found_open c.args.active.now (Asynchronous c.args.number))

pub returns-else-contains_key : goal.returns-else-contains_key
returns-else-contains_key c =
    ap (λ b. marked_if b c.args.number c.args.jobs.now) (sym c.if-contains_key.false ∙ c.contains_key.ensures ∙ found_open c.args.active.now (Asynchronous c.args.number))
