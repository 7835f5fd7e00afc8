-- What stands at the key where the search stops is the first job of the target, if one is due.
use Rattle.std.proofs.Common.{inl, inr, sym, subst, ◌∙◌}
use Rattle.kdcs_types.specs.Same.{target_eq}
use Rattle.open_transaction.specs.DueIndex.{IsFirst, IsThere}
use Rattle.open_transaction.specs.Queue.{is_due}
use Rattle.open_transaction.proofs.async_queue.Scans.{first_for, none_for, nothing_for}
use Rattle.open_transaction.proofs.async_queue.choice.first_for.Goals as goal

pub returns-in_err-key : goal.returns-in_err-key
returns-in_err-key c =
    subst (IsFirst (IsThere c.args.by_due.now) (is_due c.args.now (target_eq c.args.to.now))) (sym c.from_residual.ensures)
    (none_for c.args.by_due.now c.args.now c.args.to.now c.key_for.ensures.ascending (sym c.key_for.ensures.key ∙ c.in_err-key.was))

pub returns-then-not-is_same : goal.returns-then-not-is_same
returns-then-not-is_same c =
    nothing_for c.args.by_due.now c.args.now c.args.to.now c.key_for.ensures.ascending c.in_ok-key.key (sym c.key_for.ensures.key ∙ c.in_ok-key.was)
    (elim c.then-not-is_same.either [ inl other ↦ inl (sym c.is_same.ensures ∙ other) | inr late ↦ inr late.1 ])

pub returns : goal.returns
returns c =
    first_for c.args.by_due.now c.args.now c.args.to.now c.key_for.ensures.ascending c.in_ok-key.key (sym c.key_for.ensures.key ∙ c.in_ok-key.was)
    (sym c.is_same.ensures ∙ c.if-not-is_same.false) c.if-key-now.false
