-- One more TAC, or no more.
use Rattle.std.proofs.Common.{sym, ap, subst, ◌∙◌}
use Rattle.kdcs_types.specs.declared.key.Target.TheVariants.{Tac}
use Rattle.open_transaction.specs.DueIndex.{IsFirst}
use Rattle.open_transaction.specs.Queue.{is_due}
use Rattle.open_transaction.proofs.async_queue.Steps.{Before, UpTo, falls, first_of_all, left, next_tac, none_so_far, then_next, with_target, without_target}
use Rattle.open_transaction.proofs.async_queue.Targets.{NextHasJob, after_is, least_is}
use Rattle.open_transaction.proofs.async_queue.choice.first_allowed.Goals as goal
use Rattle.open_transaction.proofs.async_queue.choice.first_allowed.Goals.{then-allows, else-allows}

pub loop-tac-init : goal.loop-tac-init
loop-tac-init g c =
    let least = least_is c.args.by_due.now c.first_target-next.ensures.ascending c.first_target-next.result c.first_target-next.ensures.target in
    record { first = none_so_far c.args.by_due.now c.args.now (g.A.Allows.allows c.args.allowed.now) c.first_target-next.result least.none; has = least.has }

pub loop-tac-preserved : goal.loop-tac-preserved
loop-tac-preserved g c =
    let allowed = g.A.Allows.allows c.args.allowed.now in
    let to = Tac c.in-Some.tac in
    let is = next_tac c.loop-tac.next c.in-Some.tac (sym c.tac_in.ensures ∙ c.in-Some.is) in
    let before = subst (λ next. IsFirst (Before c.args.by_due.now c.args.now allowed next) (is_due c.args.now allowed) c.loop-tac.first) is c.loop-tac.invariant.first in
    let after = after_is c.args.by_due.now c.first_target-next.ensures.ascending to c.target_after-next.result c.target_after-next.ensures.target in
    let first : IsFirst (UpTo c.args.by_due.now c.args.now allowed to) (is_due c.args.now allowed) c.if-allows.first = elim c.if-allows.branch [
      | then-allows w ↦
          rw (w.first-is, w.either_of-first.ensures)
          (with_target c.args.by_due.now c.args.now allowed to c.loop-tac.first w.first_for.result (sym c.allows.ensures ∙ w.if-allows.true) before w.first_for.ensures)
      | else-allows w ↦
          rw w.first-is
          (without_target c.args.by_due.now c.args.now allowed to c.loop-tac.first (sym c.allows.ensures ∙ w.if-allows.false) before)
    ] in
    record { first = then_next c.args.by_due.now c.args.now allowed to c.target_after-next.result c.if-allows.first after first; has = after.has }

pub loop-tac-smaller : goal.loop-tac-smaller
loop-tac-smaller g c =
    let to = Tac c.in-Some.tac in
    let is = next_tac c.loop-tac.next c.in-Some.tac (sym c.tac_in.ensures ∙ c.in-Some.is) in
    let after = after_is c.args.by_due.now c.first_target-next.ensures.ascending to c.target_after-next.result c.target_after-next.ensures.target in
    let has = subst (NextHasJob c.args.by_due.now) is c.loop-tac.invariant.has in
    rw (ap (left c.args.by_due.now) is) (falls c.args.by_due.now to c.target_after-next.result has after)

pub returns : goal.returns
returns g c =
    first_of_all c.args.by_due.now c.args.now (g.A.Allows.allows c.args.allowed.now) (g.met.A.Allows.no_lterm c.args.allowed.now) c.loop-tac.next c.loop-tac.first (sym c.tac_in.ensures ∙ c.in_default.is)
    c.loop-tac.invariant.first
