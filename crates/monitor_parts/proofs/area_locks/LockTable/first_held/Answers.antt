use Rattle.std.proofs.Common.{◌∙◌, sym}
use Rattle.monitor_parts.proofs.area_locks.Indexing.{anothers_first, first_held, has_area, nothing_held, none_by}
use Rattle.monitor_parts.proofs.area_locks.LockTable.first_held.Goals as goal

pub returns-in_err-holding-clause-none : goal.returns-in_err-holding-clause-none
returns-in_err-holding-clause-none c =
    rw (← c.self.view_is)
    (none_by c.from_residual.result _ (nothing_held c.self.inside.holders c.self.inside.held c.self.invariant c.from.ensures.ascending c.args.who (sym c.from.ensures.pairs ∙ c.in_err-holding.ensures.steps.0)))

pub returns-then-eq-clause-held : goal.returns-then-eq-clause-held
returns-then-eq-clause-held c =
    rw (← c.self.view_is)
    (first_held c.self.inside.holders c.self.inside.held c.self.invariant c.from.ensures.ascending c.args.who _ _ (sym c.from.ensures.pairs ∙ c.in_ok-holding.ensures.steps) (sym c.eq.ensures ∙ c.if-eq.true))

pub returns-then-eq-clause-none : goal.returns-then-eq-clause-none
returns-then-eq-clause-none c =
    has_area c.self.inside.holders c.self.inside.held c.self.invariant c.from.ensures.ascending c.args.who _ _ (sym c.from.ensures.pairs ∙ c.in_ok-holding.ensures.steps) (sym c.eq.ensures ∙ c.if-eq.true) _

pub returns-else-eq-clause-none : goal.returns-else-eq-clause-none
returns-else-eq-clause-none c =
    rw (← c.self.view_is)
    (anothers_first c.self.inside.holders c.self.inside.held c.self.invariant c.from.ensures.ascending c.args.who _ _ (sym c.from.ensures.pairs ∙ c.in_ok-holding.ensures.steps) (sym c.eq.ensures ∙ c.if-eq.false))
