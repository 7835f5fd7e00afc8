use Rattle.std.specs.Prelude.{◌≤◌}
use Rattle.std.proofs.Common.{ap, sym, subst, arith, ◌∙◌}
use Rattle.service_ends.specs.ChangesLaws.{opened_fresh}
use Rattle.service_ends.specs.KeptLaws.{opened_indexed, opened_state}
use Rattle.service_ends.proofs.core_state.parts.MonitorParts.open.Goals as goal

pub returns-clause-indexed : goal.returns-clause-indexed
returns-clause-indexed c =
    let exact = c.in_ok-transaction.ensures.exact in
    let fresh = opened_fresh c.args.self.now.generation c.args.began c.args.header _ _ in
    opened_indexed c.args.self.now c.args.id.now c.requires.indexed c.requires.unplaced c.in_ok-transaction.transaction _ _ c.in_ok-put.ensures.ok c.mark.ensures
    record { id = c.in_ok-transaction.ensures.id; nb = c.in_ok-transaction.ensures.nb; counted = subst (λ n. n ≤ c.args.self.now.steps) (sym (ap (λ x. x.statements) exact ∙ fresh.1)) (omega arith) }
    c.requires.closed
    (ap (λ x. x.touched) exact ∙ fresh.0)

pub returns-clause-state : goal.returns-clause-state
returns-clause-state c = opened_state c.args.self.now c.args.id.now c.in_ok-transaction.transaction _ _ c.mark.new.jobs c.in_ok-put.ensures.ok c.in_ok-transaction.ensures.exact
