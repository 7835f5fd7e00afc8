use Rattle.std.proofs.Common.{sym, ◌∙◌, true≢false}
use Rattle.kdcfile_carry.proofs.planning.planned.Goals as goal

pub returns-then-not-are_own-clause-plan : goal.returns-then-not-are_own-clause-plan
returns-then-not-are_own-clause-plan c = c.in_ok-plan.ensures.plan c.args.fingerprint.now (λ own. true≢false (sym (c.are_own.ensures.1 own) ∙ c.if-not-are_own.true))
