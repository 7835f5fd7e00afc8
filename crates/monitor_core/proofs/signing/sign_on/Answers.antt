use Rattle.std.proofs.Common.{sym, ◌∙◌}
use Rattle.kdcs_types.specs.declared.key.ServiceId.TheVariants.{Dialogue}
use Rattle.monitor_core.proofs.Entering.{row_order}
use Rattle.monitor_core.proofs.signing.sign_on.Goals as goal

pub sign_on_again-requires-clause-order : goal.sign_on_again-requires-clause-order
sign_on_again-requires-clause-order c = row_order c.args.parts.now.tables (Dialogue c.args.user.now) c.in-Some.row c.requires.whole.facts.1.order (sym c.in-Some.is ∙ c.in_ok-row_of.ensures)
