use Rattle.std.specs.Prelude.{option_copied}
use Rattle.std.proofs.Common.{sym, ap, ◌∙◌}
use Rattle.serial_audit.proofs.SameRows.{row_iff}
use Rattle.serial_audit.proofs.transaction.has_row.Goals as goal

pub returns-in-Some-Some : goal.returns-in-Some-Some
returns-in-Some-Some c = row_iff c.in-Some-Some.row.now c.in-Some-Some.other c.same_service.result _ c.args.began.now c.same_service.ensures (sym c.service.ensures ∙ ap option_copied c.in-Some-Some.is-0) c.in-Some-Some.is-1
