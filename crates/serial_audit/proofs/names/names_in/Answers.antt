use Rattle.std.specs.Prelude.{◌≡◌, IfSome}
use Rattle.std.proofs.Common.{sym, subst, ◌∙◌, true≢false}
use Rattle.kdcs_types.specs.declared.service.Service.{Service}
use Rattle.abstract_monitor.specs.Bytes.{Bytes}
use Rattle.abstract_monitor.specs.Statements.{kept_of}
use Rattle.serial_audit.proofs.Unnamed.{first_named}
use Rattle.serial_audit.proofs.names.names_in.Goals as goal

pub returns-else-is_first_of-clause-none : goal.returns-else-is_first_of-clause-none
returns-else-is_first_of-clause-none c = λ right.
    let named = first_named (kept_of c.args.record.now) c.as_slice-inputs.result.now c.index-inputs-0.result c.as_slice-inputs.ensures right.both c.index-inputs-0.is ∙ sym c.in_ok-tac.ensures.some.0 in
    true≢false (sym (c.if-is_first_of.ensures.1 (subst (λ (tac : Bytes). IfSome c.args.record.now.began (λ (row : Service). row.first ≡ tac)) named right.first)))
