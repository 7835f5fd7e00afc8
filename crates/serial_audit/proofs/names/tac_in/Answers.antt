use Rattle.std.proofs.Common.{subst}
use Rattle.kd_base.specs.Text.{IsName}
use Rattle.serial_audit.proofs.Unnamed.{no_tac}
use Rattle.serial_audit.proofs.names.tac_in.Goals as goal

pub returns-in_err-tac-clause-none : goal.returns-in_err-tac-clause-none
returns-in_err-tac-clause-none c = rw c.from_residual.ensures (no_tac c.args.generation.now c.max-limits.ensures.sound.names c.args.bytes.now c.args.asynchronous (subst (λ bytes. IsName bytes → ⊥) c.as_slice.ensures c.in_err-tac.ensures.exact))
