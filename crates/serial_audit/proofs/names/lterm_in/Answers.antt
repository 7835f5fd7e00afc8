use Rattle.std.proofs.Common.{subst}
use Rattle.kd_base.specs.Text.{IsName}
use Rattle.serial_audit.proofs.Unnamed.{no_lterm}
use Rattle.serial_audit.proofs.names.lterm_in.Goals as goal

pub returns-in_err-lterm-clause-none : goal.returns-in_err-lterm-clause-none
returns-in_err-lterm-clause-none c = rw c.from_residual.ensures (no_lterm c.args.generation.now c.max-limits.ensures.sound.names c.args.bytes.now (subst (λ bytes. IsName bytes → ⊥) c.as_slice.ensures c.in_err-lterm.ensures.exact))
