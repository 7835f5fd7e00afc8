use Rattle.std.proofs.Common.{ℕ, refl, ap, ◌∙◌}
use Rattle.abstract_monitor.specs.Contents.{in_digits}
use Rattle.service_parts.proofs.unit_step.Results.{five_fit}
use Rattle.service_parts.proofs.unit_step.operand.five_digits.Goals as goal

pub returns : goal.returns
returns c =
    five_fit c.args.number 5 c.last_digits.new.into _ refl (c.last_digits.ensures.digits ∙ ap (λ (n : ℕ). in_digits 5 n) c.from.ensures)
