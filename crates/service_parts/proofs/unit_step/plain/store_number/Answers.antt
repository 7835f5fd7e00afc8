use Rattle.std.proofs.Common.{refl, ◌∙◌}
use Rattle.service_parts.proofs.unit_step.Results.{refused, fits, gets_number}
use Rattle.service_parts.proofs.unit_step.plain.store_number.Goals as goal

pub returns-then-last_digits-ne0-clause-stored : goal.returns-then-last_digits-ne0-clause-stored
returns-then-last_digits-ne0-clause-stored c =
    rw (refused c.args.field.now.length c.args.number c.min.result c.last_digits.result _ refl c.min.ensures c.last_digits.ensures.left c.if-last_digits-ne0.true) refl

pub returns-then-last_digits-ne0-clause-fits : goal.returns-then-last_digits-ne0-clause-fits
returns-then-last_digits-ne0-clause-fits c =
    rw (refused c.args.field.now.length c.args.number c.min.result c.last_digits.result _ refl c.min.ensures c.last_digits.ensures.left c.if-last_digits-ne0.true) refl

pub returns-clause-stored : goal.returns-clause-stored
returns-clause-stored c =
    c.store_digits.ensures.written
    ∙ gets_number c.args.run.now c.args.field.now c.args.number c.min.result c.last_digits.result _ c.last_digits.new.into refl c.min.ensures c.last_digits.ensures.left c.if-last_digits-ne0.false c.last_digits.ensures.digits

pub returns-clause-fits : goal.returns-clause-fits
returns-clause-fits c =
    rw (fits c.args.field.now.length c.args.number c.min.result c.last_digits.result _ refl c.min.ensures c.last_digits.ensures.left c.if-last_digits-ne0.false) refl
