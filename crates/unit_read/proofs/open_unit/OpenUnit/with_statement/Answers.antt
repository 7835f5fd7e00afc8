use Rattle.std.proofs.Common.{◌<◌, ◌≤◌, [], ◌∷◌, length, sym, ap, ◌∙◌, arith, length-append}
use Rattle.unit_read.specs.Names.{holds, has_field}
use Rattle.unit_read.specs.Used.{uses}
use Rattle.unit_read.specs.Open.{unit_so_far}
use Rattle.unit_read.proofs.OpenUnits.{uses_same, undefined_field, too_many, statement_given}
use Rattle.unit_read.proofs.open_unit.OpenUnit.with_statement.Goals as goal

pub returns-then-not-is_defined-clause-unit : goal.returns-then-not-is_defined-clause-unit
returns-then-not-is_defined-clause-unit c =
    undefined_field c.args.line c.args.said (unit_so_far c.args.self.now)
    (sym (uses_same (holds c.args.self.now.field_names) (has_field c.args.self.now.fields.items) c.requires.fields c.args.said) ∙ ap (uses (holds c.args.self.now.field_names)) (sym c.action.ensures) ∙ sym c.is_defined.ensures ∙ c.if-not-is_defined.true)

pub returns-then-len-ge-MAX_STATEMENTS-clause-unit : goal.returns-then-len-ge-MAX_STATEMENTS-clause-unit
returns-then-len-ge-MAX_STATEMENTS-clause-unit c =
    let many : 10000 ≤ length c.args.self.now.statements.items = omega (arith, c.args.self.now.statements.ok.0, c.len.ensures) in
    too_many c.args.line c.args.said (unit_so_far c.args.self.now)
    (sym (uses_same (holds c.args.self.now.field_names) (has_field c.args.self.now.fields.items) c.requires.fields c.args.said) ∙ ap (uses (holds c.args.self.now.field_names)) (sym c.action.ensures) ∙ sym c.is_defined.ensures ∙ c.if-not-is_defined.false) many

pub returns-clause-unit : goal.returns-clause-unit
returns-clause-unit c =
    let few : length c.args.self.now.statements.items < 10000 = omega (arith, c.args.self.now.statements.ok.0, c.len.ensures) in
    statement_given c.args.line c.args.said (unit_so_far c.args.self.now) c.add_to.new.statements.items
    (sym (uses_same (holds c.args.self.now.field_names) (has_field c.args.self.now.fields.items) c.requires.fields c.args.said) ∙ ap (uses (holds c.args.self.now.field_names)) (sym c.action.ensures) ∙ sym c.is_defined.ensures ∙ c.if-not-is_defined.false) few c.in_ok-add_to.ensures

pub returns-clause-kept : goal.returns-clause-kept
returns-clause-kept c =
    let few : length c.args.self.now.statements.items < 10000 = omega (arith, c.args.self.now.statements.ok.0, c.len.ensures) in
    record {
      fields = c.requires.fields;
      labels = c.requires.labels;
      few = omega (arith, ap length c.in_ok-add_to.ensures, length-append c.args.self.now.statements.items (record { line = c.args.line; action = c.args.said } ∷ []));
    }
