use Rattle.std.proofs.Common.{◌≡◌, ◌+◌, length, sym, ◌∙◌, arith}
use Rattle.unit_read.specs.Open.{unit_so_far}
use Rattle.unit_read.proofs.Kept.{label_kept}
use Rattle.unit_read.proofs.OpenUnits.{label_given, label_twice}
use Rattle.unit_read.proofs.open_unit.OpenUnit.with_label.Goals as goal

pub returns-then-holds-clause-unit : goal.returns-then-holds-clause-unit
returns-then-holds-clause-unit c =
    label_twice c.args.line c.args.label (unit_so_far c.args.self.now) (sym (c.requires.labels c.args.label) ∙ sym c.holds.ensures ∙ c.if-holds.true)

pub returns-clause-unit : goal.returns-clause-unit
returns-clause-unit c =
    let at : c.len.result + 1 ≡ length c.args.self.now.statements.items + 1 = omega (arith, c.args.self.now.statements.ok.0, c.len.ensures) in
    label_given c.args.line c.args.label (unit_so_far c.args.self.now) c.push.new.items.items _ (sym (c.requires.labels c.args.label) ∙ sym c.holds.ensures ∙ c.if-holds.false) c.in_ok-push.ensures at

pub returns-clause-kept : goal.returns-clause-kept
returns-clause-kept c = record {
  fields = c.requires.fields;
  labels = label_kept c.args.self.now.label_names c.add_name.new.names c.args.self.now.labels.items c.push.new.items.items _ c.in_ok-push.ensures c.in_ok-add_name.ensures c.requires.labels;
  few = c.requires.few;
}
