use Rattle.unit_read.proofs.Kept.{field_kept}
use Rattle.unit_read.proofs.open_unit.OpenUnit.with_field.Goals as goal

pub returns-clause-kept : goal.returns-clause-kept
returns-clause-kept c = record {
  fields = field_kept c.args.self.now.field_names c.add_name.new.names c.args.self.now.fields.items c.push.new.items.items _ c.in_ok-push.ensures c.in_ok-add_name.ensures c.requires.fields;
  labels = c.requires.labels;
  few = c.requires.few;
}
