use Rattle.std.proofs.Common.{sym, ap, ◌∙◌, subst}
use Rattle.application_types.specs.UnitText.{UnitText}
use Rattle.unit_read.proofs.Kept.{OneMore, unit_kept}
use Rattle.unit_read.proofs.reading.Reading.closed.Goals as goal

pub returns-clause-kept : goal.returns-clause-kept
returns-clause-kept c =
    let name = c.name.ensures ∙ ap (λ (u : UnitText). u.name) (sym c.in_ok-ended.ensures) in
    record {
      names = unit_kept c.args.self.now.names c.add_unit_name.new.names c.args.self.now.units.items c.push.new.items.items _ c.in_ok-push.ensures
          (subst (OneMore c.args.self.now.names c.add_unit_name.new.names) name c.in_ok-add_unit_name.ensures) c.requires.kept.names;
      open_unit = c.requires.kept.open_unit;
    }
