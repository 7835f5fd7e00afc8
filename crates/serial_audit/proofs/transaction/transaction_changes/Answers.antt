use Rattle.std.proofs.Common.{sym, ◌∙◌}
use Rattle.table_fit.specs.ChargingLaws.{suiting_short}
use Rattle.serial_audit.proofs.Starting.{lasting, put_in, start_auditable, start_charged, start_expects, start_expects_ok, start_rooted, taken_out}
use Rattle.serial_audit.proofs.transaction.transaction_changes.Goals as goal

pub total_charge-charge-requires-clause-short : goal.total_charge-charge-requires-clause-short
total_charge-charge-requires-clause-short c = suiting_short c.args.generation.now c.args.tables.now c.max.ensures.sound.limits c.requires.suits

pub replayed_over-requires-clause-auditable : goal.replayed_over-requires-clause-auditable
replayed_over-requires-clause-auditable c = start_auditable c.args.generation.now c.args.units.now c.args.tables.now c.args.record.now c.clock-clock.ensures.sorted c.requires.suits c.in-Some.ensures.some.0 c.args.tables.now (lasting c.args.generation.now c.args.units.now c.args.tables.now c.args.record.now c.clock-clock.ensures.sorted c.requires.suits c.in-Some.ensures.some.0 (sym c.is_durable-lasts.ensures ∙ c.if-lasts.true)) c.requires.fit c.fitted_units_make_an_application.ensures c.requires.kept

pub replayed_over-requires-clause-charge : goal.replayed_over-requires-clause-charge
replayed_over-requires-clause-charge c = start_charged c.args.generation.now c.args.units.now c.args.tables.now c.args.record.now c.clock-clock.ensures.sorted c.requires.suits c.in-Some.ensures.some.0 c.args.tables.now (lasting c.args.generation.now c.args.units.now c.args.tables.now c.args.record.now c.clock-clock.ensures.sorted c.requires.suits c.in-Some.ensures.some.0 (sym c.is_durable-lasts.ensures ∙ c.if-lasts.true)) c.max.ensures.sound.limits c.max.result.now c.total_charge-charge.result c.max.ensures.limits c.total_charge-charge.ensures

pub returns-then-lasts-clause-expected : goal.returns-then-lasts-clause-expected
returns-then-lasts-clause-expected c = start_expects_ok c.args.generation.now c.args.units.now c.args.tables.now c.args.record.now c.clock-clock.ensures.sorted c.requires.suits c.in-Some.ensures.some.0 c.args.tables.now (lasting c.args.generation.now c.args.units.now c.args.tables.now c.args.record.now c.clock-clock.ensures.sorted c.requires.suits c.in-Some.ensures.some.0 (sym c.is_durable-lasts.ensures ∙ c.if-lasts.true)) c.replayed_over.result c.replayed_over.ensures

pub replayed_over-requires-2-clause-auditable : goal.replayed_over-requires-2-clause-auditable
replayed_over-requires-2-clause-auditable c = start_auditable c.args.generation.now c.args.units.now c.args.tables.now c.args.record.now c.clock-clock.ensures.sorted c.requires.suits c.in-Some.ensures.some.0 c.set_row.new.tables (put_in c.args.generation.now c.args.units.now c.args.tables.now c.args.record.now c.clock-clock.ensures.sorted c.requires.suits c.in-Some.ensures.some.0 (sym c.is_durable-lasts.ensures ∙ c.if-lasts.false) c.set_row.new.tables c.in_ok-set_row.ensures) c.requires.fit c.fitted_units_make_an_application.ensures c.requires.kept

pub replayed_over-requires-2-clause-can : goal.replayed_over-requires-2-clause-can
replayed_over-requires-2-clause-can c = start_rooted c.args.generation.now c.args.units.now c.args.tables.now c.args.record.now c.clock-clock.ensures.sorted c.requires.suits c.in-Some.ensures.some.0 c.set_row.new.tables (put_in c.args.generation.now c.args.units.now c.args.tables.now c.args.record.now c.clock-clock.ensures.sorted c.requires.suits c.in-Some.ensures.some.0 (sym c.is_durable-lasts.ensures ∙ c.if-lasts.false) c.set_row.new.tables c.in_ok-set_row.ensures)

pub replayed_over-requires-2-clause-charge : goal.replayed_over-requires-2-clause-charge
replayed_over-requires-2-clause-charge c = start_charged c.args.generation.now c.args.units.now c.args.tables.now c.args.record.now c.clock-clock.ensures.sorted c.requires.suits c.in-Some.ensures.some.0 c.set_row.new.tables (put_in c.args.generation.now c.args.units.now c.args.tables.now c.args.record.now c.clock-clock.ensures.sorted c.requires.suits c.in-Some.ensures.some.0 (sym c.is_durable-lasts.ensures ∙ c.if-lasts.false) c.set_row.new.tables c.in_ok-set_row.ensures) c.max.ensures.sound.limits c.max.result.now c.total_charge-charge.result c.max.ensures.limits c.total_charge-charge.ensures

pub returns-clause-expected : goal.returns-clause-expected
returns-clause-expected c = start_expects c.args.generation.now c.args.units.now c.args.tables.now c.args.record.now c.clock-clock.ensures.sorted c.requires.suits c.in-Some.ensures.some.0 c.set_row.new.tables (put_in c.args.generation.now c.args.units.now c.args.tables.now c.args.record.now c.clock-clock.ensures.sorted c.requires.suits c.in-Some.ensures.some.0 (sym c.is_durable-lasts.ensures ∙ c.if-lasts.false) c.set_row.new.tables c.in_ok-set_row.ensures) c.in_ok-changes.changes c.in_ok-changes.ensures

pub returns-clause-same : goal.returns-clause-same
returns-clause-same c = taken_out c.args.generation.now c.args.units.now c.args.tables.now c.args.record.now c.clock-clock.ensures.sorted c.requires.suits c.in-Some.ensures.some.0 (sym c.is_durable-lasts.ensures ∙ c.if-lasts.false) c.set_row.new.tables c.set_row-2.new.tables c.in_ok-set_row.ensures c.in_ok-set_row-2.ensures
