use Rattle.laws_of_runs.specs.Applied.{applied}
use Rattle.serial_audit.proofs.Expects.{audited_differs, audited_holds, audited_suits}
use Rattle.serial_audit.proofs.audited.audit_entry.Goals as goal

pub returns-clause-holds : goal.returns-clause-holds
returns-clause-holds c = audited_holds (applied c.args.generation.now c.args.units.now) c.args.tables c.clock-clock.ensures.sorted c.requires.suits c.args.entry.now c.expected_changes.new.tables c.in_ok-expected.ensures.same c.in_ok-expected.expected c.in_ok-expected.ensures.expected c.confirm.result c.confirm.ensures.holds

pub returns-clause-suits : goal.returns-clause-suits
returns-clause-suits c = audited_suits (applied c.args.generation.now c.args.units.now) c.args.tables c.clock-clock.ensures.sorted c.requires.suits c.args.entry.now c.expected_changes.new.tables c.in_ok-expected.ensures.same c.in_ok-expected.expected c.in_ok-expected.ensures.expected c.confirm.result c.confirm.ensures.holds

pub returns-clause-differs : goal.returns-clause-differs
returns-clause-differs c = audited_differs (applied c.args.generation.now c.args.units.now) c.args.tables c.clock-clock.ensures.sorted c.requires.suits c.args.entry.now c.expected_changes.new.tables c.in_ok-expected.ensures.same c.in_ok-expected.expected c.in_ok-expected.ensures.expected c.confirm.result c.confirm.ensures.differs
