use Rattle.std.specs.Box.{with_value}
use Rattle.std.proofs.Common.{refl}
use Rattle.abstract_monitor.specs.declared.answer.Happened.TheVariants.{Breaks, Settles}
use Rattle.open_transaction.specs.Transactions.{transaction_of}
use Rattle.serial_audit.proofs.Ends.{end_changes, end_stands}
use Rattle.serial_audit.proofs.ending.end.Goals as goal

pub end_settled-requires-clause-stands : goal.end_settled-requires-clause-stands
end_settled-requires-clause-stands c = end_stands c.args.replay.now c.args.transaction c.deref_mut.result.now c.deref_mut.ensures.value (transaction_of c.next_statement.new.transaction) c.in_ok-outcome.field-0 (Settles c.in-Settles.outcome) c.in_ok-outcome.ensures.exact c.in-Settles.is tt (with_value c.args.transaction c.next_statement.new.transaction) refl c.next_statement.new.locks c.requires.auditable c.in_ok-outcome.ensures.goes c.requires.rooted

pub end_broken-requires : goal.end_broken-requires
end_broken-requires c = record { stands = end_stands c.args.replay.now c.args.transaction c.deref_mut.result.now c.deref_mut.ensures.value (transaction_of c.next_statement.new.transaction) c.in_ok-outcome.field-0 (Breaks c.in-Breaks.ending) c.in_ok-outcome.ensures.exact c.in-Breaks.is tt (with_value c.args.transaction c.next_statement.new.transaction) refl c.next_statement.new.locks c.requires.auditable c.in_ok-outcome.ensures.goes c.requires.rooted }

pub returns-in_ok-end_settled-in-Settles-clause-some : goal.returns-in_ok-end_settled-in-Settles-clause-some
returns-in_ok-end_settled-in-Settles-clause-some c = end_changes c.args.replay.now c.args.transaction c.deref_mut.result.now c.deref_mut.ensures.value (transaction_of c.next_statement.new.transaction) c.in_ok-outcome.field-0 (Settles c.in-Settles.outcome) c.in_ok-outcome.ensures.exact c.in-Settles.is tt c.in_ok-end_settled-in-Settles.field-0 c.in_ok-end_settled-in-Settles.ensures

pub returns-in_ok-end_broken-in-Breaks-clause-some : goal.returns-in_ok-end_broken-in-Breaks-clause-some
returns-in_ok-end_broken-in-Breaks-clause-some c = end_changes c.args.replay.now c.args.transaction c.deref_mut.result.now c.deref_mut.ensures.value (transaction_of c.next_statement.new.transaction) c.in_ok-outcome.field-0 (Breaks c.in-Breaks.ending) c.in_ok-outcome.ensures.exact c.in-Breaks.is tt c.in_ok-end_broken-in-Breaks.field-0 c.in_ok-end_broken-in-Breaks.ensures
