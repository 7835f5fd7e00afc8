use Rattle.std.proofs.Common.{ap, ◌∙◌}
use Rattle.open_transaction.specs.Transactions.{transaction_of}
use Rattle.serial_audit.specs.Asking.{relabelled}
use Rattle.serial_audit.proofs.Doing.{just, shown_alone, shown_done, shown_short}
use Rattle.kdcs_types.specs.declared.service.Note.TheVariants.{Released}
use Rattle.serial_audit.proofs.statement.do_shown.Goals as goal

pub perform_call-requires-clause-contents : goal.perform_call-requires-clause-contents
perform_call-requires-clause-contents c = shown_short c.args.replay.now c.args.locks.now c.args.transaction.now c.requires.goes c.args.unit.now c.args.call.now c.args.area c.requires.area c.args.content.now c.requires.first c.requires.auditable c.clock-clock.result c.in_ok-shown.shown c.in_ok-shown.ensures

pub perform_call-requires-clause-holds : goal.perform_call-requires-clause-holds
perform_call-requires-clause-holds c = just c.args.replay.now c.args.locks.now c.args.transaction.now c.requires.goes

pub returns-clause-exact : goal.returns-clause-exact
returns-clause-exact c = shown_done c.args.replay.now c.args.locks.now c.args.transaction.now c.requires.goes c.args.unit.now c.args.call.now c.args.area c.requires.area c.args.content.now c.requires.first c.clock-clock.result c.in_ok-shown.shown c.len-before.result (transaction_of c.perform_call.new.transaction) (transaction_of c.relabel.new.transaction) c.in_ok-happened.happened c.in_ok-shown.ensures c.len-before.ensures c.in_ok-happened.ensures.exact (c.in_ok-relabel.ensures.exact ∙ ap (λ o. relabelled c.len-before.result (Released c.args.area o) (transaction_of c.perform_call.new.transaction)) c.in_ok-content.ensures)

pub returns-clause-alone : goal.returns-clause-alone
returns-clause-alone c = shown_alone c.args.replay.now c.args.locks.now c.args.transaction.now c.requires.goes c.perform_call.new.locks (transaction_of c.perform_call.new.transaction) (transaction_of c.relabel.new.transaction) c.len-before.result (Released c.args.area c.args.content.now) c.in_ok-happened.ensures.holders (c.in_ok-relabel.ensures.exact ∙ ap (λ o. relabelled c.len-before.result (Released c.args.area o) (transaction_of c.perform_call.new.transaction)) c.in_ok-content.ensures)
