use Rattle.std.specs.Prelude.{Some}
use Rattle.std.proofs.Common.{sym, ap, ◌∙◌}
use Rattle.std.proofs.lemmas.Result.{IfOk-weaker, on_ok_weaker}
use Rattle.open_transaction.specs.Transactions.{transaction_of}
use Rattle.kdcs_calls.specs.StatingLaws.{contents_fit}
use Rattle.serial_audit.specs.Replaying.{app_of, kept_in, tables_in}
use Rattle.serial_audit.proofs.Doing.{call_alone, just, none_done, plain_done}
use Rattle.serial_audit.proofs.Unused.{refused_first, released_first}
use Rattle.serial_audit.proofs.statement.do_call.Goals as goal

pub perform_call-requires-clause-contents : goal.perform_call-requires-clause-contents
perform_call-requires-clause-contents c = contents_fit (app_of c.args.replay.now).generation (tables_in c.args.replay.now) c.args.transaction.now.id c.requires.auditable.sound

pub perform_call-requires-clause-holds : goal.perform_call-requires-clause-holds
perform_call-requires-clause-holds c = just c.args.replay.now c.args.locks.now c.args.transaction.now c.requires.goes

pub returns-in_default-clause-exact : goal.returns-in_default-clause-exact
returns-in_default-clause-exact c = IfOk-weaker c.perform_call.result _ _ (λ h e. e ∙ none_done c.args.replay.now c.args.locks.now c.args.transaction.now c.requires.goes c.args.unit.now c.args.call.now (sym c.area_of_call.ensures ∙ c.in_default.is)) c.perform_call.ensures.exact

pub returns-in_default-clause-alone : goal.returns-in_default-clause-alone
returns-in_default-clause-alone c = on_ok_weaker c.perform_call.result (λ h. call_alone c.args.replay.now c.args.locks.now c.args.transaction.now c.requires.goes c.perform_call.new.locks (transaction_of c.perform_call.new.transaction) h) c.perform_call.ensures.holders

pub perform_call-requires-in-None-clause-contents : goal.perform_call-requires-in-None-clause-contents
perform_call-requires-in-None-clause-contents c = contents_fit (app_of c.args.replay.now).generation (tables_in c.args.replay.now) c.args.transaction.now.id c.requires.auditable.sound

pub perform_call-requires-in-None-clause-holds : goal.perform_call-requires-in-None-clause-holds
perform_call-requires-in-None-clause-holds c = just c.args.replay.now c.args.locks.now c.args.transaction.now c.requires.goes

pub do_refused-requires-clause-first : goal.do_refused-requires-clause-first
do_refused-requires-clause-first c = refused_first (kept_in c.args.replay.now) (transaction_of c.args.transaction.now) c.in-Some.area c.in-Some-Refused.field-0-0 c.in-Some-Refused.code (sym c.in-Some-Refused.ensures ∙ ap (λ n. Some n) c.in-Some-Refused.field-0-is)

pub do_shown-requires-clause-first : goal.do_shown-requires-clause-first
do_shown-requires-clause-first c = released_first (kept_in c.args.replay.now) (transaction_of c.args.transaction.now) c.in-Some.area c.in-Some-Released.field-0-0 c.in-Some-Released.content (sym c.in-Some-Released.ensures ∙ ap (λ n. Some n) c.in-Some-Released.field-0-is)

pub returns-in-None-clause-exact : goal.returns-in-None-clause-exact
returns-in-None-clause-exact c = IfOk-weaker c.perform_call-in-None.result _ _ (λ h e. e ∙ plain_done c.args.replay.now c.args.locks.now c.args.transaction.now c.requires.goes c.args.unit.now c.args.call.now c.in-Some.area (sym c.area_of_call.ensures ∙ c.in-Some.is) (sym c.in-None.ensures)) c.perform_call-in-None.ensures.exact

pub returns-in-None-clause-alone : goal.returns-in-None-clause-alone
returns-in-None-clause-alone c = on_ok_weaker c.perform_call-in-None.result (λ h. call_alone c.args.replay.now c.args.locks.now c.args.transaction.now c.requires.goes c.perform_call-in-None.new.locks (transaction_of c.perform_call-in-None.new.transaction) h) c.perform_call-in-None.ensures.holders
