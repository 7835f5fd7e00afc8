use Rattle.std.specs.Prelude.{is_some}
use Rattle.std.proofs.Common.{ap, sym, ◌∙◌, true≢false}
use Rattle.open_transaction.specs.Transactions.{transaction_of}
use Rattle.laws_of_runs.specs.Applied.{applied}
use Rattle.laws_of_runs.specs.AppliedLaws.{unit_found}
use Rattle.laws_of_states.specs.ReadyLaws.{opens_have_units}
use Rattle.kdcs_calls.proofs.service_statement.Stated.{ended_holds}
use Rattle.kdcs_calls.proofs.service_statement.statement.do_statement.Goals as goal

pub unreachable-requires : goal.unreachable-requires
unreachable-requires c =
    let g = c.args.generation.now in
    let units = c.args.units.now in
    true≢false (sym (opens_have_units (applied g units) c.args.transaction.now.id (transaction_of c.args.transaction.now) c.requires.application c.requires.can)
    ∙ ap is_some (sym (c.in_default.ensures ∙ unit_found g units c.args.transaction.now.current c.requires.fit)))

pub returns-clause-holds : goal.returns-clause-holds
returns-clause-holds c =
    ended_holds c.args.locks.now c.next_statement.new.locks c.end_wait.new.locks c.args.transaction.now.id c.next_statement.new.transaction.id (transaction_of c.next_statement.new.transaction) c.in_ok-happened.happened c.next_statement.ensures.id
    c.in_ok-happened.ensures.holders c.end_wait.ensures
