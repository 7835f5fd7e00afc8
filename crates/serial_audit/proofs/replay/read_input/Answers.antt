use Rattle.std.specs.Prelude.{length, slice_get}
use Rattle.std.proofs.Common.{sym, ap, ◌∙◌}
use Rattle.std.proofs.lemmas.Option.{slice_get_within}
use Rattle.abstract_monitor.specs.Calls.{or_empty}
use Rattle.abstract_monitor.specs.Endings.{followed_by_input}
use Rattle.laws_of_states.specs.Replay.{accepted}
use Rattle.open_transaction.specs.Transactions.{transaction_of}
use Rattle.serial_audit.specs.Replaying.{app_of, kept_in}
use Rattle.serial_audit.proofs.Places.{past_end}
use Rattle.serial_audit.proofs.replay.read_input.Goals as goal

pub returns-in_default-clause-read : goal.returns-in_default-clause-read
returns-in_default-clause-read c = past_end (accepted (kept_in c.args.replay.now)) (length c.args.transaction.now.inputs) (c.in_default.ensures ∙ ap (slice_get (accepted (kept_in c.args.replay.now))) c.len.ensures)

pub returns-clause-read : goal.returns-clause-read
returns-clause-read c =
    let found = c.in-Some.ensures ∙ ap (slice_get (accepted (kept_in c.args.replay.now))) c.len.ensures in (
      c.in_ok-follow.ensures.ok
          ∙ ap (followed_by_input (app_of c.args.replay.now).generation (transaction_of c.args.transaction.now) c.args.tac) (c.in_ok-clone.ensures.cases ∙ ap or_empty found),
      slice_get_within (accepted (kept_in c.args.replay.now)) (length c.args.transaction.now.inputs) c.in-Some.input.now (sym found),
    )
