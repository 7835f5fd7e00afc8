use Rattle.std.proofs.Common.{sym, ◌∙◌}
use Rattle.open_transaction.specs.Transactions.{transaction_of}
use Rattle.sync_points.specs.MadeLaws.{ends_change}
use Rattle.sync_points.proofs.ends.broken.Goals as goal

pub returns-clause-changes : goal.returns-clause-changes
returns-clause-changes c =
    c.in_ok-changes.ensures.changes
    ∙ rw c.deref.ensures (sym (ends_change c.args.generation.now c.args.tables.now c.args.transaction.value.id (transaction_of c.args.transaction.value) c.in_ok-changes.ensures.sorted))
