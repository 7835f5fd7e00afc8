use Rattle.std.proofs.Common.{refl}
use Rattle.kd_device.specs.Sure.{sure_state}
use Rattle.utm_cli.proofs.MadeReadAgain.{never_rose, no_image, only_memory, are_read, same_tables}
use Rattle.utm_cli.proofs.made_run.stored.stored_tables.Goals as goal

pub want_of_memory-requires : goal.want_of_memory-requires
want_of_memory-requires c =
    only_memory c.load.result c.in-Err.error c.in-Err.is (λ is. no_image (sure_state c.args.device.now).holds c.requires.stands (c.load.ensures.none is refl)) (λ is. never_rose (c.load.ensures.failed is))

pub unreachable-requires : goal.unreachable-requires
unreachable-requires c =
    let stands = c.requires.stands in
    c.in_ok-tables.ensures.none c.in_default.is stands.1 stands.2.tables.proper
    (are_read c.in-Ok.store (sure_state c.args.device.now).holds (c.in-Ok.ensures.stands refl) c.kept.result.now c.kept.ensures stands.0 stands.1 stands.2)

pub returns-clause-tables : goal.returns-clause-tables
returns-clause-tables c = λ i t stands.
    same_tables c.in-Ok.store (sure_state c.args.device.now).holds (c.in-Ok.ensures.stands refl) c.kept.result.now c.kept.ensures i t stands c.in-Some.tables
    (rw c.in-Some.is at c.in_ok-tables.ensures.found) (rw c.in-Some.is at c.in_ok-tables.ensures.proper)
