use Rattle.std.proofs.Common.{refl, sym, ◌∙◌}
use Rattle.lab_orders.proofs.Commands.{did_restart}
use Rattle.lab_orders.proofs.step.restart.Goals as goal

pub returns-clause-done : goal.returns-clause-done
returns-clause-done c =
    did_restart c.args.core c.in_ok-next.next c.args.path.now _ _ c.requires.beside (c.in_ok-next.ensures.application ∙ sym c.into_application-generation.ensures.application) c.in_ok-next.ensures.state c.in_ok-next.ensures.facts c.in_ok-next.ensures.replays
    refl c.in_ok-append.ensures.ok refl refl c.seen-path.ensures.k04 c.seen-path.ensures.k05 c.seen-path.ensures.dump c.is_serial-path.ensures
