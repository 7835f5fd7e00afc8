use Rattle.device_acts.specs.ErrorsLaws.{no_error}
use Rattle.call_parts.specs.Asking.{storing_errand}
use Rattle.utm_cli.proofs.twin.ByWord.{storing_keeps_two}
use Rattle.utm_cli.proofs.twin.Does.{kept_does, unopened_as}
use Rattle.utm_cli.proofs.twin.double.keep_copies.Goals as goal

pub returns-in_err-store : goal.returns-in_err-store
returns-in_err-store g c =
    unopened_as (storing_errand c.args.work c.args.storing) (storing_keeps_two c.args.storing) c.args.base.now (g.T.Twin.both c.args.twin.now) (g.T.Twin.both c.open_copies.new.twin) (g.T.Twin.leaves c.args.twin.now) (g.T.Twin.leaves c.open_copies.new.twin) c.open_copies.ensures.frame c.open_copies.ensures.sent c.open_copies.ensures.any_moment _ c.in_err-store.field-0.0 c.from_residual.result c.from_residual.ensures.1
    c.in_err-store.ensures.refused c.in_err-store.ensures.other c.in_err-store.ensures.spent c.in_err-store.ensures.failed c.in_err-store.ensures.went c.open_copies.ensures.still c.open_copies.ensures.names

pub returns : goal.returns
returns g c =
    kept_does (storing_errand c.args.work c.args.storing) (storing_keeps_two c.args.storing) c.args.base.now (g.T.Twin.both c.args.twin.now) (g.T.Twin.both c.open_copies.new.twin) (g.T.Twin.leaves c.args.twin.now) (g.T.Twin.leaves c.open_copies.new.twin) c.open_copies.ensures.frame c.open_copies.ensures.sent c.open_copies.ensures.any_moment c.in_ok-store.store c.in_ok-store.tables c.in_ok-store.ensures.is_open
    c.in_ok-store.ensures.starts c.in_ok-store.ensures.used (c.in_ok-store.ensures.went (no_error _ _)) c.in_ok-store.ensures.fine c.in_ok-store.ensures.lost c.in_ok-store.ensures.mended c.in_ok-store.ensures.mended_all c.in_ok-store.ensures.named (g.T.Twin.both c.run_copies.new.twin) (g.T.Twin.leaves c.run_copies.new.twin)
    c.run_copies.result c.run_copies.ensures.any c.run_copies.ensures.done c.run_copies.ensures.failed c.run_copies.ensures.fine c.run_copies.ensures.refused
