use Rattle.std.proofs.Common.{◌∙◌}
use Rattle.device_acts.specs.ErrorsLaws.{no_error}
use Rattle.call_parts.specs.Asking.{gen_errand}
use Rattle.live_cli.proofs.Begun.{durable_begun}
use Rattle.live_cli.proofs.Opened.{later}
use Rattle.live_cli.proofs.OpenedTwo.{now_two, typed_out, typed_until, unopened}
use Rattle.live_cli.proofs.double.over_copies.Goals as goal

pub returns-in_err-store : goal.returns-in_err-store
returns-in_err-store g c =
    unopened (gen_errand c.args.work) c.args.base.now c.args.alone (g.I.Typing.typing c.args.typing.now) (g.T.Twin.both c.args.twin.now) (g.T.Twin.both c.open_unless_missing.new.twin) (g.T.Twin.leaves c.args.twin.now) (g.T.Twin.leaves c.open_unless_missing.new.twin) c.open_unless_missing.ensures.frame c.open_unless_missing.ensures.sent c.open_unless_missing.ensures.any_moment _ c.in_err-store.field-0.0 c.from_residual.result c.from_residual.ensures.1 c.in_err-store.ensures.missing c.in_err-store.ensures.refused c.in_err-store.ensures.other c.in_err-store.ensures.spent c.in_err-store.ensures.failed c.in_err-store.ensures.went c.open_unless_missing.ensures.still c.open_unless_missing.ensures.names
    (λ told. now_two (g.T.Twin.both c.args.twin.now) (g.T.Twin.both c.open_unless_missing.new.twin) (g.T.Twin.leaves c.open_unless_missing.new.twin) (g.met.T.Twin.earlier c.open_unless_missing.new.twin) (λ here. g.met.T.Twin.holds_now c.open_unless_missing.new.twin here) c.open_unless_missing.ensures.frame.told c.open_unless_missing.ensures.frame.moment told)

pub returns-in_err-live_copies : goal.returns-in_err-live_copies
returns-in_err-live_copies g c =
    typed_until (gen_errand c.args.work) c.args.base.now c.args.alone (g.I.Typing.typing c.args.typing.now) (g.T.Twin.both c.args.twin.now) (g.T.Twin.both c.open_unless_missing.new.twin) (g.T.Twin.leaves c.args.twin.now) (g.T.Twin.leaves c.open_unless_missing.new.twin) c.open_unless_missing.ensures.frame c.open_unless_missing.ensures.sent c.open_unless_missing.ensures.any_moment c.in_ok-store.store c.in_ok-store.tables c.in_ok-store.ensures.is_open c.in_ok-store.ensures.suits c.in_ok-store.ensures.may c.in_ok-store.ensures.starts c.in_ok-store.ensures.used (c.in_ok-store.ensures.went (no_error _ _)) c.in_ok-store.ensures.fine c.in_ok-store.ensures.lost c.in_ok-store.ensures.mended c.in_ok-store.ensures.mended_all c.in_ok-store.ensures.named (g.T.Twin.both c.live_copies.new.twin) (g.T.Twin.leaves c.live_copies.new.twin) (g.I.Typing.typing c.live_copies.new.typing) c.live_copies.ensures.typing c.live_copies.ensures.frame (durable_begun (gen_errand c.args.work) c.in_ok-store.tables c.in_ok-store.ensures.suits)
    (λ told. now_two (g.T.Twin.both c.args.twin.now) (g.T.Twin.both c.live_copies.new.twin) (g.T.Twin.leaves c.live_copies.new.twin) (g.met.T.Twin.earlier c.live_copies.new.twin) (λ here. g.met.T.Twin.holds_now c.live_copies.new.twin here) (c.live_copies.ensures.frame.told ∙ c.open_unless_missing.ensures.frame.told) (later c.open_unless_missing.ensures.frame.moment c.live_copies.ensures.frame.moment) told)
    Unit c.in_err-live_copies.field-0.0 c.from_residual-in_err-live_copies.result c.from_residual-in_err-live_copies.ensures.1 c.in_err-live_copies.ensures.lived c.in_err-live_copies.ensures.failed c.in_err-live_copies.ensures.fine c.in_err-live_copies.ensures.input c.in_err-live_copies.ensures.heard c.in_err-live_copies.ensures.refused c.in_err-live_copies.ensures.other

pub returns : goal.returns
returns g c =
    typed_out (gen_errand c.args.work) c.args.base.now c.args.alone (g.I.Typing.typing c.args.typing.now) (g.T.Twin.both c.args.twin.now) (g.T.Twin.both c.open_unless_missing.new.twin) (g.T.Twin.leaves c.args.twin.now) (g.T.Twin.leaves c.open_unless_missing.new.twin) c.open_unless_missing.ensures.frame c.open_unless_missing.ensures.sent c.open_unless_missing.ensures.any_moment c.in_ok-store.store c.in_ok-store.tables c.in_ok-store.ensures.is_open c.in_ok-store.ensures.suits c.in_ok-store.ensures.may c.in_ok-store.ensures.starts c.in_ok-store.ensures.used (c.in_ok-store.ensures.went (no_error _ _)) c.in_ok-store.ensures.fine c.in_ok-store.ensures.lost c.in_ok-store.ensures.mended c.in_ok-store.ensures.mended_all c.in_ok-store.ensures.named (g.T.Twin.both c.live_copies.new.twin) (g.T.Twin.leaves c.live_copies.new.twin) (g.I.Typing.typing c.live_copies.new.typing) c.live_copies.ensures.typing c.live_copies.ensures.frame (durable_begun (gen_errand c.args.work) c.in_ok-store.tables c.in_ok-store.ensures.suits)
    (λ told. now_two (g.T.Twin.both c.args.twin.now) (g.T.Twin.both c.live_copies.new.twin) (g.T.Twin.leaves c.live_copies.new.twin) (g.met.T.Twin.earlier c.live_copies.new.twin) (λ here. g.met.T.Twin.holds_now c.live_copies.new.twin here) (c.live_copies.ensures.frame.told ∙ c.open_unless_missing.ensures.frame.told) (later c.open_unless_missing.ensures.frame.moment c.live_copies.ensures.frame.moment) told)
    c.in_ok-live_copies.ensures.lived (c.in_ok-live_copies.ensures.fine (λ is. absurd cc)) (c.in_ok-live_copies.ensures.heard (λ is. absurd cc))
