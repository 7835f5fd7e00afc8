use Rattle.std.proofs.Common.{Err, Ok, ap, refl, ◌∙◌}
use Rattle.device_acts.specs.ErrorsLaws.{no_error}
use Rattle.call_parts.specs.Asking.{audit_errand}
use Rattle.utm_cli.specs.Doing.{HoldsAll, held_line, own}
use Rattle.call_parts.specs.declared.error.CallError.{CallError}
use Rattle.call_parts.specs.declared.words.Word.TheVariants.{Audit}
use Rattle.call_ends.specs.SaidLaws.{none_failed}
use Rattle.utm_cli.proofs.twin.ByWord.{judges}
use Rattle.utm_cli.proofs.twin.Does.{not_looked_at, said_does, stays_does, unsaid_does}
use Rattle.utm_cli.proofs.twin.double.audit_copies.Goals as goal

pub returns-in_err-line : goal.returns-in_err-line
returns-in_err-line g c = λ base.
    stays_does (audit_errand c.args.work.now c.args.trail) base _ _ _ _ (not_looked_at g.T.Twin.both g.T.Twin.leaves g.met.T.Twin.sent_now g.met.T.Twin.earlier Audit base c.args.twin.now) c.from_residual.result c.in_err-line.field-0.0 c.from_residual.ensures.1
    (λ q is tells. c.in_err-line.ensures.refused q (ap (λ (e : CallError). Err e) is)) (λ is. absurd (c.in_err-line.ensures.fine (ap (λ (e : CallError). Err e) is))) (λ none. none_failed (g.T.Twin.both c.args.twin.now))

pub returns-in_err-say_both : goal.returns-in_err-say_both
returns-in_err-say_both g c = λ base.
    let e = audit_errand c.args.work.now c.args.trail in
    let h = c.in_ok-line.ensures.line in
    unsaid_does e base _ _ _ _ (not_looked_at g.T.Twin.both g.T.Twin.leaves g.met.T.Twin.sent_now g.met.T.Twin.earlier Audit base c.args.twin.now)
    _ _ (λ a t. HoldsAll e (own e t)) (λ t. held_line e) (judges c.args.work.now c.args.trail _) h.0 (λ tells. h.1) (λ told u holds. refl) c.as_bytes.result.now
    (c.as_bytes.ensures.value ∙ h.2) (record { disks = c.say_both.ensures.disks; frame = c.say_both.ensures.frame; front = c.say_both.ensures.any_moment }) (none_failed (g.T.Twin.both c.args.twin.now)) _ c.in_err-say_both.field-0.0 c.from_residual-in_err-say_both.result c.from_residual-in_err-say_both.ensures.1 c.in_err-say_both.ensures.failed c.in_err-say_both.ensures.fine

pub returns : goal.returns
returns g c = λ base.
    let e = audit_errand c.args.work.now c.args.trail in
    let h = c.in_ok-line.ensures.line in
    said_does e base _ _ _ _ (not_looked_at g.T.Twin.both g.T.Twin.leaves g.met.T.Twin.sent_now g.met.T.Twin.earlier Audit base c.args.twin.now)
    _ _ (λ a t. HoldsAll e (own e t)) (λ t. held_line e) (judges c.args.work.now c.args.trail _) h.0 (λ tells. h.1) (λ told u holds. refl) c.as_bytes.result.now
    (c.as_bytes.ensures.value ∙ h.2) (record { disks = c.say_both.ensures.disks; frame = c.say_both.ensures.frame; front = c.say_both.ensures.any_moment }) (none_failed (g.T.Twin.both c.args.twin.now)) (Ok tt) c.in_ok-say_both.ensures.sent (λ is. absurd cc) (λ none. c.in_ok-say_both.ensures.fine (no_error _ _)) (λ q is. cc)
    (λ told half. ap (λ x. x.names) (c.say_both.ensures.disks half)) (λ told u starts is. absurd cc)
