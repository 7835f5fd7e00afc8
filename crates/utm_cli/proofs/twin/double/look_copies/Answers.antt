use Rattle.std.proofs.Common.{Ok, ap, subst, ◌∙◌}
use Rattle.kdcs_types.specs.Tables.{TableRows}
use Rattle.device_acts.specs.ErrorsLaws.{no_error}
use Rattle.call_parts.specs.Asking.{looking_errand, looking_word}
use Rattle.call_parts.specs.Opening.{OpensTwo}
use Rattle.utm_cli.specs.Parts.{LooksBytes, looked_by}
use Rattle.utm_cli.proofs.twin.ByWord.{lists, looking_attaches, looking_may, looking_refuses, looking_starts, looking_told}
use Rattle.utm_cli.proofs.twin.Does.{attached_before, looked_at, memory_does, opened_once, said_does, unlooked_does, unsaid_does}
use Rattle.utm_cli.proofs.twin.double.look_copies.Goals as goal

pub returns-in_err-tables : goal.returns-in_err-tables
returns-in_err-tables g c =
    unlooked_does (looking_errand c.args.work c.args.looking) c.args.base.now _ _ _ _ (looked_at g.T.Twin.both g.T.Twin.leaves g.met.T.Twin.sent_now g.met.T.Twin.earlier (looking_word c.args.looking) c.args.base.now c.args.twin.now c.look_at_copies.new.twin c.look_at_copies.ensures.frame (λ told. looking_may (looking_errand c.args.work c.args.looking) c.args.base.now _ _ c.args.looking (c.look_at_copies.ensures.names told)) c.look_at_copies.ensures.still)
    _ c.in_err-tables.field-0.0 c.from_residual.result c.from_residual.ensures.1 c.in_err-tables.ensures.refused c.in_err-tables.ensures.other c.in_err-tables.ensures.spent c.in_err-tables.ensures.failed c.in_err-tables.ensures.went
    (λ why refuses. looking_refuses (looking_errand c.args.work c.args.looking) c.args.base.now (g.T.Twin.both c.args.twin.now) (g.T.Twin.both c.args.twin.now) c.args.looking why refuses) (looking_told c.args.looking _)

pub returns-in_err-lines : goal.returns-in_err-lines
returns-in_err-lines g c =
    memory_does (looking_errand c.args.work c.args.looking) c.args.base.now _ _ _ _ (looked_at g.T.Twin.both g.T.Twin.leaves g.met.T.Twin.sent_now g.met.T.Twin.earlier (looking_word c.args.looking) c.args.base.now c.args.twin.now c.look_at_copies.new.twin c.look_at_copies.ensures.frame (λ told. looking_may (looking_errand c.args.work c.args.looking) c.args.base.now _ _ c.args.looking (c.look_at_copies.ensures.names told)) c.look_at_copies.ensures.still)
    c.from_residual-in_err-lines.result c.from_residual-in_err-lines.ensures.1 (c.in_ok-tables.ensures.went (no_error _ _))

pub returns-in_err-say_both : goal.returns-in_err-say_both
returns-in_err-say_both g c =
    let a = g.T.Twin.both c.args.twin.now in
    unsaid_does (looking_errand c.args.work c.args.looking) c.args.base.now _ _ _ _ (looked_at g.T.Twin.both g.T.Twin.leaves g.met.T.Twin.sent_now g.met.T.Twin.earlier (looking_word c.args.looking) c.args.base.now c.args.twin.now c.look_at_copies.new.twin c.look_at_copies.ensures.frame (λ told. looking_may (looking_errand c.args.work c.args.looking) c.args.base.now _ _ c.args.looking (c.look_at_copies.ensures.names told)) c.look_at_copies.ensures.still)
    _ _ (OpensTwo (looking_errand c.args.work c.args.looking)) (looked_by c.args.looking (looking_errand c.args.work c.args.looking)) (lists c.args.work c.args.looking _) c.in_ok-tables.tables (λ tells. c.in_ok-tables.ensures.starts (looking_told c.args.looking _ tells)) (λ told u opens. ap (looked_by c.args.looking (looking_errand c.args.work c.args.looking)) (opened_once (looking_errand c.args.work c.args.looking) a c.in_ok-tables.tables u (c.in_ok-tables.ensures.starts told) opens)) c.as_slice.result.now
    (c.as_slice.ensures ∙ c.in_ok-lines.ensures.lines) (record { disks = c.say_both.ensures.disks; frame = c.say_both.ensures.frame; front = c.say_both.ensures.any_moment }) (c.in_ok-tables.ensures.went (no_error _ _))
    _ c.in_err-say_both.field-0.0 c.from_residual-in_err-say_both.result c.from_residual-in_err-say_both.ensures.1 c.in_err-say_both.ensures.failed c.in_err-say_both.ensures.fine

pub returns : goal.returns
returns g c =
    let a = g.T.Twin.both c.args.twin.now in
    said_does (looking_errand c.args.work c.args.looking) c.args.base.now _ _ _ _ (looked_at g.T.Twin.both g.T.Twin.leaves g.met.T.Twin.sent_now g.met.T.Twin.earlier (looking_word c.args.looking) c.args.base.now c.args.twin.now c.look_at_copies.new.twin c.look_at_copies.ensures.frame (λ told. looking_may (looking_errand c.args.work c.args.looking) c.args.base.now _ _ c.args.looking (c.look_at_copies.ensures.names told)) c.look_at_copies.ensures.still)
    _ _ (OpensTwo (looking_errand c.args.work c.args.looking)) (looked_by c.args.looking (looking_errand c.args.work c.args.looking)) (lists c.args.work c.args.looking _) c.in_ok-tables.tables (λ tells. c.in_ok-tables.ensures.starts (looking_told c.args.looking _ tells)) (λ told u opens. ap (looked_by c.args.looking (looking_errand c.args.work c.args.looking)) (opened_once (looking_errand c.args.work c.args.looking) a c.in_ok-tables.tables u (c.in_ok-tables.ensures.starts told) opens)) c.as_slice.result.now
    (c.as_slice.ensures ∙ c.in_ok-lines.ensures.lines) (record { disks = c.say_both.ensures.disks; frame = c.say_both.ensures.frame; front = c.say_both.ensures.any_moment }) (c.in_ok-tables.ensures.went (no_error _ _))
    (Ok tt) c.in_ok-say_both.ensures.sent (λ is. absurd cc) (λ none. c.in_ok-say_both.ensures.fine (no_error _ _)) (λ q is. cc)
    (λ told. looking_attaches (looking_errand c.args.work c.args.looking) c.args.base.now _ _ c.args.looking (attached_before _ _ _ _ c.say_both.ensures.disks (c.in_ok-tables.ensures.named told)))
    (λ told u starts. subst (λ (v : TableRows). LooksBytes (looking_errand c.args.work c.args.looking) v) (opened_once (looking_errand c.args.work c.args.looking) a c.in_ok-tables.tables u (c.in_ok-tables.ensures.starts told) (looking_starts (looking_errand c.args.work c.args.looking) a u c.args.looking starts)) c.in_ok-lines.ensures.bytes)
