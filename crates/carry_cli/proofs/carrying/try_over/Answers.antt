use Rattle.std.proofs.Common.{ap, subst, Err}
use Rattle.device_acts.specs.ErrorsLaws.{no_error}
use Rattle.call_parts.specs.Asking.{update_errand}
use Rattle.kdcfile_carry.specs.Promise.{WouldBe}
use Rattle.kdcfile_carry.specs.declared.error.FilesError.{FilesError}
use Rattle.kdcfile_carry.specs.declared.outcome.Would.{Would}
use Rattle.carry_cli.specs.Carrying.{generation_of}
use Rattle.carry_cli.specs.Doing.{hindered_by}
use Rattle.carry_cli.specs.declared.answer.Answer.TheVariants as answer
use Rattle.carry_cli.proofs.Carried.{hindered_now, if_ok, would_now}
use Rattle.carry_cli.proofs.carrying.try_over.Goals as goal

pub returns-in-Ok-Carries-clause-is_now : goal.returns-in-Ok-Carries-clause-is_now
returns-in-Ok-Carries-clause-is_now g c = λ told none.
    let e = update_errand c.args.work.now in
    let found = c.in-Ok-Carries.ensures.done told in
    let would = subst (λ (w : Would). WouldBe (generation_of e) e.fingerprint found.0 w) c.in-Ok-Carries.field-0-is found.2 in
    let quiet = c.in-Ok-Carries.ensures.fine (no_error _ _) in
    would_now e c.args.options found.0 (g.T.Twin.both c.args.twin.now) (g.T.Twin.both c.would_carry.new.twin) (g.T.Twin.leaves c.args.twin.now) (g.T.Twin.leaves c.would_carry.new.twin) c.in-Ok-Carries.rows.items would.2
    (answer.WouldCarry c.in-Ok-Carries.gone c.in-Ok-Carries.rows) (answer.WouldDrop c.in-Ok-Carries.rows) c.would_be.result c.would_be.ensures.carries c.would_be.ensures.drops
    (λ loses. (found.0, record { are = found.1; none_missing = none; may = (c.requires, would.0, would.1, would.2, loses) }, c.would_carry.ensures.rests told, quiet))
    (λ no some. (found.0, record { are = found.1; none_missing = none; may = (no, would.0, would.2, some) }, c.would_carry.ensures.rests told, quiet))

pub returns-in-Err-clause-is_now : goal.returns-in-Err-clause-is_now
returns-in-Err-clause-is_now g c =
    let e = update_errand c.args.work.now in
    if_ok c.hindered_by.result (hindered_by c.in-Err.why) _ c.hindered_by.ensures
    (λ x is told none. hindered_now e c.args.options (g.T.Twin.both c.args.twin.now) (g.T.Twin.both c.would_carry.new.twin) (g.T.Twin.leaves c.args.twin.now) (g.T.Twin.leaves c.would_carry.new.twin) none (λ untaken. c.would_carry.ensures.rests told) c.in-Err.why x is
    (λ w same. c.in-Err.ensures.refused w (ap (λ (k : FilesError). Err k) same) told) (λ same. c.in-Err.ensures.two (ap (λ (k : FilesError). Err k) same) told) (λ n same. c.in-Err.ensures.spent n (ap (λ (k : FilesError). Err k) same) told))
