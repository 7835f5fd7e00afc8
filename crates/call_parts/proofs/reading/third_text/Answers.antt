use Rattle.std.proofs.Common.{◌≡◌, sym, subst}
use Rattle.std.proofs.lemmas.Result.{IfOk-weaker}
use Rattle.kd_device.specs.Room.{text_of}
use Rattle.call_parts.specs.declared.words.Word.{Word}
use Rattle.refusals.specs.Texts.{shown_of}
use Rattle.call_parts.specs.Asking.{ScriptIs}
use Rattle.call_parts.specs.Words.{script_name, trail_name}
use Rattle.call_parts.proofs.TextsSaid.{some_and, script_of}
use Rattle.call_parts.proofs.reading.third_text.Goals as goal

pub returns-in-Run-clause-value : goal.returns-in-Run-clause-value
returns-in-Run-clause-value g c =
    let room = g.R.Room.room c.args.room.now in
    IfOk-weaker c.text.result _ _ (λ v h told. let whole = some_and (text_of (script_name c.args.base.now) room.texts) (λ whole. v.items ≡ shown_of whole) (h told) in (whole.0, script_of c.args.word c.in-Run.is c.args.base.now room whole.0 whole.1, whole.2)) c.text.ensures.value

pub returns-in-Audit-clause-value : goal.returns-in-Audit-clause-value
returns-in-Audit-clause-value g c =
    let room = g.R.Room.room c.args.room.now in
    IfOk-weaker c.text-in-Audit.result _ _ (λ v h told. let whole = some_and (text_of (trail_name c.args.base.now) room.texts) (λ whole. v.items ≡ shown_of whole) (h told) in (whole.0, subst (λ (w : Word). ScriptIs w c.args.base.now room whole.0) (sym c.in-Audit.is) whole.1, whole.2)) c.text-in-Audit.ensures.value
