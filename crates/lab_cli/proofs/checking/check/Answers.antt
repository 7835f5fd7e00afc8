use Rattle.lab_cli.proofs.Checks.{check_broken, check_memory, check_unread, checked_code, lent_checked, without_script}
use Rattle.lab_cli.proofs.checking.check.Goals as goal

pub returns-in_err-texts-clause-came : goal.returns-in_err-texts-clause-came
returns-in_err-texts-clause-came g c =
    check_unread c.args.base.now (g.R.Room.room c.args.room.now) (g.R.Room.room c.texts_of.new.room) c.args.console.now c.in_err-texts.field-0.0 c.in_err-texts.ensures.fails c.from_residual.result c.from_residual.ensures.1

pub returns-in_err-script-clause-came : goal.returns-in_err-script-clause-came
returns-in_err-script-clause-came g c =
    check_memory c.args.base.now (g.R.Room.room c.args.room.now) (g.R.Room.room c.script_of.new.room) c.args.console.now c.args.console.now c.from_residual-in_err-script.result c.from_residual-in_err-script.ensures.1

pub returns-in_err-check_texts-clause-came : goal.returns-in_err-check_texts-clause-came
returns-in_err-check_texts-clause-came g c =
    check_broken c.args.base.now (g.R.Room.room c.args.room.now) (g.R.Room.room c.script_of.new.room) c.args.console.now c.check_texts.new.console c.in_err-check_texts.field-0.0 c.from_residual-in_err-check_texts.result c.from_residual-in_err-check_texts.ensures.1

pub returns-clause-came : goal.returns-clause-came
returns-clause-came g c =
    let r = g.R.Room.room c.args.room.now in
    let t = c.in_ok-texts.texts in
    let checked = lent_checked t.definition.items c.deref.result.now t.units.items c.deref-2.result.now _ c.deref.ensures.value c.deref-2.ensures.value c.in_ok-check_texts.ensures in
    (checked_code t.definition.items t.units.items _ checked, λ told. (t.definition.items, t.units.items, without_script c.args.base.now r.texts t.definition.items t.units.items t.script.items (c.in_ok-texts.ensures.read told), checked))
