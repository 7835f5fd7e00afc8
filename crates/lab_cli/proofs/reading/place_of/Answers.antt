use Rattle.std.proofs.Common.{◌∙◌, inl, sym, subst}
use Rattle.std.specs.Prelude.{IsTrue}
use Rattle.lab_cli.specs.Places.{MissesText}
use Rattle.lab_cli.specs.Stops.{IsCauseAt, MissesAt, StopsAt}
use Rattle.lab_cli.proofs.Placing.{accepted, can_start, files_stop, place_is, same_twice, texts_stop}
use Rattle.lab_cli.proofs.Rooms.{handed, read_stops}
use Rattle.lab_cli.proofs.reading.place_of.Goals as goal

pub returns-in_err-texts-clause-stops : goal.returns-in_err-texts-clause-stops
returns-in_err-texts-clause-stops g c =
    let r = g.R.Room.room c.args.room.now in
    let l = g.R.Room.room c.texts_of.new.room in
    handed (StopsAt c.args.with_script c.args.base.now r l) c.from_residual.result _ c.from_residual.ensures.1
    (read_stops (IsCauseAt c.args.with_script c.args.base.now r.texts) (MissesAt c.args.with_script c.args.base.now r.texts) r l (MissesText c.args.with_script c.args.base.now r.texts) inl c.in_err-texts.field-0.0 c.in_err-texts.ensures.fails)

pub returns-in_err-asked-clause-stops : goal.returns-in_err-asked-clause-stops
returns-in_err-asked-clause-stops g c =
    let r = g.R.Room.room c.args.room.now in
    let l = g.R.Room.room c.texts_of.new.room in
    let t = c.in_ok-texts.texts in
    handed (StopsAt c.args.with_script c.args.base.now r l) c.from_residual-in_err-asked.result _ c.from_residual-in_err-asked.ensures.1
    (texts_stop c.args.with_script c.args.base.now r l c.in_ok-texts.ensures.fine t.definition.items t.units.items t.script.items c.in_ok-texts.ensures.read c.in_err-asked.field-0.0 c.in_err-asked.ensures.refused)

pub returns-in_err-tables-clause-stops : goal.returns-in_err-tables-clause-stops
returns-in_err-tables-clause-stops g c =
    let r = g.R.Room.room c.args.room.now in
    let l = g.R.Room.room c.texts_of.new.room in
    let n = g.R.Room.room c.tables_of.new.room in
    let t = c.in_ok-texts.texts in
    let a = c.in_ok-asked.asked in
    handed (StopsAt c.args.with_script c.args.base.now r n) c.from_residual-in_err-tables.result _ c.from_residual-in_err-tables.ensures.1
    (files_stop c.args.with_script c.args.base.now r l c.in_ok-texts.ensures.fine n c.texts_of.ensures.same a.application a.fingerprint
    (λ told. accepted c.args.with_script c.args.base.now r.texts t.definition.items t.units.items t.script.items (c.in_ok-texts.ensures.read told) a.application a.fingerprint a.units a.script.items a.commands.items c.in_ok-asked.ensures.asks) c.in_err-tables.field-0.0 c.in_err-tables.ensures.stops)

pub returns-in_err-tables-clause-same : goal.returns-in_err-tables-clause-same
returns-in_err-tables-clause-same g c = same_twice (g.R.Room.room c.args.room.now) (g.R.Room.room c.texts_of.new.room) (g.R.Room.room c.tables_of.new.room) c.texts_of.ensures.same c.tables_of.ensures.same

pub returns-clause-starts : goal.returns-clause-starts
returns-clause-starts g c =
    let t = c.in_ok-texts.texts in
    let a = c.in_ok-asked.asked in
    can_start t.definition.items t.units.items t.script.items _ a.fingerprint c.in_ok-asked.ensures.asks c.in_ok-asked.ensures.fit c.in_ok-asked.ensures.names c.in_ok-tables.ensures.suits

pub returns-clause-place : goal.returns-clause-place
returns-clause-place g c = λ told.
    let r = g.R.Room.room c.args.room.now in
    let l = g.R.Room.room c.texts_of.new.room in
    let t = c.in_ok-texts.texts in
    let a = c.in_ok-asked.asked in
    place_is c.args.with_script c.args.base.now r.texts t.definition.items t.units.items t.script.items (c.in_ok-texts.ensures.read told) l.texts c.texts_of.ensures.same.texts _ a.fingerprint c.in_ok-asked.ensures.asks
    (c.in_ok-tables.ensures.starts (subst IsTrue (sym c.texts_of.ensures.same.told) told))

pub returns-clause-fine : goal.returns-clause-fine
returns-clause-fine g c = c.in_ok-tables.ensures.fine ∙ c.in_ok-texts.ensures.fine

pub returns-clause-same : goal.returns-clause-same
returns-clause-same g c = same_twice (g.R.Room.room c.args.room.now) (g.R.Room.room c.texts_of.new.room) (g.R.Room.room c.tables_of.new.room) c.texts_of.ensures.same c.tables_of.ensures.same
