use Rattle.std.proofs.Common.{None}
use Rattle.lab_cli.specs.Places.{MissesFile}
use Rattle.lab_cli.specs.Stops.{IsCauseOver, StopsOver}
use Rattle.lab_cli.proofs.Filing.{on_ok, one_starts, one_stops}
use Rattle.lab_cli.proofs.Rooms.{handed, read_stops}
use Rattle.lab_cli.proofs.files.tables_of_one.Goals as goal

pub returns-in_err-file-clause-stops : goal.returns-in_err-file-clause-stops
returns-in_err-file-clause-stops g c =
    let r = g.R.Room.room c.args.room.now in
    let l = g.R.Room.room c.file_of.new.room in
    handed (StopsOver None c.args.generation.now c.args.fingerprint.now c.args.base.now r l) c.from_residual.result _ c.from_residual.ensures.1
    (read_stops (IsCauseOver None c.args.generation.now c.args.fingerprint.now c.args.base.now r.texts) (MissesFile None c.args.base.now r.texts) r l _ (λ m. m) c.in_err-file.field-0.0 c.in_err-file.ensures.fails)

pub returns-clause-starts : goal.returns-clause-starts
returns-clause-starts g c =
    one_starts c.args.generation.now c.args.fingerprint.now c.args.base.now (g.R.Room.room c.args.room.now) (g.R.Room.room c.file_of.new.room) c.in_ok-file.ensures.fine c.in_ok-file.file c.in_ok-file.ensures.read c.tables_of_file.result c.tables_of_file.ensures.starts

pub returns-clause-fine : goal.returns-clause-fine
returns-clause-fine g c = on_ok c.tables_of_file.result _ c.in_ok-file.ensures.fine

pub returns-clause-stops : goal.returns-clause-stops
returns-clause-stops g c =
    one_stops c.args.generation.now c.args.fingerprint.now c.args.base.now (g.R.Room.room c.args.room.now) (g.R.Room.room c.file_of.new.room) c.in_ok-file.ensures.fine c.in_ok-file.file c.in_ok-file.ensures.read c.tables_of_file.result c.tables_of_file.ensures.stops
