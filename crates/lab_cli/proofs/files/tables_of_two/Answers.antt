use Rattle.std.proofs.Common.{◌++◌, ◌∙◌, List, ℕ, Some, inl, inr, subst}
use Rattle.std.specs.Prelude.{codes}
use Rattle.lab_cli.specs.Places.{IsFileRead, IsMissing, MissesFile}
use Rattle.lab_cli.specs.Stops.{IsCauseOver, StopsOver}
use Rattle.lab_cli.proofs.Filing.{on_ok, two_starts, two_stops}
use Rattle.lab_cli.proofs.Rooms.{fails_later, fine_later, handed, read_stops, told_later}
use Rattle.lab_cli.proofs.files.tables_of_two.Goals as goal

pub returns-in_err-first-clause-stops : goal.returns-in_err-first-clause-stops
returns-in_err-first-clause-stops g c = λ line.
    let r = g.R.Room.room c.args.room.now in
    let l = g.R.Room.room c.file_of.new.room in
    handed (StopsOver (Some line) c.args.generation.now c.args.fingerprint.now c.args.base.now r l) c.from_residual.result _ c.from_residual.ensures.1
    (read_stops (IsCauseOver (Some line) c.args.generation.now c.args.fingerprint.now c.args.base.now r.texts) (MissesFile (Some line) c.args.base.now r.texts) r l (IsMissing r.texts (c.args.base.now ++ codes ".KDCA")) inl c.in_err-first.field-0.0 c.in_err-first.ensures.fails)

pub returns-in_err-second-clause-stops : goal.returns-in_err-second-clause-stops
returns-in_err-second-clause-stops g c = λ line.
    let r = g.R.Room.room c.args.room.now in
    let k = g.R.Room.room c.file_of.new.room in
    let l = g.R.Room.room c.file_of-2.new.room in
    handed (StopsOver (Some line) c.args.generation.now c.args.fingerprint.now c.args.base.now r l) c.from_residual-in_err-second.result _ c.from_residual-in_err-second.ensures.1
    (read_stops (IsCauseOver (Some line) c.args.generation.now c.args.fingerprint.now c.args.base.now r.texts) (MissesFile (Some line) c.args.base.now r.texts) r l (IsMissing r.texts (c.args.base.now ++ codes ".KDCB")) inr c.in_err-second.field-0.0
    (fails_later r k l c.in_ok-first.ensures.fine c.file_of.ensures.same (IsMissing k.texts (c.args.base.now ++ codes ".KDCB")) (IsMissing r.texts (c.args.base.now ++ codes ".KDCB")) (λ m. subst (λ (t : List (List ℕ × List ℕ)). IsMissing t (c.args.base.now ++ codes ".KDCB")) c.file_of.ensures.same.texts m) c.in_err-second.field-0.0 c.in_err-second.ensures.fails))

pub returns-clause-starts : goal.returns-clause-starts
returns-clause-starts g c = λ line.
    let r = g.R.Room.room c.args.room.now in
    let k = g.R.Room.room c.file_of.new.room in
    let l = g.R.Room.room c.file_of-2.new.room in
    two_starts c.args.generation.now c.args.fingerprint.now c.args.base.now r l (fine_later r k l c.in_ok-first.ensures.fine c.file_of.ensures.same c.in_ok-second.ensures.fine) c.in_ok-first.first c.in_ok-second.second c.in_ok-first.ensures.read
    (λ told. subst (λ (t : List (List ℕ × List ℕ)). IsFileRead t (c.args.base.now ++ codes ".KDCB") c.in_ok-second.second) c.file_of.ensures.same.texts (c.in_ok-second.ensures.read (told_later r k l c.in_ok-first.ensures.fine c.file_of.ensures.same told))) line c.tables_of_files.result c.tables_of_files.ensures.starts

pub returns-clause-fine : goal.returns-clause-fine
returns-clause-fine g c = on_ok c.tables_of_files.result _ (c.in_ok-second.ensures.fine ∙ c.in_ok-first.ensures.fine)

pub returns-clause-stops : goal.returns-clause-stops
returns-clause-stops g c = λ line.
    let r = g.R.Room.room c.args.room.now in
    let k = g.R.Room.room c.file_of.new.room in
    let l = g.R.Room.room c.file_of-2.new.room in
    two_stops c.args.generation.now c.args.fingerprint.now c.args.base.now r l (fine_later r k l c.in_ok-first.ensures.fine c.file_of.ensures.same c.in_ok-second.ensures.fine) c.in_ok-first.first c.in_ok-second.second c.in_ok-first.ensures.read
    (λ told. subst (λ (t : List (List ℕ × List ℕ)). IsFileRead t (c.args.base.now ++ codes ".KDCB") c.in_ok-second.second) c.file_of.ensures.same.texts (c.in_ok-second.ensures.read (told_later r k l c.in_ok-first.ensures.fine c.file_of.ensures.same told))) line c.tables_of_files.result c.tables_of_files.ensures.stops
