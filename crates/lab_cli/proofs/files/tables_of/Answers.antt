use Rattle.std.proofs.Common.{◌∙◌, ℕ, Option, sym, subst}
use Rattle.std.specs.Prelude.{IfErr, IfOk, IsTrue}
use Rattle.lab_cli.specs.Places.{StartsOver}
use Rattle.lab_cli.specs.Stops.{StopsOver}
use Rattle.lab_cli.proofs.files.tables_of.Goals as goal

pub returns-in-None-clause-starts : goal.returns-in-None-clause-starts
returns-in-None-clause-starts g c =
    let r = g.R.Room.room c.args.room.now in
    subst (λ (d : Option ℕ). IfOk c.tables_of_one.result (λ t. IsTrue r.told → StartsOver d c.args.generation.now c.args.fingerprint.now c.args.base.now r.texts t)) (sym c.in-None.is ∙ c.double.ensures) c.tables_of_one.ensures.starts

pub returns-in-None-clause-stops : goal.returns-in-None-clause-stops
returns-in-None-clause-stops g c =
    let r = g.R.Room.room c.args.room.now in
    let l = g.R.Room.room c.tables_of_one.new.room in
    subst (λ (d : Option ℕ). IfErr c.tables_of_one.result (StopsOver d c.args.generation.now c.args.fingerprint.now c.args.base.now r l)) (sym c.in-None.is ∙ c.double.ensures) c.tables_of_one.ensures.stops

pub returns-in-Some-clause-starts : goal.returns-in-Some-clause-starts
returns-in-Some-clause-starts g c =
    let r = g.R.Room.room c.args.room.now in
    subst (λ (d : Option ℕ). IfOk c.tables_of_two.result (λ t. IsTrue r.told → StartsOver d c.args.generation.now c.args.fingerprint.now c.args.base.now r.texts t)) (sym c.in-Some.is ∙ c.double.ensures) (c.tables_of_two.ensures.starts c.in-Some.field-0)

pub returns-in-Some-clause-stops : goal.returns-in-Some-clause-stops
returns-in-Some-clause-stops g c =
    let r = g.R.Room.room c.args.room.now in
    let l = g.R.Room.room c.tables_of_two.new.room in
    subst (λ (d : Option ℕ). IfErr c.tables_of_two.result (StopsOver d c.args.generation.now c.args.fingerprint.now c.args.base.now r l)) (sym c.in-Some.is ∙ c.double.ensures) (c.tables_of_two.ensures.stops c.in-Some.field-0)
