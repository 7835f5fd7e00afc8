use Rattle.std.proofs.Common.{◌++◌, Bool, sym, subst}
use Rattle.std.specs.Prelude.{IfErr, IfOk, IsTrue, codes}
use Rattle.lab_cli.specs.Places.{IsScriptRead, MissesScript}
use Rattle.lab_cli.specs.Stops.{FailsSo}
use Rattle.lab_cli.proofs.Rooms.{read_fails}
use Rattle.lab_cli.proofs.reading.script_of.Goals as goal

pub returns-then-with_script-clause-read : goal.returns-then-with_script-clause-read
returns-then-with_script-clause-read g c =
    let r = g.R.Room.room c.args.room.now in
    subst (λ (w : Bool). IfOk c.text.result (λ text. IsTrue r.told → IsScriptRead w c.args.base.now r.texts text.items)) (sym c.if-with_script.true) c.text.ensures.value

pub returns-then-with_script-clause-fails : goal.returns-then-with_script-clause-fails
returns-then-with_script-clause-fails g c =
    let r = g.R.Room.room c.args.room.now in
    let l = g.R.Room.room c.text.new.room in
    subst (λ (w : Bool). IfErr c.text.result (FailsSo (MissesScript w c.args.base.now r.texts) r l)) (sym c.if-with_script.true) (read_fails (c.args.base.now ++ codes ".script") r l c.text.result c.text.ensures.room c.text.ensures.sure c.text.ensures.memory)

pub returns-else-with_script-clause-read : goal.returns-else-with_script-clause-read
returns-else-with_script-clause-read g c = λ told.
    let r = g.R.Room.room c.args.room.now in
    subst (λ (w : Bool). IsScriptRead w c.args.base.now r.texts c.new.result.items) (sym c.if-with_script.false) c.new.ensures.items
