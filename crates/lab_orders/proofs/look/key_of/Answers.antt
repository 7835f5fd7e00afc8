use Rattle.std.proofs.lemmas.Option.{IfSome_then}
use Rattle.laws_of_runs.specs.Applied.{applied}
use Rattle.lab_orders.proofs.Looking.{keyed}
use Rattle.lab_orders.proofs.look.key_of.Goals as goal

pub returns-clause-keyed : goal.returns-clause-keyed
returns-clause-keyed c =
    IfSome_then c.in_ok-key.key c.in_ok-key.ensures
    (keyed (applied c.args.generation c.args.units) c.args.tables.now c.args.commands.now c.args.frames.now c.requires.way c.in_ok-core.core c.in_ok-core.path c.in_ok-core.place c.in_ok-core.ensures.application c.in_ok-core.ensures.beside c.in_ok-core.ensures.reached)
