use Rattle.script_read.proofs.Fitting.{names_fit}
use Rattle.script_read.proofs.reading.read_script.Goals as goal

pub returns-clause-names : goal.returns-clause-names
returns-clause-names c = names_fit c.args.generation.now c.args.text.now c.commands_of.result c.commands_of.ensures
