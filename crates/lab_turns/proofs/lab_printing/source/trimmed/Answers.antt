use Rattle.lab_turns.proofs.Trimmed.{trimmed_is}
use Rattle.lab_turns.proofs.lab_printing.source.trimmed.Goals as goal

pub returns : goal.returns
returns c = trimmed_is c.args.line.now c.trim_ascii.result.now c.trim_ascii.ensures.value
