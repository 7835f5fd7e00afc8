use Rattle.call_parts.proofs.MadeExamples.{script_rows}
use Rattle.call_parts.proofs.made_input.laws.worked_texts.Goals as goal

pub returns : goal.returns
returns c = script_rows
