use Rattle.std.proofs.Common.{refl}
use Rattle.call_parts.proofs.MadeDefinition.{texts_generate}
use Rattle.call_parts.proofs.MadeScript.{script_read}
use Rattle.call_parts.proofs.made_input.laws.made_texts_are_taken.Goals as goal

pub returns : goal.returns
returns c = record {
  application = texts_generate c.read_statements_are_spelled.ensures c.read_units_are_spelled.ensures;
  applied = refl;
  script = script_read c.commands_are_said.ensures.commands;
}
