use Rattle.call_parts.proofs.MadeLines.{make_reports}
use Rattle.call_parts.proofs.MadeReading.{make_is_read}
use Rattle.call_parts.proofs.made_input.laws.make_is_read.Goals as goal

pub returns : goal.returns
returns c = record {
  reads = make_is_read c.made_texts_are_taken.ensures;
  reports = make_reports c.commands_are_said.ensures.commands c.emits_are_lines.ensures c.the_made_application_is_taken.ensures.application;
}
