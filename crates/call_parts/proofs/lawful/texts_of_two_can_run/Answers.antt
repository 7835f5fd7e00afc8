use Rattle.call_parts.proofs.CanRun.{texts_of_two_run}
use Rattle.call_parts.proofs.lawful.texts_of_two_can_run.Goals as goal

pub returns : goal.returns
returns c = texts_of_two_run c.generations_are_sound.ensures.sound c.generations_are_sound.ensures.fit c.commands_are_said.ensures.commands_only c.says_what_its_lines_say.ensures.trails
